-- Lemmas: a message changes the head in nothing, and at most the link that it came on, by a change that this link's state allows.
-- Assumes nothing.
use Rattle.std.specs.Prelude.{None, ℕ, ◌≡◌, refl, true, List}
use Rattle.laws.specs.Cases.{either}
use Rattle.clock.specs.Counts.{round_trip}
use Rattle.clock.specs.declared.Quanta.{Quanta}
use Rattle.frame.specs.declared.Body.{Body}
use Rattle.frame.specs.declared.Body.TheVariants.{Gate, Discovery, Report, RegisterReq, Register, RegisterAck}
use Rattle.frame.specs.declared.Message.{Message}
use Rattle.frame.specs.declared.RegisterAckFlag.{RegisterAckFlag}
use Rattle.frame.specs.declared.RegisterReqFlag.{RegisterReqFlag}
use Rattle.frame.specs.declared.Reply.TheVariants.{Done}
use Rattle.head_state.specs.declared.Head.{Head}
use Rattle.head_links.specs.Link.{is_held, is_registered}
use Rattle.head_links.specs.declared.Change.{Change}
use Rattle.head_links.specs.declared.Link.{Link}
use Rattle.head_table.specs.declared.Event.{Event}
use Rattle.head_hearing.specs.Hear.{on_link, on_registered, confirmed_by, confirmed, requested, heard_of}
use Rattle.head_plans.specs.declared.Kind.{Kind}
use Rattle.head_plans.specs.declared.Plan.{Plan}
use Rattle.head_laws.specs.Steps.{Allowed}

-- the changes that a message can make, and of which link
abbrev pub ByMessage : Change → Link → Type 0
ByMessage (Change.Admit a pending sync) l = ⊥
ByMessage (Change.Reregister sync) l = ⊥
ByMessage Change.Deregister l = Unit {0}
ByMessage (Change.Gate grants) l = ⊥
ByMessage Change.Register l = is_held l.state ≡ true
ByMessage Change.Report l = is_registered l.state ≡ true

pub message-allowed : (c : Change) (l : Link) (xs : List Link) → ByMessage c l → Allowed c l xs
message-allowed (Change.Admit a pending sync) l xs b = absurd b
message-allowed (Change.Reregister sync) l xs b = absurd b
message-allowed Change.Deregister l xs b = tt
message-allowed (Change.Gate grants) l xs b = absurd b
message-allowed Change.Register l xs b = b
message-allowed Change.Report l xs b = b

abbrev pub Heeds : Event → Link → ℕ → Type 0
Heeds Event.Nothing l link = Unit {0}
Heeds Event.Clear l link = ⊥
Heeds Event.Tick l link = ⊥
Heeds (Event.Leap k) l link = ⊥
Heeds (Event.At number c) l link = (number ≡ link) × ByMessage c l

-- what is planned for a message on a link
pub record Heard (h : Head) (l : Link) (link : ℕ) (p : Plan) : Type 0 where
  pub reply : p.reply ≡ Done
  pub head : p.head ≡ h
  pub lead : p.lead ≡ None
  pub event : Heeds p.event l link

module _ (h : Head) (l : Link) (link : ℕ) (trip : Quanta) where
  registered-heard : (c : Change) (kind : Kind) → (is_registered l.state ≡ true → ByMessage c l) → Heard h l link (on_registered c kind h l link trip)
  unfolding on_registered
  registered-heard c kind b =
      either (Heard h l link) (is_registered l.state) _ _ (λ i. record { reply = refl; head = refl; lead = refl; event = (refl, b i) })
      (λ _. record { reply = refl; head = refl; lead = refl; event = tt })

  confirmed-by : (flag : RegisterAckFlag) → is_held l.state ≡ true → Heard h l link (confirmed_by flag h link trip)
  confirmed-by RegisterAckFlag.Ack i = record { reply = refl; head = refl; lead = refl; event = (refl, i) }
  confirmed-by RegisterAckFlag.Nack i = record { reply = refl; head = refl; lead = refl; event = (refl, tt) }

  confirmed-heard : (flag : RegisterAckFlag) → is_held l.state ≡ true → Heard h l link (confirmed flag h l link trip)
  unfolding confirmed
  confirmed-heard flag i =
      either (Heard h l link) (is_registered l.state) _ _ (λ _. record { reply = refl; head = refl; lead = refl; event = tt })
      (λ _. confirmed-by flag i)

  requested-heard : (flag : RegisterReqFlag) → Heard h l link (requested flag h l link trip)
  requested-heard RegisterReqFlag.Register = record { reply = refl; head = refl; lead = refl; event = tt }
  requested-heard RegisterReqFlag.Deregister = registered-heard Change.Deregister Kind.Dropped (λ _. tt)

  heard : (body : Body) → on_link body l link ≡ true → Heard h l link (heard_of body h l link trip)
  unfolding on_link
  heard (Gate grants) i = record { reply = refl; head = refl; lead = refl; event = tt }
  heard (Discovery grant sync) i = record { reply = refl; head = refl; lead = refl; event = tt }
  heard (Report sets) i = registered-heard Change.Report (Kind.Report sets) (λ r. r)
  heard (RegisterReq flag pending) i = requested-heard flag
  heard (Register port flag sync pending) i = record { reply = refl; head = refl; lead = refl; event = tt }
  heard (RegisterAck flag port sync) i = confirmed-heard flag i

-- a message on a link that it may come on
pub heard-message : (h : Head) (l : Link) (link : ℕ) (m : Message) → on_link m.body l link ≡ true
    → Heard h l link (heard_of m.body h l link (record { 0 = round_trip h.count.0 m.timestamp.0 }))
heard-message h l link m = heard h l link (record { 0 = round_trip h.count.0 m.timestamp.0 }) m.body
