-- Demand 3 at the head, of a message: it changes at most the link that it comes on, and only one from that link's own address restarts its
-- watchdog.
-- Assumes nothing.
use Prim.Native.Nat.{ℕ}
use mathlib.Core.Path.{◌≡◌, refl, ap, ◌∙◌}
use mathlib.Core.Bool.{Bool, true, false, ◌||◌, and-eq-true_iff, false≢true}
use mathlib.Core.List.{List}
use mathlib.Core.Option.{Option, none, some}
use borrow.Author.Tests.{eqb-true}
use lib.Dec.{eqb}
use Rattle.laws.specs.Cases.{either}
use Rattle.clock.specs.declared.Quanta.{Quanta}
use Rattle.frame.specs.declared.Address.{Address}
use Rattle.frame.specs.declared.Body.{Body}
use Rattle.frame.specs.declared.Body.TheVariants.{Gate, Discovery, Report, RegisterReq, Register, RegisterAck}
use Rattle.frame.specs.declared.Message.{Message}
use Rattle.frame.specs.declared.RegisterAckFlag.{RegisterAckFlag}
use Rattle.frame.specs.declared.RegisterReqFlag.{RegisterReqFlag}
use Rattle.head_state.specs.declared.Head.{Head}
use Rattle.head_links.specs.Link.{is_registered}
use Rattle.head_links.specs.declared.Link.{Link}
use Rattle.head_survey.specs.Facts.{link_from}
use Rattle.head_table.specs.declared.Event.{Event}
use Rattle.head_hearing.specs.Hear.{is_newcomer, is_for, by_party, on_registered, confirmed, heard_of}
use Rattle.head_plans.specs.declared.Plan.{Plan}
use Rattle.pair_wire.specs.Restarts.{restarts_head}
use Rattle.pair_head.proofs.Links.{May}
use Rattle.pair_head.proofs.Table.{AllBehave, nothing-behaves, changes-behave}

-- only REGISTER_REQ flag 1 may come from another party than the link's own, and it restarts nothing
restarts-own : (body : Body) → restarts_head body ≡ true → is_newcomer body ≡ false
restarts-own (Gate grants) r = refl
restarts-own (Discovery grant sync) r = refl
restarts-own (Report sets) r = refl
restarts-own (RegisterReq flag pending) r = absurd (false≢true r)
restarts-own (Register port flag sync pending) r = refl
restarts-own (RegisterAck flag port sync) r = refl

own-party : (h : Head) (l : Link) (m : Message) → by_party h l m ≡ true → restarts_head m.body ≡ true → m.source ≡ l.address
unfolding by_party
own-party h l m p r =
    let q = ((and-eq-true_iff (is_for h m.destination) (is_newcomer m.body || eqb m.source.0 l.address.0)).0 p).1 in
    let same : eqb m.source.0 l.address.0 ≡ true = rw (restarts-own m.body r) at q in
    ap (λ (n : ℕ). record { 0 = n }) (eqb-true m.source.0 l.address.0 same)

module _ (A : Address) where
  -- a message that restarts a watchdog counts as kept, or is not A's
  abbrev pub Kept : Bool → Option Message → Type 0
  Kept kept none = Unit {0}
  Kept kept (some m) = restarts_head m.body ≡ true → kept ≡ false → ¬ (m.source ≡ A)

  -- what a message does: nothing, or of the link that it comes on a change that lets it behave
  abbrev Touches : Bool → Link → ℕ → Event → Type 0
  Touches kept l link Event.Nothing = Unit {0}
  Touches kept l link Event.Clear = ⊥
  Touches kept l link Event.Tick = ⊥
  Touches kept l link (Event.Leap k) = ⊥
  Touches kept l link (Event.At j c) = (j ≡ link) × May A kept c l

  touches-behave : (kept : Bool) (l : Link) (link : ℕ) (xs : List Link) → l ≡ link_from link 1 xs → (e : Event) → Touches kept l link e
      → AllBehave A 0 kept e 1 xs
  touches-behave kept l link xs q Event.Nothing t = nothing-behaves A kept 1 xs
  touches-behave kept l link xs q Event.Clear t = absurd t
  touches-behave kept l link xs q Event.Tick t = absurd t
  touches-behave kept l link xs q (Event.Leap k) t = absurd t
  touches-behave kept l link xs q (Event.At j c) t = changes-behave A kept j c xs (rw (t.0, ← q) t.1)

  module _ (kept : Bool) (h : Head) (l : Link) (link : ℕ) (trip : Quanta) where
    abbrev Does : Plan → Type 0
    Does p = Touches kept l link p.event

    message-does : (body : Body) → (restarts_head body ≡ true → kept ≡ false → ¬ (l.address ≡ A)) → Does (heard_of body h l link trip)
    unfolding on_registered confirmed
    message-does (Gate grants) c = tt
    message-does (Discovery grant sync) c = tt
    message-does (Report sets) c = either Does (is_registered l.state) _ _ (λ _. (refl, c refl)) (λ _. tt)
    message-does (RegisterReq RegisterReqFlag.Register pending) c = tt
    message-does (RegisterReq RegisterReqFlag.Deregister pending) c = either Does (is_registered l.state) _ _ (λ _. (refl, tt)) (λ _. tt)
    message-does (Register port flag sync pending) c = tt
    message-does (RegisterAck RegisterAckFlag.Ack port sync) c = either Does (is_registered l.state) _ _ (λ _. tt) (λ _. (refl, c refl))
    message-does (RegisterAck RegisterAckFlag.Nack port sync) c = either Does (is_registered l.state) _ _ (λ _. tt) (λ _. (refl, tt))

  -- a message that its link's own address sent, where the tests need that
  pub message-behaves : (kept : Bool) (h : Head) (l : Link) (link : ℕ) (m : Message) (trip : Quanta) (xs : List Link) → l ≡ link_from link 1 xs
      → by_party h l m ≡ true → Kept kept (some m) → AllBehave A 0 kept (heard_of m.body h l link trip).event 1 xs
  message-behaves kept h l link m trip xs e p k =
      touches-behave kept l link xs e (heard_of m.body h l link trip).event
      (message-does kept h l link trip m.body (λ s z q. k s z (own-party h l m p s ∙ q)))
