-- Lemmas: a call that is no tick changes at most the link that it is about, and a rejection none.
-- Assumes nothing.
use Rattle.std.specs.Prelude.{ℕ, suc, ◌≤◌, ◌≡◌, refl, List, [], ◌∷◌, ◌≢◌, eqb, length}
use Rattle.std.proofs.Common.{sym, ap, ◌∙◌, arith, eqb-true}
use Rattle.laws.specs.Cases.{either}
use Rattle.clock.specs.declared.Quanta.{Quanta}
use Rattle.frame.specs.Tests.{Passed}
use Rattle.frame.specs.declared.Address.{Address}
use Rattle.frame.specs.declared.Reply.TheVariants.{Output, Unsound}
use Rattle.head_state.specs.declared.Head.{Head}
use Rattle.lent.specs.Folds.{places}
use Rattle.head_links.specs.declared.Change.{Change}
use Rattle.head_links.specs.declared.Link.{Link}
use Rattle.head_links.specs.declared.Stepped.{Stepped}
use Rattle.head_survey.specs.Facts.{link_from}
use Rattle.head_table.specs.Events.{reacted, driven_of}
use Rattle.head_table.specs.declared.Event.{Event}
use Rattle.head_table.specs.declared.Sender.{Sender}
use Rattle.head_plans.specs.declared.Plan.{Plan}
use Rattle.head_judging.specs.declared.Call.{Call}
use Rattle.head_calls.specs.Serve.{sender_of, done_of, plan_of, serve_of}
use Rattle.head_laws.specs.Calls.{tests, planned, known, Outcome, unsound, short, refuses, accepts, outcome}
use Rattle.head_laws.specs.Events.{nothing-keeps}
use Rattle.head_laws.specs.Frames.{nothing-frames, frames-apart}
use Rattle.head_laws.specs.Stated.{link_frames, frames_of, call_frames, NotTick}
use Rattle.head_laws.specs.Handed.{planned-apart, refused-frames}
use Rattle.head_laws.specs.Heard.{Heeds, heard-message}
use Rattle.head_laws.specs.Numbered.{changed-one}
use Rattle.head_laws.specs.Places.{elsewhere}

-- the link that a request is about; 0 is no link
abbrev pub about : Call → List Link → ℕ
about (Call.Open start length sync window) xs = 0
about (Call.Admit a pending sync) xs = (known xs (Call.Admit a pending sync)).idle
about (Call.Reject a pending sync) xs = 0
about (Call.Reregister link sync) xs = link
about (Call.Deregister link) xs = link
about (Call.Gate link asked) xs = link
about (Call.Hear link m) xs = link
about Call.Tick xs = 0
about (Call.Advance n) xs = 0

-- an event that changes at most the link of that number
abbrev Concerns : Event → ℕ → Type 0
Concerns Event.Nothing number = Unit {0}
Concerns Event.Clear number = ⊥
Concerns Event.Tick number = ⊥
Concerns (Event.Leap k) number = ⊥
Concerns (Event.At j c) number = j ≡ number

heeds-concerns : (e : Event) (l : Link) (link : ℕ) → Heeds e l link → Concerns e link
heeds-concerns Event.Nothing l link t = tt
heeds-concerns Event.Clear l link t = t
heeds-concerns Event.Tick l link t = t
heeds-concerns (Event.Leap k) l link t = t
heeds-concerns (Event.At j c) l link t = t.0

planned-concerns : (r : Call) (h : Head) (xs : List Link) → NotTick r → Passed (tests r h (known xs r))
    → Concerns (planned r h (known xs r)).event (about r xs)
planned-concerns (Call.Open start length sync window) h xs n t = tt
planned-concerns (Call.Admit a pending sync) h xs n t = refl
planned-concerns (Call.Reject a pending sync) h xs n t = tt
planned-concerns (Call.Reregister link sync) h xs n t = refl
planned-concerns (Call.Deregister link) h xs n t = refl
planned-concerns (Call.Gate link asked) h xs n t = refl
planned-concerns (Call.Hear link m) h xs n t =
    let f = known xs (Call.Hear link m) in
    heeds-concerns (planned (Call.Hear link m) h f).event f.link link (heard-message h f.link link m t.1.0).event
planned-concerns Call.Tick h xs n t = absurd n
planned-concerns (Call.Advance m) h xs n t = absurd n

-- the link of another number stays
at-keeps : (j n k : ℕ) (c : Change) (xs : List Link) → n ≢ j → link_from n k (places (reacted (Event.At j c)) k xs) ≡ link_from n k xs
unfolding places
at-keeps j n k c [] d = refl
at-keeps j n k c (x ∷ xs) d =
    either (λ (l : Link). l ≡ link_from n k (x ∷ xs)) (eqb k n) _ _
    (λ t.
    let e = eqb-true k n t in
    ap (λ (s : Stepped). s.link) (elsewhere j k c x (λ (q : j ≡ k). d (sym (q ∙ e)))) ∙ rw t)
    (λ t. at-keeps j n (suc k) c xs d ∙ rw t)

event-keeps : (e : Event) (j n : ℕ) (xs : List Link) → Concerns e j → n ≢ j → link_from n 1 (driven_of e xs) ≡ link_from n 1 xs
event-keeps Event.Nothing j n xs q d = rw (nothing-keeps xs)
event-keeps Event.Clear j n xs q d = absurd q
event-keeps Event.Tick j n xs q d = absurd q
event-keeps (Event.Leap k) j n xs q d = absurd q
event-keeps (Event.At i c) j n xs q d = at-keeps i n 1 c xs (λ (p : n ≡ i). d (p ∙ q))

plan-touches : (h : Head) (xs : List Link) (r : Call) (room : ℕ) (p : Plan) → NotTick r → Outcome h xs r room p
    → (n : ℕ) → n ≢ about r xs → link_from n 1 (driven_of p.event xs) ≡ link_from n 1 xs
plan-touches h xs r room p i (unsound f e) n d = rw (e, nothing-keeps xs)
plan-touches h xs r room p i (short f k e) n d = rw (e, nothing-keeps xs)
plan-touches h xs r room p i (refuses f k x a b c e) n d = rw (e, nothing-keeps xs)
plan-touches h xs r room p i (accepts f k t e) n d =
    rw e (event-keeps (planned r h (known xs r)).event (about r xs) n xs (planned-concerns r h xs i t) d)

concerns-one : (e : Event) (j : ℕ) (s : Sender) (xs : List Link) → Concerns e j → length (link_frames e s 1 xs) ≤ 1
concerns-one Event.Nothing j s xs q = rw (nothing-frames s 1 xs) (omega arith)
concerns-one Event.Clear j s xs q = absurd q
concerns-one Event.Tick j s xs q = absurd q
concerns-one (Event.Leap k) j s xs q = absurd q
concerns-one (Event.At i c) j s xs q = changed-one i c s 1 xs

plan-one : (h : Head) (xs : List Link) (r : Call) (room : ℕ) (p : Plan) → NotTick r → Outcome h xs r room p → length (frames_of p xs) ≤ 1
plan-one h xs r room p i (unsound f e) = rw (e, refused-frames h Unsound xs) (omega arith)
plan-one h xs r room p i (short f k e) = rw (e, refused-frames h Output xs) (omega arith)
plan-one h xs r room p i (refuses f k x a b c e) = rw (e, refused-frames h x xs) (omega arith)
plan-one h xs r room p i (accepts f k t e) =
    let q = planned r h (known xs r) in
    rw e
    (frames-apart q xs 1 (planned-apart r h (known xs r) t) (omega arith)
    (concerns-one q.event (about r xs) (sender_of q) xs (planned-concerns r h xs i t)))

rejected : (h : Head) (xs : List Link) (a : Address) (pending : ℕ) (sync : Quanta) (room : ℕ) (p : Plan)
    → Outcome h xs (Call.Reject a pending sync) room p → (p.head ≡ h) × (driven_of p.event xs ≡ xs)
rejected h xs a pending sync room p (unsound f e) = rw (e, nothing-keeps xs) (refl, refl)
rejected h xs a pending sync room p (short f k e) = rw (e, nothing-keeps xs) (refl, refl)
rejected h xs a pending sync room p (refuses f k x b c d e) = rw (e, nothing-keeps xs) (refl, refl)
rejected h xs a pending sync room p (accepts f k t e) = rw (e, nothing-keeps xs) (refl, refl)

module _ (h : Head) (xs : List Link) (os : List ℕ) where
  -- a call that is no tick leaves every link as it was but the one that it is about
  pub call-touches : (r : Call) → NotTick r → (n : ℕ) → n ≢ about r xs → link_from n 1 (serve_of h xs r os).table ≡ link_from n 1 xs
  unfolding serve_of done_of
  call-touches r i = plan-touches h xs r (length os) (plan_of h xs r (length os)) i (outcome h xs r (length os))

  -- and hands out one frame at most
  pub call-one : (r : Call) → NotTick r → length (call_frames h xs r os) ≤ 1
  call-one r i = plan-one h xs r (length os) (plan_of h xs r (length os)) i (outcome h xs r (length os))

  -- a rejection changes no state: neither the head nor any link
  pub reject-keeps : (a : Address) (pending : ℕ) (sync : Quanta)
      → ((serve_of h xs (Call.Reject a pending sync) os).answer.next ≡ h) × ((serve_of h xs (Call.Reject a pending sync) os).table ≡ xs)
  unfolding serve_of done_of
  reject-keeps a pending sync =
      let r = Call.Reject a pending sync in
      rejected h xs a pending sync (length os) (plan_of h xs r (length os)) (outcome h xs r (length os))
