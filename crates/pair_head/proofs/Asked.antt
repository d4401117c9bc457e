-- Demand 3's numbers are exact at the head, of a request: an admitted link waits with a full wait, and a head that deregisters the link of an
-- address holds none for it.
-- Assumes nothing.
use Prim.Native.Nat.{ℕ, ◌^◌, ◌<◌}
use mathlib.Core.Path.{◌≡◌, refl, sym, ap, subst, ◌∙◌}
use mathlib.Core.Bool.{true, false, not, and-eq-true_iff, true≢false, false≢true}
use mathlib.Core.List.{List, [], ◌∷◌, map}
use mathlib.Core.Logic.{◌≢◌, ⊎_elim}
use native.Mathlib.Omega.{arith}
use borrow.Author.Tests.{ne_eqb}
use lib.Dec.{eqb}
use lib.ListN.{length}
use Rattle.laws.specs.Cases.{decided}
use Rattle.clock.specs.Numbers.{fits}
use Rattle.clock.specs.declared.Count.{Count}
use Rattle.clock.specs.declared.Quanta.{Quanta}
use Rattle.frame.specs.Layout.{encode}
use Rattle.frame.specs.Tests.{Passed}
use Rattle.frame.specs.declared.Address.{Address}
use Rattle.frame.specs.declared.Body.TheVariants.{Discovery, Register}
use Rattle.frame.specs.declared.Message.{Message}
use Rattle.frame.specs.declared.RegisterFlag.{RegisterFlag}
use Rattle.frame_range.specs.Fits.{is_individual}
use Rattle.head_state.specs.Head.{with_window}
use Rattle.head_state.specs.Window.{is_idle, opened}
use Rattle.head_links.specs.Link.{idle, is_held, is_registered}
use Rattle.head_links.specs.declared.Link.{Link}
use Rattle.head_survey.specs.Facts.{is_few, any_holds, idle_from, link_from}
use Rattle.head_table.specs.Output.{message_of}
use Rattle.head_requests.specs.Client.{fits_lengths, may_open, fits_party}
use Rattle.head_judging.specs.Judge.{look_of}
use Rattle.head_judging.specs.declared.Call.{Call}
use Rattle.head_laws.specs.Calls.{tests, known}
use Rattle.head_laws.specs.Stated.{from}
use Rattle.head_laws.specs.Events.{table-parts}
use Rattle.head_laws.specs.Links.{held_at, holds_at}
use Rattle.head_laws.specs.Numbered.{Has, none-idle}
use Rattle.head_laws.specs.Requests.{admit-does, open-does, deregister-does}
use Rattle.head_laws.specs.Runs.{run_sound, run-count}
use Rattle.head_laws.specs.Sound.{facts-link, facts-idle, facts-held}
use Rattle.head_laws.specs.Touches.{call-touches}
use Rattle.pair_demand.specs.Run.{Holds}
use Rattle.pair_head.specs.End.{HeadState, link_at, asked, HeldLink, RegisteredLink, HeadEnd}
use Rattle.pair_head.proofs.Exact.{WaitingFor}
use Rattle.pair_head.proofs.Octets.{call-sent}
use Rattle.pair_head.proofs.Once.{holds-number, held-once}
use Rattle.pair_head.proofs.Ready.{Ready, Taken, ready-done, ready-taken}

module _ {out : List ℕ} {s : HeadState} (y : Ready out s) (A : Address) where
  abbrev xs : List Link
  xs = s.table

  few : is_few (length xs) ≡ true
  few = (table-parts xs (run_sound y.ok).table).0

  -- no link is held for A
  none-held : ¬ Holds (HeadEnd A) s → any_holds A xs ≡ false
  none-held off =
      ⊎_elim
      (λ (h : any_holds A xs ≡ true).
      let f = holds-number A 1 xs h in
      absurd (off (f.0, held_at A (link_from f.0 1 xs) f.1)))
      (λ (h : any_holds A xs ≡ false). h)
      (decided (any_holds A xs))

  -- some link is idle
  some-idle : (n : ℕ) → Has 1 xs n → is_held (link_at s n).state ≡ false → eqb (idle_from 1 xs) 0 ≡ false
  some-idle n has i =
      ne_eqb (idle_from 1 xs) 0 (λ (e : idle_from 1 xs ≡ 0). true≢false (sym (none-idle 1 xs (omega arith) e n has) ∙ i))

  -- admit
  module _ (pending : ℕ) (sync : Quanta) where
    abbrev admit : Call
    admit = Call.Admit A pending sync

    admit-passes : is_individual A ≡ true → fits sync ≡ true → ¬ Holds (HeadEnd A) s → eqb (idle_from 1 xs) 0 ≡ false
        → Passed (tests admit s.head (known xs admit))
    unfolding fits_party
    admit-passes a b off i = (
      (and-eq-true_iff (is_individual A) (fits sync)).1 (a, b),
      (
        ap not (facts-held xs (look_of admit) few ∙ none-held off),
        (ap not (ap (λ (j : ℕ). eqb j 0) (facts-idle xs (look_of admit) few) ∙ i), tt),
      ),
    )

    -- the lowest idle link waits, and REGISTER ack goes out
    pub admit-waits : is_individual A ≡ true → fits sync ≡ true → pending < 2 ^ 8 → ¬ Holds (HeadEnd A) s
        → (n : ℕ) → Has 1 xs n → is_held (link_at s n).state ≡ false
        → (let x = asked s admit out in
        Taken out x
        × WaitingFor A 3_125_000 (link_at x.next (idle_from 1 xs))
        × (x.sent ≡ encode (message_of (from s.head) A (Register (idle_from 1 xs) RegisterFlag.Ack sync pending)) ∷ []))
    admit-waits a b p off n has i =
        let d = ready-done y admit (admit-passes a b off (some-idle n has i)) in
        let does = admit-does s.head xs out A pending sync d in (
          ready-taken y admit d,
          subst (WaitingFor A 3_125_000) (sym does.link) (refl, refl, refl),
          call-sent s admit out p (run-count y.ok) ∙ ap (map encode) does.frames,
        )

  -- open: the links are as they were, and the discovery GATE goes out
  module _ (start : Count) (length sync window : Quanta) where
    abbrev open-window : Call
    open-window = Call.Open start length sync window

    abbrev discovery : Message
    discovery =
        message_of (from s.head) (record { 0 = 0x0180C2000001 }) (Discovery (record { start = start; length = length; force = false }) sync)

    pub open-sends : is_idle s.head.window ≡ true → fits_lengths length sync ≡ true
        → may_open s.head.count start length sync window ≡ true → start.0 < 2 ^ 32
        → (let x = asked s open-window out in
        Taken out x
        × (x.next ≡ record { head = with_window s.head (opened s.head.count start window); table = xs })
        × (x.sent ≡ encode discovery ∷ []))
    open-sends i f m k =
        let d = ready-done y open-window (i, (f, (m, tt))) in
        let does = open-does s.head xs out start length sync window d in (
          ready-taken y open-window d,
          λ j. record { head = does.head j; table = does.table j },
          call-sent s open-window out k (run-count y.ok) ∙ ap (map encode) does.frames,
        )

  -- deregister
  module _ (n : ℕ) (g : RegisteredLink A (link_at s n)) where
    abbrev drop : Call
    drop = Call.Deregister n

    found : (known xs drop).link ≡ link_at s n
    found = facts-link xs (look_of drop) few

    drop-passes : Passed (tests drop s.head (known xs drop))
    drop-passes = (
      ap (λ (l : Link). is_held l.state) found ∙ ap is_held g.0,
      (ap (λ (l : Link). is_registered l.state) found ∙ ap is_registered g.0, tt),
    )

    -- no other link was held for A
    gone : link_at (asked s drop out).next n ≡ idle → (m : ℕ) → ¬ HeldLink A (link_at (asked s drop out).next m)
    gone e m h =
        let other : m ≢ n = λ (q : m ≡ n). false≢true (sym (ap (λ (l : Link). is_held l.state) e) ∙ rw q at h.0) in
        let kept = subst (HeldLink A) (call-touches s.head xs out drop tt m other) h in
        other
        (held-once A m n 1 xs (table-parts xs (run_sound y.ok).table).2 (holds_at A (link_at s m) kept.0 kept.1)
        (holds_at A (link_at s n) (ap is_held g.0) g.1))

    pub deregister-none : Taken out (asked s drop out) × (¬ Holds (HeadEnd A) (asked s drop out).next)
    deregister-none =
        let d = ready-done y drop drop-passes in
        (ready-taken y drop d, λ h. gone (deregister-does s.head xs out n d).link h.0 h.1)
