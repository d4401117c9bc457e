-- Lemmas: R191 to R195 at the box: what an advance is worth. It is the iterated single ticks by its promise (the page Advance of box_calls).
-- Assumes nothing.
use Rattle.std.specs.Prelude.{ℕ, zero, suc, ◌+◌, ◌≤◌, ◌≡◌, refl, true, false}
use Rattle.std.proofs.Common.{⊎_elim, arith}
use Rattle.laws.specs.Cases.{decided}
use Rattle.laws.specs.Jump.{ticks-next, ticks-told, ticks-end}
use Rattle.laws.specs.Ticks.{ticks}
use Rattle.clock.specs.Laws.{reach-parts}
use Rattle.clock.specs.Numbers.{is_in_reach}
use Rattle.frame.specs.declared.Reply.TheVariants.{Done, Grant, Unsound}
use Rattle.box_calls.specs.Advance.{is_done, is_silent, again, out, advance_of}
use Rattle.box_calls.specs.Answer.{bare, refused}
use Rattle.box_calls.specs.Box.{sound_of, tick_of}
use Rattle.box_calls.specs.declared.Advanced.{Advanced}
use Rattle.box_calls.specs.declared.Answer.{Answer}
use Rattle.box_calls.specs.declared.FloorBox.{FloorBox}
use Rattle.box_laws.specs.Stated.{tick, Run, calls}
use Rattle.box_laws.proofs.Runs.{run-tick-done, run_sound}

-- an advance from a box that a run reaches: every tick is done, so that at least one is made, and the box after it is one that a run reaches
abbrev Comes : ℕ → ℕ → Advanced → Type 0
Comes m k x = Run x.answer.next × (x.answer.reply ≡ Done) × (m ≤ x.made) × (x.made ≤ m + k)

done-is : (r : Answer) → r.reply ≡ Done → is_done r ≡ true
unfolding is_done
done-is r e = rw e

run-ticks : (k m : ℕ) (r : Answer) → Run r.next → r.reply ≡ Done → Comes m k (ticks again is_done is_silent out k r m)
run-ticks zero m r u d = rw (ticks-end again is_done is_silent out 0 m r refl) (u, d, omega arith, omega arith)
run-ticks (suc k) m r u d =
    let e = run-tick-done u in
    let p = run-ticks k (m + 1) (again r) (calls r.next u tick) e in
    ⊎_elim
    (λ (s : is_silent r ≡ true).
    rw (ticks-next again is_done is_silent out k m r (again r) s refl (done-is (again r) e)) (p.0, p.1, omega (arith, p.2), omega (arith, p.3)))
    (λ (s : is_silent r ≡ false). rw (ticks-told again is_done is_silent out (suc k) m r s) (u, d, omega arith, omega arith))
    (decided (is_silent r))

-- at least one tick is made
run-first : (k : ℕ) (b : FloorBox) → Run b → Comes 1 k (ticks again is_done is_silent out (suc k) (bare b Done) 0)
unfolding is_silent
run-first k b u =
    let e = run-tick-done u in
    rw (ticks-next again is_done is_silent out k 0 (bare b Done) (tick_of b) refl refl (done-is (tick_of b) e)) (run-ticks k 1 (tick_of b) (calls b u tick) e)

-- from a fresh start only 9 refuses; else 1 to n ticks are made, and the box is one that a run reaches
pub run-advance : {b : FloorBox} → Run b → (n : ℕ) → is_in_reach n ≡ true
    → Run (advance_of b n).answer.next × ((advance_of b n).answer.reply ≡ Done) × (1 ≤ (advance_of b n).made) × ((advance_of b n).made ≤ n)
unfolding advance_of
run-advance {b} u n h =
    let p = reach-parts n h in
    rw (run_sound u, h) (some n p.0)
  where
    some : (m : ℕ) → 1 ≤ m
        → Run (ticks again is_done is_silent out m (bare b Done) 0).answer.next
        × ((ticks again is_done is_silent out m (bare b Done) 0).answer.reply ≡ Done)
        × (1 ≤ (ticks again is_done is_silent out m (bare b Done) 0).made)
        × ((ticks again is_done is_silent out m (bare b Done) 0).made ≤ m)
    some zero l = absurd (omega arith)
    some (suc k) l =
        let c = run-first k b u in
        (c.0, c.1, c.2, omega (arith, c.3))

pub run-reach : {b : FloorBox} → Run b → (n : ℕ) → is_in_reach n ≡ false → advance_of b n ≡ out (refused b Grant) 0
unfolding advance_of
run-reach u n h = rw (run_sound u, h)

-- 13 comes first
pub unsound-advance : (b : FloorBox) (n : ℕ) → sound_of b ≡ false → advance_of b n ≡ out (refused b Unsound) 0
unfolding advance_of
unsound-advance b n h = rw h
