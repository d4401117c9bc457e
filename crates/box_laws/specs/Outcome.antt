-- Lemmas: the four ways that an advance of a box comes out, whatever its state: 13, 9, the refusal of its first tick, or at least one tick made.
-- Assumes nothing.
use Rattle.std.specs.Prelude.{ℕ, zero, suc, ◌+◌, ◌≤◌, ◌≡◌, refl, true, false}
use Rattle.std.proofs.Common.{sym, subst, ⊎_elim, arith}
use Rattle.laws.specs.Cases.{decided}
use Rattle.laws.specs.Jump.{ticks-next, ticks-first, ticks-refused, ticks-told, ticks-end}
use Rattle.laws.specs.Ticks.{ticks}
use Rattle.clock.specs.Laws.{reach-parts}
use Rattle.clock.specs.Numbers.{is_in_reach}
use Rattle.frame.specs.declared.Reply.TheVariants.{Done, Grant, Unsound}
use Rattle.box_calls.specs.Advance.{is_done, is_silent, again, out, advance_of}
use Rattle.box_calls.specs.Answer.{bare, refused}
use Rattle.box_calls.specs.Box.{sound_of, tick_of}
use Rattle.box_calls.specs.declared.Advanced.{Advanced}
use Rattle.box_calls.specs.declared.Answer.{Answer}
use Rattle.box_calls.specs.declared.FloorBox.{FloorBox}

pub data Outcome (b : FloorBox) (n : ℕ) (x : Advanced) : Type 0 where
  unsound : sound_of b ≡ false → x ≡ out (refused b Unsound) 0 → Outcome b n x
  beyond : sound_of b ≡ true → is_in_reach n ≡ false → x ≡ out (refused b Grant) 0 → Outcome b n x
  refuses : sound_of b ≡ true → is_done (tick_of b) ≡ false → x ≡ out (tick_of b) 0 → Outcome b n x
  makes : sound_of b ≡ true → is_done x.answer ≡ true → 1 ≤ x.made → x.made ≤ n → Outcome b n x

-- after the first tick
abbrev Goes : ℕ → ℕ → Advanced → Type 0
Goes m k x = (is_done x.answer ≡ true) × (m ≤ x.made) × (x.made ≤ m + k)

goes : (k m : ℕ) (r : Answer) → 1 ≤ m → is_done r ≡ true → Goes m k (ticks again is_done is_silent out k r m)
goes zero m r h d = rw (ticks-end again is_done is_silent out 0 m r refl) (d, omega arith, omega arith)
goes (suc k) m r h d =
    ⊎_elim
    (λ (s : is_silent r ≡ true).
    ⊎_elim
    (λ (e : is_done (again r) ≡ true).
    let p = goes k (m + 1) (again r) (omega arith) e in
    rw (ticks-next again is_done is_silent out k m r (again r) s refl e) (p.0, omega (arith, p.1), omega (arith, p.2)))
    (λ (e : is_done (again r) ≡ false).
    rw (ticks-refused again is_done is_silent out k m r (again r) s refl e (λ (z : m ≡ 0). omega arith)) (d, omega arith, omega arith))
    (decided (is_done (again r))))
    (λ (s : is_silent r ≡ false). rw (ticks-told again is_done is_silent out (suc k) m r s) (d, omega arith, omega arith))
    (decided (is_silent r))

first : (b : FloorBox) (n : ℕ) → sound_of b ≡ true → 1 ≤ n → Outcome b n (ticks again is_done is_silent out n (bare b Done) 0)
unfolding is_silent
first b zero s h = absurd (omega arith)
first b (suc k) s h =
    ⊎_elim
    (λ (e : is_done (tick_of b) ≡ true).
    let p = goes k 1 (tick_of b) (omega arith) e in
    subst (Outcome b (suc k)) (sym (ticks-next again is_done is_silent out k 0 (bare b Done) (tick_of b) refl refl e))
    (makes s p.0 p.1 (omega (arith, p.2))))
    (λ (e : is_done (tick_of b) ≡ false). refuses s e (ticks-first again is_done is_silent out k (bare b Done) (tick_of b) refl refl e))
    (decided (is_done (tick_of b)))

pub outcome : (b : FloorBox) (n : ℕ) → Outcome b n (advance_of b n)
unfolding advance_of
outcome b n =
    ⊎_elim
    (λ (s : sound_of b ≡ true).
    ⊎_elim (λ (i : is_in_reach n ≡ true). rw (s, i) (first b n s (reach-parts n i).0)) (λ (i : is_in_reach n ≡ false). beyond s i (rw (s, i))) (decided (is_in_reach n)))
    (λ (s : sound_of b ≡ false). unsound s (rw s))
    (decided (sound_of b))
