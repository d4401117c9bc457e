-- Code: a turn of the loop that advances a box, and its end; and an advance that needs no loop. `ticks` of laws ties them to R193.
-- Assumes nothing.
use Rattle.std.specs.Prelude.{ℕ, ◌+◌, ◌-◌, ◌≤◌, ◌<◌, min, ◌≡◌, refl, true, false, ◌≢◌}
use Rattle.std.proofs.Common.{sym, ap, ◌∙◌, arith, ne_eqb}
use Rattle.laws.specs.Jump.{ticks-told, ticks-end, jump, turn-next, turn-first, turn-refused}
use Rattle.laws.specs.Ticks.{ticks}
use Rattle.clock.specs.Laws.{reach-parts}
use Rattle.clock.specs.Numbers.{is_in_reach}
use Rattle.frame.specs.declared.Reply.TheVariants.{Done}
use Rattle.box_calls.specs.Advance.{is_done, is_silent, again, out, advance_of}
use Rattle.box_calls.specs.Answer.{bare}
use Rattle.box_calls.specs.Box.{tick_of}
use Rattle.box_calls.specs.Leap.{passed_of, leap_of, quiet_after}
use Rattle.box_calls.specs.Pass.{quiet_of}
use Rattle.box_calls.specs.Quiet.{quiet-sound, box-jumps}
use Rattle.box_calls.specs.declared.Advanced.{Advanced}
use Rattle.box_calls.specs.declared.Answer.{Answer}
use Rattle.box_calls.specs.declared.FloorBox.{FloorBox}

abbrev pub box_ticks : ℕ → Answer → ℕ → Advanced
box_ticks = ticks again is_done is_silent out

-- before the first tick nothing is handed out
pub bare-silent : (b : FloorBox) (r : Answer) → r ≡ bare b Done → is_silent r ≡ true
unfolding is_silent
bare-silent b r e = rw e

pub whole : (b : FloorBox) (n : ℕ) (r : Answer) → r ≡ bare b Done → box_ticks (n - 0) r 0 ≡ box_ticks n (bare b Done) 0
whole b n r e =
    let z : n - 0 ≡ n = omega arith in
    rw (z, e)

-- the loop's end
pub turn_end : (n m : ℕ) (r : Answer) → n ≤ m → box_ticks (n - m) r m ≡ out r m
turn_end n m r h = ticks-end again is_done is_silent out (n - m) m r (omega arith)

-- k ticks are passed, and one more is made
module _ (n m k q : ℕ) (r p x : Answer) (s : is_silent r ≡ true) (t : m < n) (many : q ≡ quiet_of r.next) (some : k ≡ min q (n - m - 1))
    (leapt : p ≡ leap_of k r) (ticked : x ≡ tick_of p.next) where
  next-is : again (leap_of k r) ≡ x
  next-is = sym (ticked ∙ ap (λ (y : Answer). tick_of y.next) leapt)

  pub within : m + k < n
  within = omega arith

  sure : k ≤ quiet_after r
  sure = omega arith

  pub made-next : is_done x ≡ true → box_ticks (n - m) r m ≡ box_ticks (n - (m + k + 1)) x (m + k + 1)
  made-next d = turn-next again is_done is_silent out leap_of quiet_after box-jumps n m k r s sure within x next-is d

  pub made-last : is_done x ≡ true → is_silent x ≡ false → box_ticks (n - m) r m ≡ out x (m + k + 1)
  made-last d u = made-next d ∙ ticks-told again is_done is_silent out (n - (m + k + 1)) (m + k + 1) x u

  pub refused-first : is_done x ≡ false → m + k ≡ 0 → box_ticks (n - m) r m ≡ out x 0
  refused-first d z = turn-first again is_done is_silent out leap_of quiet_after box-jumps n m k r s sure within x next-is d z

  pub refused-later : is_done x ≡ false → m + k ≢ 0 → box_ticks (n - m) r m ≡ out p (m + k)
  refused-later d z =
      turn-refused again is_done is_silent out leap_of quiet_after box-jumps n m k r s sure within x next-is d z
      ∙ ap (λ (y : Answer). out y (m + k)) (sym leapt)

leaps : (k : ℕ) (b : FloorBox) → 1 ≤ k → leap_of k (bare b Done) ≡ bare (passed_of b k) Done
unfolding leap_of
leaps k b h = rw (ne_eqb k 0 (omega arith))

-- an advance that only quiet ticks make passes them all
pub advance-quiet : (b : FloorBox) (n : ℕ) → is_in_reach n ≡ true → n ≤ quiet_of b → advance_of b n ≡ out (bare (passed_of b n) Done) n
unfolding advance_of is_silent
advance-quiet b n r q =
    let p = reach-parts n r in
    let z : n + 0 ≡ n = omega arith in
    let y : 0 + n ≡ n = omega arith in
    let j = jump again is_done is_silent out leap_of quiet_after box-jumps n 0 0 (bare b Done) refl q in
    rw (quiet-sound b (omega arith), r)
    (rw (z, y) at j.0 ∙ ticks-end again is_done is_silent out 0 n (leap_of n (bare b Done)) refl ∙ ap (λ (x : Answer). out x n) (leaps n b p.0))
