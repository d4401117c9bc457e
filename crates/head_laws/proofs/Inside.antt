-- A window k ticks on, by the distance of its start and its length.
-- Assumes nothing.
use Prim.Native.Nat.{ℕ, zero, suc, ◌-◌, ◌≤◌, ◌<◌}
use mathlib.Core.Path.{◌≡◌, refl, sym, ap, subst, ◌∙◌}
use mathlib.Core.Bool.{true, false, ◌&&◌, and-eq-true_iff}
use mathlib.Core.Logic.{⊎_elim}
use native.Mathlib.Omega.{arith}
use borrow.Author.Tests.{lt-ltb, le-leb, lt-leb, eq-eqb, ne_eqb, leb-true}
use lib.Dec.{leb}
use lib.IntN.{pos}
use Rattle.laws.specs.Cases.{cut}
use Rattle.clock.specs.Counts.{distance, reach}
use Rattle.clock.specs.Numbers.{start_in_range, serves}
use Rattle.clock.specs.declared.Count.{Count}
use Rattle.clock.specs.declared.Quanta.{Quanta}
use Rattle.head_state.specs.Head.{with_window}
use Rattle.head_state.proofs.Laws.{window-tick, window-join}
use Rattle.head_state.specs.Window.{longest_window, fits, is_idle, is_inside, inside_for, opened, inside_after, before_after, window_after}
use Rattle.head_state.specs.declared.Head.{Head}
use Rattle.head_state.specs.declared.Window.{Window}
use Rattle.head_state.specs.declared.Window.TheVariants.{Before}
use Rattle.head_requests.specs.Client.{may_open}
use Rattle.head_judging.specs.declared.Call.{Call}
use Rattle.head_laws.specs.Inside.{ticks_on, Stays, InsideExactly}
use Rattle.head_laws.specs.Passing.{window-none}
use Rattle.head_laws.specs.Refusals.{call-accepted}
use Rattle.head_laws.specs.Requests.{open-does}

-- ticks one after the other are so many ticks on
ticks-window : (k : ℕ) (h : Head) → (ticks_on k h).window ≡ window_after h.window k
ticks-window zero h = sym (window-none h.window)
ticks-window (suc k) h =
    ticks-window k _ ∙ ap (λ (w : Window). window_after w k) (window-tick h.window) ∙ window-join h.window k

-- inside with n ticks left, k ticks on
module _ (n k : ℕ) where
  abbrev within : Window
  within = inside_after (record { left = n }) k

  inside_on : k < n → is_inside within ≡ true
  unfolding inside_after
  inside_on h = rw (lt-leb n k h, lt-ltb 0 n (omega arith))

  inside-off : 1 ≤ n → n ≤ k → is_idle within ≡ true
  unfolding inside_after
  inside-off h l = rw (le-leb n k l, lt-ltb 0 n h)

-- before it, with d ticks left
module _ (d : ℕ) (length : Quanta) (k : ℕ) where
  abbrev awaited : Window
  awaited = before_after (record { left = d }) length k

  before_on : k < d → (is_idle awaited ≡ false) × (is_inside awaited ≡ false)
  unfolding before_after
  before_on h = rw (ne_eqb d 0 (omega arith), lt-leb d k h) (refl, refl)

  before-off : 1 ≤ d → d ≤ k → awaited ≡ inside_after (record { left = length.0 }) (k - d)
  unfolding before_after
  before-off h l = rw (ne_eqb d 0 (omega arith), le-leb d k l)

module _ (h : Head) (length : Quanta) (some : 1 ≤ length.0) where
  stays-now : h.window ≡ inside_for length → Stays 0 length.0 h
  stays-now e =
      record {
        waits = λ k l. absurd (omega arith);
        inside = λ k _ l. rw (ticks-window k h, e) (inside_on length.0 k (omega arith));
        ends = λ k l. rw (ticks-window k h, e) (inside-off length.0 k some (omega arith));
      }

  stays-later : (d : ℕ) → 1 ≤ d → h.window ≡ Before (record { left = d }) length → Stays d length.0 h
  stays-later d f e =
      record {
        waits = λ k l. rw (ticks-window k h, e) (before_on d length k l);
        inside = λ k m l. rw (ticks-window k h, e, before-off d length k f m) (inside_on length.0 (k - d) (omega arith));
        ends = λ k l. rw (ticks-window k h, e, before-off d length k f (omega arith)) (inside-off length.0 (k - d) some (omega arith));
      }

-- opened by the distance
module _ (now start : Count) (length : Quanta) (d : ℕ) (e : distance now.0 start.0 ≡ pos d) where
  opened-now : d ≡ 0 → opened now start length ≡ inside_for length
  unfolding opened reach
  opened-now z = rw (e, eq-eqb d 0 z)

  opened-later : 1 ≤ d → opened now start length ≡ Before (record { left = d }) length
  unfolding opened reach
  opened-later l = rw (e, ne_eqb d 0 (omega arith))

opened-stays : (h : Head) (start : Count) (length : Quanta) (d : ℕ) → 1 ≤ length.0 → distance h.count.0 start.0 ≡ pos d
    → Stays d length.0 (with_window h (opened h.count start length))
opened-stays h start length d some e =
    let g = with_window h (opened h.count start length) in
    ⊎_elim
    (λ (l : d < 1).
    let z : d ≡ 0 = omega arith in
    subst (λ (k : ℕ). Stays k length.0 g) (sym z) (stays-now g length some (opened-now h.count start length d e z)))
    (λ (l : 1 ≤ d). stays-later g length some d l (opened-later h.count start length d e l))
    (cut d 1)

-- a window that may be opened has a length
some-length : (now start : Count) (length sync window : Quanta) → may_open now start length sync window ≡ true → 1 ≤ window.0
unfolding may_open fits
some-length now start length sync window t =
    let f = ((and-eq-true_iff (start_in_range now.0 start.0 && serves sync.0 length.0) (leb 1 window.0 && leb window.0 longest_window)).0 t).1 in
    leb-true 1 window.0 ((and-eq-true_iff (leb 1 window.0) (leb window.0 longest_window)).0 f).0

pub inside-exactly : InsideExactly
unfolding InsideExactly
inside-exactly h xs os start length sync window d done e =
    let t = (call-accepted h xs (Call.Open start length sync window) os done).passed.1.1.0 in
    rw (open-does h xs os start length sync window done).head
    (opened-stays h start window d (some-length h.count start length sync window t) e)
