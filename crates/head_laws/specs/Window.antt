-- Lemmas: a tick and the opening of a window keep the head sound.
-- Assumes nothing.
use Rattle.std.specs.Prelude.{Option, None, Some, ℕ, zero, suc, ◌≤◌, ◌≡◌, refl, true, ◌&&◌, ◌≢◌, eqb}
use Rattle.std.proofs.Common.{sym, ◌∙◌, arith, leb-true}
use Rattle.std.proofs.Math.Bool.{and-eq-true_iff}
use Rattle.std.proofs.lemmas.Bool.{eqb-false}
use Rattle.laws.specs.Cases.{either}
use Rattle.clock.specs.Counts.{reach}
use Rattle.clock.specs.Laws.{reach_in_range, start-reach, runs_of, ticked-runs}
use Rattle.clock.specs.Numbers.{furthest, start_in_range, serves}
use Rattle.clock.specs.Timers.{runs, ticked}
use Rattle.clock.specs.declared.Count.{Count}
use Rattle.clock.specs.declared.Quanta.{Quanta}
use Rattle.frame_range.specs.Fits.{is_individual}
use Rattle.head_state.specs.Head.{with_window, tick_of, sound_of, after_of}
use Rattle.head_state.proofs.Laws.{window-tick, window-join}
use Rattle.head_state.specs.Window.{longest_window, fits, inside_for, opened_at, opened, ticked_window, sound_window, window_after}
use Rattle.head_state.specs.declared.Head.{Head}
use Rattle.head_state.specs.declared.Window.{Window}
use Rattle.head_state.specs.declared.Window.TheVariants.{Idle, Before, Inside}
use Rattle.head_requests.specs.Client.{may_open}
use Rattle.head_laws.specs.Passing.{window-none}

inside-sound : (length : Quanta) → fits length ≡ true → sound_window (inside_for length) ≡ true
unfolding fits runs
inside-sound length h = h

tick-window : (w : Window) → sound_window w ≡ true → sound_window (ticked_window w) ≡ true
tick-window Idle h = refl
tick-window (Before t length) h =
    let p = (and-eq-true_iff (runs t furthest) (fits length)).0 h in
    either (λ (w : Window). sound_window w ≡ true) (ticked t).rang _ _ (λ _. inside-sound length p.1)
    (λ e. rw (ticked-runs t furthest p.0 e, p.1))
tick-window (Inside t) h =
    either (λ (w : Window). sound_window w ≡ true) (ticked t).rang _ _ (λ _. refl) (λ e. ticked-runs t longest_window h e)

opened-at : (r : Option Quanta) (length : Quanta) → reach_in_range r ≡ true → fits length ≡ true → sound_window (opened_at r length) ≡ true
opened-at None length r h = refl
opened-at (Some wait) length r h =
    either (λ (w : Window). sound_window w ≡ true) (eqb wait.0 0) _ _ (λ _. inside-sound length h)
    (λ e.
    let some : wait.0 ≢ 0 = eqb-false wait.0 0 e in
    let near : wait.0 ≤ furthest = leb-true wait.0 furthest r in
    rw (runs_of (record { left = wait.0 }) furthest (omega arith) near, h))

open-window : (now start : Count) (length sync window : Quanta) → may_open now start length sync window ≡ true
    → sound_window (opened now start window) ≡ true
unfolding may_open opened
open-window now start length sync window h =
    let p = (and-eq-true_iff (start_in_range now.0 start.0 && serves sync.0 length.0) (fits window)).0 h in
    let q = (and-eq-true_iff (start_in_range now.0 start.0) (serves sync.0 length.0)).0 p.0 in
    opened-at (reach now.0 start.0) window (sym (start-reach now.0 start.0) ∙ q.0) p.1

-- the parts of the test, and back
pub head-parts : (h : Head) → sound_of h ≡ true → (is_individual h.address ≡ true) × (sound_window h.window ≡ true)
unfolding sound_of
head-parts h = (and-eq-true_iff (is_individual h.address) (sound_window h.window)).0

pub head_of : (h : Head) → is_individual h.address ≡ true → sound_window h.window ≡ true → sound_of h ≡ true
unfolding sound_of
head_of h a w = rw (a, w)

-- a tick keeps a sound head sound
pub tick-keeps : (h : Head) → sound_of h ≡ true → sound_of (tick_of h) ≡ true
tick-keeps h s =
    let p = head-parts h s in
    head_of (tick_of h) p.0 (tick-window h.window p.1)

-- so do many
after-window : (w : Window) (k : ℕ) → sound_window w ≡ true → sound_window (window_after w k) ≡ true
after-window w zero h = rw (window-none w) h
after-window w (suc k) h = rw (← window-join w k) (after-window (window_after w 1) k (rw (← window-tick w) (tick-window w h)))

pub after-keeps : (h : Head) (k : ℕ) → sound_of h ≡ true → sound_of (after_of h k) ≡ true
after-keeps h k s =
    let p = head-parts h s in
    head_of (after_of h k) p.0 (after-window h.window k p.1)

-- so does opening a window where it may be opened
pub open-keeps : (h : Head) (start : Count) (length sync window : Quanta) → sound_of h ≡ true
    → may_open h.count start length sync window ≡ true → sound_of (with_window h (opened h.count start window)) ≡ true
open-keeps h start length sync window s m =
    let w = opened h.count start window in
    head_of (with_window h w) (head-parts h s).0 (open-window h.count start length sync window m)
