-- Rules R26, R78, R79, R160: the discovery window. Before it begins its length is kept.
-- Assumes nothing.
use Rattle.std.specs.Prelude.{Option, None, Some, ℕ, ◌-◌, Bool, true, false, cond, ◌&&◌, eqb, leb, ltb}
use Rattle.clock.specs.Counts.{reach}
use Rattle.clock.specs.Numbers.{furthest}
use Rattle.clock.specs.Timers.{runs, ticked, passed_of}
use Rattle.clock.specs.declared.Count.{Count}
use Rattle.clock.specs.declared.Quanta.{Quanta}
use Rattle.clock.specs.declared.Timer.{Timer}
use Rattle.head_state.specs.declared.Window.{Window}
use Rattle.head_state.specs.declared.Window.TheVariants.{Idle, Before, Inside}

-- R26
abbrev pub longest_window : ℕ
longest_window = 131072

unfoldable pub fits : Quanta → Bool
fits length = leb 1 length.0 && leb length.0 longest_window

abbrev pub is_idle : Window → Bool
is_idle Idle = true
is_idle (Before t length) = false
is_idle (Inside t) = false

abbrev pub is_inside : Window → Bool
is_inside Idle = false
is_inside (Before t length) = false
is_inside (Inside t) = true

-- R160: inside
abbrev pub inside_for : Quanta → Window
inside_for length = Inside (record { left = length.0 })

-- R160: waiting; a past start is never opened
abbrev pub opened_at : Option Quanta → Quanta → Window
opened_at None length = Idle
opened_at (Some wait) length = cond (eqb wait.0 0) (inside_for length) (Before (record { left = wait.0 }) length)

unfoldable pub opened : Count → Count → Quanta → Window
opened now start length = opened_at (reach now.0 start.0) length

abbrev pub ticked_window : Window → Window
ticked_window Idle = Idle
ticked_window (Before t length) = cond (ticked t).rang (inside_for length) (Before (ticked t).timer length)
ticked_window (Inside t) = cond (ticked t).rang Idle (Inside (ticked t).timer)

-- R78, R79
abbrev pub sound_window : Window → Bool
sound_window Idle = true
sound_window (Before t length) = runs t furthest && fits length
sound_window (Inside t) = runs t longest_window

-- inside with so much left, k ticks on; a stopped timer stays so
unfoldable pub inside_after : Timer → ℕ → Window
inside_after t k = cond (ltb 0 t.left && leb t.left k) Idle (Inside (passed_of t k))

-- k ticks on, across its start and its end
unfoldable pub before_after : Timer → Quanta → ℕ → Window
before_after t length k =
    cond (eqb t.left 0) (Before (passed_of t k) length)
    (cond (leb t.left k) (inside_after (record { left = length.0 }) (k - t.left)) (Before (passed_of t k) length))

abbrev pub window_after : Window → ℕ → Window
window_after Idle k = Idle
window_after (Before t length) k = before_after t length k
window_after (Inside t) k = inside_after t k
