-- Rules R73, R153, R188: a fresh head, its tick, and when it is sound.
-- Assumes nothing.
use Rattle.std.specs.Prelude.{ℕ, Bool, ◌&&◌}
use Rattle.clock.specs.Counts.{next_of, later_of}
use Rattle.frame.specs.declared.Address.{Address}
use Rattle.frame_range.specs.Fits.{is_individual}
use Rattle.head_state.specs.Window.{ticked_window, sound_window, window_after}
use Rattle.head_state.specs.declared.Head.{Head}
use Rattle.head_state.specs.declared.Window.{Window}
use Rattle.head_state.specs.declared.Window.TheVariants.{Idle}

-- R153
abbrev pub begun : Address → Head
begun a = record { address = a; count = record { 0 = 0 }; window = Idle }

abbrev pub with_window : Head → Window → Head
with_window h w = record { address = h.address; count = h.count; window = w }

-- R188
abbrev pub tick_of : Head → Head
tick_of h = record { address = h.address; count = next_of h.count; window = ticked_window h.window }

-- k ticks on
abbrev pub after_of : Head → ℕ → Head
after_of h k = record { address = h.address; count = later_of h.count k; window = window_after h.window k }

-- R73
unfoldable pub sound_of : Head → Bool
sound_of h = is_individual h.address && sound_window h.window
