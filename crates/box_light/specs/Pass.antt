-- Rule R193, of the transmitter: ticks at which its timer does not ring take so many from it.
-- Assumes nothing.
use Rattle.std.specs.Prelude.{ℕ}
use Rattle.clock.specs.Timers.{passed_of as timer_passed, quiet_of as timer_quiet}
use Rattle.box_light.specs.Light.{light_in}
use Rattle.box_light.specs.declared.Light.{Light}

unfoldable pub passed_of : Light → ℕ → Light
passed_of l k = light_in l.phase (timer_passed l.timer k)

-- the ticks that come before the ring
unfoldable pub quiet_of : Light → ℕ
quiet_of l = timer_quiet l.timer
