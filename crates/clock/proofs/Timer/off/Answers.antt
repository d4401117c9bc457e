-- `clock::Timer::off` meets its promise: its test is the definition's.
-- Assumes nothing.
use Rattle.std.proofs.Common.{refl}
use Rattle.clock.specs.Timers.{off}
use Rattle.clock.proofs.Timer.off.Goals as goal

pub returns : goal.returns
unfolding off
returns c = refl
