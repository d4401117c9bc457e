-- `clock::Timer::runs` meets its promise.
-- Assumes nothing.
use Rattle.std.proofs.Common.{rules}
use Rattle.clock.specs.Timers.{runs}
use Rattle.clock.proofs.Timer.runs.Goals as goal

pub returns : goal.returns
unfolding runs
returns c = search rules
