-- `clock::Timer::passed` meets its promise: a difference that stops at 0.
-- Assumes nothing.
use Rattle.std.proofs.Common.{rules}
use Rattle.clock.specs.Timers.{passed_of}
use Rattle.clock.proofs.Timer.passed.Goals as goal

pub returns : goal.returns
unfolding passed_of
returns c = search rules
