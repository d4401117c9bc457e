-- `clock::in_reach` meets its promise.
-- Assumes nothing.
use Rattle.std.proofs.Common.{rules}
use Rattle.clock.specs.Numbers.{is_in_reach}
use Rattle.clock.proofs.in_reach.Goals as goal

pub returns : goal.returns
unfolding is_in_reach
returns c = search rules
