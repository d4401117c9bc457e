-- `clock::Count::later` meets its promise: the wrapped sum is the definition's.
-- Assumes nothing.
use Rattle.std.proofs.Common.{rules}
use Rattle.clock.specs.Counts.{later_of}
use Rattle.clock.proofs.Count.later.Goals as goal

pub returns : goal.returns
unfolding later_of
returns c = search rules
