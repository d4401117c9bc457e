-- `clock::Count::next` meets its promise: the wrapped sum is the definition's.
-- Assumes nothing.
use Rattle.std.proofs.Common.{rules}
use Rattle.clock.specs.Counts.{next_of}
use Rattle.clock.proofs.Count.next.Goals as goal

pub returns : goal.returns
unfolding next_of
returns c = search rules
