-- `clock::Count::start_in_range` meets its promise.
-- Assumes nothing.
use Rattle.std.proofs.Common.{rules}
use Rattle.clock.specs.Laws.{start-reach}
use Rattle.clock.proofs.Count.start_in_range.Goals as goal

pub returns : goal.returns
returns c = rw start-reach (search rules)
