-- `clock::Count::is_past` meets its promise: the distance's sign is the definition's test.
-- Assumes nothing.
use Rattle.clock.specs.Counts.{is_past}
use Rattle.clock.proofs.Signed.{read_back}
use Rattle.clock.proofs.Count.is_past.Goals as goal

pub returns : goal.returns
unfolding is_past
returns c = rw (c.distance.ensures, read_back)
