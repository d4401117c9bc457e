-- `clock::Count::nearer` meets its promise: its test of the two distances is the definition's.
-- Assumes nothing.
use Rattle.clock.specs.Counts.{nearer}
use Rattle.clock.proofs.Signed.{read_back}
use Rattle.clock.proofs.Count.nearer.Goals as goal

pub returns : goal.returns
unfolding nearer
returns c = simp (c.distance.ensures, c.distance-2.ensures, read_back)
