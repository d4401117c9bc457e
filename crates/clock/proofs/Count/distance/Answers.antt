-- `clock::Count::distance` meets its promise: the wrapped difference is the gap, and the test takes it with its sign.
-- Assumes nothing.
use Rattle.std.proofs.Common.{◌+◌, ◌-◌, ◌%◌, ◌^◌, arith}
use Rattle.clock.proofs.Signed.{near-is, far-is, less-fits}
use Rattle.clock.proofs.Count.distance.Goals as goal

pub returns-then-d-lt-HALF : goal.returns-then-d-lt-HALF
returns-then-d-lt-HALF c = near-is _ _ _ (omega arith) c.if-d-lt-HALF.true

pub returns : goal.returns
returns c = far-is _ _ _ (omega arith) c.if-d-lt-HALF.false
