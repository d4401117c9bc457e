-- `frame_queues::Sets::cut` meets its promise.
-- Assumes nothing.
use Rattle.frame_queues.specs.Numbers.{sets-cut}
use Rattle.frame_queues.proofs.Sets.cut.Goals as goal

pub returns : goal.returns
returns c = let e = sets-cut c.args.self c.args.n in cc
