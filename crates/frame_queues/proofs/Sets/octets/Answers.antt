-- `frame_queues::Sets::octets` meets its promise.
-- Assumes nothing.
use Rattle.octets.specs.Octets.{onto}
use Rattle.frame_queues.specs.Queues.{forty_of}
use Rattle.frame_queues.proofs.Sets.octets.Goals as goal

pub returns : goal.returns
unfolding onto forty_of
returns c =
    rw (
      c.lay.ensures,
      c.lay-o-4.ensures,
      c.lay-o-3.ensures,
      c.lay-o-2.ensures,
      c.lay-o.ensures,
    )
