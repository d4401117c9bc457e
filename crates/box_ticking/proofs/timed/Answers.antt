-- `box_ticking::timed` meets its promise.
-- Assumes nothing.
use Rattle.box_ticking.specs.Tick.{timed}
use Rattle.box_ticking.proofs.timed.Goals as goal

pub returns : goal.returns
unfolding timed
returns c =
    rw (
      c.ring.ensures,
      c.with_registration.ensures,
      c.with_count-next.ensures,
      c.next.ensures,
      c.tick-t.ensures,
    )
