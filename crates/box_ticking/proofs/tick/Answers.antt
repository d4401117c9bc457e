-- `box_ticking::tick` meets its promise.
-- Assumes nothing.
use Rattle.box_ticking.specs.Tick.{tick_of}
use Rattle.box_ticking.proofs.tick.Goals as goal

pub returns : goal.returns
unfolding tick_of
returns c =
    rw (
      c.and-2.ensures,
      c.and.ensures,
      c.none.ensures,
      c.transmitted-b.ensures,
      c.timed-a.ensures,
    )
