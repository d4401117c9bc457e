-- `box_ticking::transmitted` meets its promise.
-- Assumes nothing.
use Rattle.box_ticking.specs.Tick.{transmitted}
use Rattle.box_ticking.proofs.transmitted.Goals as goal

pub returns : goal.returns
unfolding transmitted
returns c = rw (c.shine.ensures, c.with_light.ensures, c.tick-t.ensures)
