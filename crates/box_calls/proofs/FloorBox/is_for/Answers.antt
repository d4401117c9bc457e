-- `box_calls::FloorBox::is_for` meets its promise.
-- Assumes nothing.
use Rattle.box_calls.specs.Hear.{is_for}
use Rattle.box_calls.proofs.FloorBox.is_for.Goals as goal

pub returns : goal.returns
unfolding is_for
returns c = rw (c.eq.ensures, c.is_discovery.ensures, c.eq-2.ensures)
