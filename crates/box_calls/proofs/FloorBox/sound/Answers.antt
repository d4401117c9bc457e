-- `box_calls::FloorBox::sound` meets its promise.
-- Assumes nothing.
use Rattle.box_calls.specs.Box.{sound_of}
use Rattle.box_calls.proofs.FloorBox.sound.Goals as goal

pub returns : goal.returns
unfolding sound_of
returns c = rw (c.sound.ensures, c.individual.ensures)
