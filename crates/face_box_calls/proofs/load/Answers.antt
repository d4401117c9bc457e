-- `face_box_calls::load` meets its promise.
-- Assumes nothing.
use Rattle.face_box_calls.specs.Calls.{box_at}
use Rattle.face_box_calls.proofs.load.Goals as goal

pub returns : goal.returns
unfolding box_at
returns c = rw (c.unpack.ensures, c.words_in.ensures)
