-- `face_head::head_of` meets its promise.
-- Assumes nothing.
use Rattle.face_head.specs.Head.{head_of}
use Rattle.face_head.proofs.head_of.Goals as goal

pub returns : goal.returns
unfolding head_of
returns c = rw (c.window_of.ensures, c.count_of.ensures)
