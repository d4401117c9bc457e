-- `face_head_calls::tell` meets its promise.
-- Assumes nothing.
use Rattle.face_head_calls.specs.Answered.{told_of}
use Rattle.face_head_calls.proofs.tell.Goals as goal

pub returns : goal.returns
unfolding told_of
returns c = rw (c.number.ensures, c.tell.ensures)
