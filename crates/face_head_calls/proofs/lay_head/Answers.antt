-- `face_head_calls::lay_head` meets its promise.
-- Assumes nothing.
use Rattle.face_head_calls.specs.Calls.{laid_head}
use Rattle.face_head_calls.proofs.lay_head.Goals as goal

pub returns : goal.returns
unfolding laid_head
returns c = rw (c.lay.ensures, c.pack_head.ensures)
