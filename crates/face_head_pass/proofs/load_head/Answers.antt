-- `face_head_pass::load_head` meets its promise.
-- Assumes nothing.
use Rattle.face_head_pass.specs.Quiet.{head_at}
use Rattle.face_head_pass.proofs.load_head.Goals as goal

pub returns : goal.returns
unfolding head_at
returns c = rw (c.head_in.ensures, c.lay.ensures)
