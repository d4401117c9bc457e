-- `face_box_pass::move_on` meets its promise.
-- Assumes nothing.
use Rattle.face_box_pass.specs.Passing.{moved_of}
use Rattle.face_box_pass.proofs.move_on.Goals as goal

pub returns : goal.returns
unfolding moved_of
returns c = rw (c.saturating_sub-4.ensures, c.saturating_sub-3.ensures, c.saturating_sub-2.ensures, c.saturating_sub.ensures, c.later.ensures, c.from-k.ensures)
