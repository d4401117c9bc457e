-- `face_head_pass::head_fits` meets its promise.
-- Assumes nothing.
use Rattle.face_head_pass.specs.Judge.{head_fits}
use Rattle.face_head_pass.proofs.head_fits.Goals as goal

pub returns : goal.returns
unfolding head_fits
returns c = rw (c.window_fits.ensures, c.from.ensures, c.individual.ensures)
