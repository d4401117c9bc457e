-- `face_head_pass::place` meets its promise.
-- Assumes nothing.
use Rattle.face_head_pass.specs.Judge.{place_of}
use borrow.Author.Rules.{rules}
use Rattle.face_head_pass.proofs.place.Goals as goal

pub returns : goal.returns
unfolding place_of
returns c = search rules
