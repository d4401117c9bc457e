-- `face_box_pass::quiet` meets its promise.
-- Assumes nothing.
use borrow.Author.Tests.{le-leb, lt-leb}
use Rattle.face_box_pass.specs.Block.{until_call}
use Rattle.face_box_pass.specs.Until.{until-is}
use Rattle.face_box_pass.proofs.quiet.Goals as goal

pub returns-in_default : goal.returns-in_default
unfolding until_call
returns-in_default c = rw (lt-leb _ _ c.in_default.ensures.cases)

pub returns : goal.returns
unfolding until_call
returns c =
    let first = c.in-Some.ensures.cases in
    rw (c.min.ensures, c.judged.ensures, c.from.ensures, first.same, le-leb _ _ first.enough) (until-is _ first.enough)
