-- `face_head::links_in` meets its promise.
-- Assumes nothing.
use borrow.Author.Tests.{le-leb, lt-leb}
use Rattle.face_head.specs.Table.{links_in}
use Rattle.face_head.proofs.links_in.Goals as goal

pub returns-then-n-le-MOST : goal.returns-then-n-le-MOST
unfolding links_in
returns-then-n-le-MOST c = rw (le-leb _ _ c.if-n-le-MOST.true)

pub returns : goal.returns
unfolding links_in
returns c = rw (lt-leb _ _ c.if-n-le-MOST.false)
