-- `face_head_pass::table` meets its promise.
-- Assumes nothing.
use Rattle.std.proofs.Common.{length, ◌∙◌, ◌/◌, arith}
use borrow.Author.Tests.{le-leb, lt-leb}
use Rattle.face_head.specs.Table.{links_in}
use Rattle.face_head_pass.proofs.table.Goals as goal

pub returns-then-links-le-MOST : goal.returns-then-links-le-MOST
unfolding links_in
returns-then-links-le-MOST c =
    c.as_chunks.ensures.front ∙ rw (le-leb (length c.args.words.now / 5) 64 (omega arith))

pub returns : goal.returns
unfolding links_in
returns c = rw (lt-leb (length c.args.words.now / 5) 64 (omega arith))
