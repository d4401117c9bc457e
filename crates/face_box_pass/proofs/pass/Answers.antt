-- `face_box_pass::pass` meets its promise.
-- Assumes nothing.
use borrow.Author.Tests.{lt-ltb, le-ltb}
use Rattle.std.proofs.Common.{◌≡◌, ◌≤◌, ◌++◌, ℕ, List, length, take, drop}
use Rattle.std.proofs.lemmas.List.{take-append-drop}
use Rattle.face_box_pass.specs.Passing.{moved_of, passed_words_of}
use Rattle.face_box_pass.specs.Until.{thirteen}
use Rattle.face_box_pass.proofs.pass.Goals as goal

-- the words that move are the first of a block
over : (b : List ℕ) (k : ℕ) → 29 ≤ length b → moved_of (take 29 b) k ++ drop 29 b ≡ moved_of b k
unfolding moved_of
over b k h =
    let t = thirteen b h in
    rw (t.is, take-append-drop 16 t.rest)

pub returns-in_default : goal.returns-in_default
unfolding passed_words_of
returns-in_default c = rw (lt-ltb _ _ c.in_default.ensures.cases)

pub returns-in-Some : goal.returns-in-Some
unfolding passed_words_of
returns-in-Some c =
    let first = c.in-Some.ensures.cases in
    rw (c.move_on.ensures, first.same, le-ltb _ _ first.enough) (over c.args.block.now c.args.k first.enough)
