-- `face_head_pass::pass_head` meets its promise.
-- Assumes nothing.
use borrow.Author.Tests.{eq-eqb, le-ltb, lt-ltb, ne_eqb}
use Rattle.face_head_pass.specs.Passed.{passed_head}
use Rattle.face_head_pass.proofs.pass_head.Goals as goal

pub returns-then-head-lt-HEAD : goal.returns-then-head-lt-HEAD
unfolding passed_head
returns-then-head-lt-HEAD c = rw (lt-ltb _ _ c.if-head-lt-HEAD.true)

pub returns-then-head-eq0 : goal.returns-then-head-eq0
unfolding passed_head
returns-then-head-eq0 c = rw (c.from.ensures, c.later.ensures, c.count_of-count.ensures, le-ltb _ _ c.if-head-lt-HEAD.false, eq-eqb _ _ c.if-head-eq0.true)

pub returns : goal.returns
unfolding passed_head
returns c = rw (c.pass_window.ensures, le-ltb _ _ c.if-head-lt-HEAD.false, ne_eqb _ _ c.if-head-eq0.false)
