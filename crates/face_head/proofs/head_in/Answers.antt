-- `face_head::head_in` meets its promise.
-- Assumes nothing.
use Rattle.face_head.specs.Head.{head_in, is_head}
use Rattle.face_head.proofs.head_in.Goals as goal

pub returns-then-same : goal.returns-then-same
unfolding head_in is_head
returns-then-same c = rw (← c.head_of-head.ensures, ← c.pack_head.ensures, ← c.same.ensures, c.if-same.true)

pub returns : goal.returns
unfolding head_in is_head
returns c = rw (c.begun.ensures, ← c.head_of-head.ensures, ← c.pack_head.ensures, ← c.same.ensures, c.if-same.false)
