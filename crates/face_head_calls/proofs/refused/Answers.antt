-- `face_head_calls::refused` meets its promise.
-- Assumes nothing.
use Rattle.face_head_calls.specs.Calls.{refused_of}
use Rattle.face_head_calls.proofs.refused.Goals as goal

pub returns-then-is_lent : goal.returns-then-is_lent
unfolding refused_of
returns-then-is_lent c = rw (c.number.ensures, c.tell_nothing.ensures, ← c.is_lent.ensures, c.if-is_lent.true)

pub returns : goal.returns
unfolding refused_of
returns c = rw (← c.is_lent.ensures, c.if-is_lent.false)
