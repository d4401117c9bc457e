-- `face_head_calls::served` meets its promise.
-- Assumes nothing.
use Rattle.face_head_calls.proofs.Words.{served-whole}
use Rattle.face_head_calls.specs.Calls.{served_of}
use Rattle.face_head_calls.proofs.served.Goals as goal

pub returns-then-is_lent : goal.returns-then-is_lent
returns-then-is_lent c =
    let a = c.args in
    served-whole a.call a.head.now a.links.now a.out.now a.reply.now _ _ _ _ _ _ _
    c.is_lent.ensures
    c.if-is_lent.true
    c.answered-answer.ensures
    c.tell.ensures

pub returns : goal.returns
unfolding served_of
returns c = rw (← c.is_lent.ensures, c.if-is_lent.false)
