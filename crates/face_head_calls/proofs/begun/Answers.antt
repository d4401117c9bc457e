-- `face_head_calls::begun` meets its promise.
-- Assumes nothing.
use Rattle.face_head.proofs.Laws.{links-few}
use Rattle.face_head_calls.proofs.Words.{begun-whole}
use Rattle.face_head_calls.specs.Calls.{begun_of}
use Rattle.face_head_calls.proofs.begun.Goals as goal

pub clear_all-answer-requires : goal.clear_all-answer-requires
clear_all-answer-requires c = rw c.links_in-n.ensures (links-few _).0

pub returns-then-is_lent : goal.returns-then-is_lent
returns-then-is_lent c =
    let a = c.args in
    begun-whole a.address a.head.now a.links.now a.reply.now _ _ _ _ _ _ _
    c.is_lent.ensures
    c.if-is_lent.true
    c.links_in-n.ensures
    c.clear_all-answer.ensures
    c.lay_begun.ensures
    c.tell.ensures

pub returns : goal.returns
unfolding begun_of
returns c = rw (← c.is_lent.ensures, c.if-is_lent.false)
