-- `face_head_calls::answered` meets its promise.
-- Assumes nothing.
use Rattle.face_head_calls.proofs.Words.{answered-whole}
use Rattle.face_head.proofs.Laws.{links-few}
use Rattle.face_head_calls.proofs.answered.Goals as goal

pub lend_all-answer-requires : goal.lend_all-answer-requires
lend_all-answer-requires c = rw c.links_in-n.ensures (links-few _).0

pub returns : goal.returns
returns c =
    let a = c.args in
    answered-whole a.call a.head.now a.links.now a.out.now _ _ _ _ _ _
    c.load_head-h.ensures
    c.links_in-n.ensures
    c.lend_all-answer.ensures
    c.keep_head.ensures
