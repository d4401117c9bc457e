-- `face_head_calls::advanced` meets its promise.
-- Assumes nothing.
use Rattle.face_head_calls.proofs.Words.{advanced-whole}
use Rattle.face_head_calls.proofs.advanced.Goals as goal

pub returns : goal.returns
returns c =
    let a = c.args in
    advanced-whole a.n a.head.now a.links.now a.out.now a.reply.now a.made.now _ _ _ _ _ _ _
    c.answered-answer.ensures
    c.tell.ensures
    c.lay_word.ensures
