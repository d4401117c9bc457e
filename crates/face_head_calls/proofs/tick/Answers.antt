-- `face_head_calls::tick` meets its promise.
-- Assumes nothing.
use Rattle.face_head_calls.proofs.Words.{ticked-by}
use borrow.Author.Tests.{leb-true}
use mathlib.Core.Path.{sym, ◌∙◌}
use Rattle.face_head_calls.proofs.tick.Goals as goal

pub returns-then-is_quiet : goal.returns-then-is_quiet
returns-then-is_quiet c =
    let a = c.args in
    ticked-by a.head.now a.links.now a.out.now (sym c.has_room.ensures ∙ c.if-has_room.true)
    (leb-true 1 _ (sym c.is_quiet.ensures ∙ c.if-is_quiet.true)) a.reply.now _ _ _
    c.pass_head.ensures
    c.pass_links.ensures
    c.tell_nothing.ensures
    (sym c.is_lent.ensures ∙ c.if-is_lent.true)
