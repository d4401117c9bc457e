-- `face_head_calls::keep_head` meets its promise.
-- Assumes nothing.
use Rattle.std.proofs.Common.{true, false, sym, ◌∙◌}
use Rattle.face_head_calls.specs.Calls.{kept_head}
use Rattle.face_head_calls.proofs.Words.{same-done, turned}
use Rattle.face_head_calls.proofs.keep_head.Goals as goal

pub returns-then-ne : goal.returns-then-ne
unfolding kept_head
returns-then-ne c = rw (sym (same-done c.args.answer.reply) ∙ turned _ true (sym c.ne.ensures ∙ c.if-ne.true))

pub returns : goal.returns
unfolding kept_head
returns c =
    rw (sym (same-done c.args.answer.reply) ∙ turned _ false (sym c.ne.ensures ∙ c.if-ne.false)) c.lay_head.ensures
