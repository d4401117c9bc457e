-- `face_head_calls::lay_begun` meets its promise.
-- Assumes nothing.
use Rattle.std.proofs.Common.{true, false, sym, ◌∙◌}
use Rattle.face_head_calls.specs.Calls.{begun_head}
use Rattle.face_head_calls.proofs.Words.{same-unsound, turned}
use Rattle.face_head_calls.proofs.lay_begun.Goals as goal

pub returns-then-ne : goal.returns-then-ne
unfolding begun_head
returns-then-ne c =
    rw (sym (same-unsound c.args.answer.reply) ∙ turned _ true (sym c.ne.ensures ∙ c.if-ne.true)) c.lay_head.ensures

pub returns-else-ne : goal.returns-else-ne
unfolding begun_head
returns-else-ne c =
    rw (sym (same-unsound c.args.answer.reply) ∙ turned _ false (sym c.ne.ensures ∙ c.if-ne.false))
