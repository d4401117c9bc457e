-- `face_head_calls::kept` meets its promise.
-- Assumes nothing.
use Rattle.std.proofs.Common.{sym, ◌∙◌}
use Rattle.face_head_calls.specs.Lend.{kept_of}
use Rattle.face_head_calls.proofs.Words.{same-done}
use Rattle.face_head_calls.proofs.kept.Goals as goal

pub returns-then-eq : goal.returns-then-eq
unfolding kept_of
returns-then-eq c = rw (sym (c.eq.ensures ∙ same-done c.args.answer.reply) ∙ c.if-eq.true)

pub returns-else-eq : goal.returns-else-eq
unfolding kept_of
returns-else-eq c = rw (sym (c.eq.ensures ∙ same-done c.args.answer.reply) ∙ c.if-eq.false)
