-- `face_head_calls::heard` meets its promise.
-- Assumes nothing.
use Rattle.std.proofs.Common.{sym, ◌∙◌}
use Rattle.face_head_calls.specs.Calls.{heard_of}
use Rattle.face_head_calls.proofs.Words.{same-done, heard-refused}
use Rattle.face_head_calls.proofs.heard.Goals as goal

pub returns-then-eq : goal.returns-then-eq
unfolding heard_of
returns-then-eq c =
    rw (c.served.ensures, ← c.read-reading.ensures, sym (c.eq.ensures ∙ same-done c.read-reading.result.reply) ∙ c.if-eq.true)

pub returns : goal.returns
returns c =
    let a = c.args in
    heard-refused a.link a.octets.now a.head.now a.links.now a.out.now a.reply.now c.read-reading.result _ _
    c.read-reading.ensures
    (sym (c.eq.ensures ∙ same-done c.read-reading.result.reply) ∙ c.if-eq.false)
    c.refused.ensures
