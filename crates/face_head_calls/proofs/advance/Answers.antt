-- `face_head_calls::advance` meets its promise.
-- Assumes nothing.
use Rattle.face_head_calls.proofs.Words.{quiet-parts, advance-passed}
use Rattle.face_head_calls.specs.Calls.{advance_call}
use Rattle.clock.specs.Laws.{reach-parts}
use lib.ListN.{length}
use native.Mathlib.Omega.{arith}
use mathlib.Core.Path.{sym, ◌∙◌}
use Rattle.face_head_calls.proofs.advance.Goals as goal

pub overflow_cast-n : goal.overflow_cast-n
overflow_cast-n c =
    let q = quiet-parts c.args.n c.args.head.now c.args.links.now (length c.args.out.now) (sym c.quiet_by.ensures ∙ c.if-quiet_by.true) in
    omega (arith, (reach-parts c.args.n q.0).1)

pub returns-then-quiet_by : goal.returns-then-quiet_by
returns-then-quiet_by c =
    let a = c.args in
    advance-passed a.n a.head.now a.links.now a.out.now a.reply.now a.made.now _ _ _ _
    (sym c.quiet_by.ensures ∙ c.if-quiet_by.true)
    c.pass_head.ensures
    c.pass_links.ensures
    c.tell_nothing.ensures
    c.lay_word.ensures
    (rw (← c.is_lent.ensures) c.if-is_lent-made.true)

pub returns-then-is_lent-made : goal.returns-then-is_lent-made
unfolding advance_call
returns-then-is_lent-made c =
    rw (← c.is_lent.ensures, c.if-is_lent-made.true) c.advanced.ensures

pub returns : goal.returns
unfolding advance_call
returns c = rw (← c.is_lent.ensures, c.if-is_lent-made.false)
