-- `face_frame_read::read_frame` meets its promise.
-- Assumes nothing.
use mathlib.Core.Path.{◌≡◌, ap, ◌∙◌}
use lib.ListN.{length}
use borrow.Author.Tests.{eq-eqb, ne_eqb}
use Rattle.face_frame_read.specs.Steps.{frame_read}
use Rattle.face_frame_read.proofs.read_frame.Goals as goal

pub returns-in_default : goal.returns-in_default
unfolding frame_read
returns-in_default c = rw (ne_eqb _ _ c.in_default.ensures.cases)

pub returns-then-field-ne-KIND : goal.returns-then-field-ne-KIND
unfolding frame_read
returns-then-field-ne-KIND c =
    let whole = c.in-Some.ensures.cases in
    let long : length c.in-Some.s.now ≡ 60 = ap length whole.same ∙ whole.long in
    rw (← whole.same, eq-eqb _ _ long, ← c.field.ensures.value, ne_eqb _ _ c.if-field-ne-KIND.true)

pub returns : goal.returns
unfolding frame_read
returns c =
    let whole = c.in-Some.ensures.cases in
    let long : length c.in-Some.s.now ≡ 60 = ap length whole.same ∙ whole.long in
    rw (c.read_control.ensures, ← whole.same, eq-eqb _ _ long, ← c.field.ensures.value, eq-eqb _ _ c.if-field-ne-KIND.false)
