-- `face_box_calls::settle` meets its promise.
-- Assumes nothing.
use mathlib.Core.Path.{ap}
use borrow.Author.Tests.{eq-eqb, ne_eqb}
use Rattle.face_box_calls.specs.Calls.{with, settled}
use Rattle.face_box_calls.proofs.settle.Goals as goal

pub returns-then-number-eq0 : goal.returns-then-number-eq0
unfolding settled
returns-then-number-eq0 c = rw (c.hand_out.ensures, ← c.number.ensures, eq-eqb _ _ c.if-number-eq0.true)

pub returns : goal.returns
unfolding settled
returns c = rw (← c.number.ensures, ne_eqb _ _ c.if-number-eq0.false) (ap (with _) c.tell.ensures)
