-- `face_box_calls::heard` meets its promise.
-- Assumes nothing.
use borrow.Author.Tests.{eq-eqb, ne_eqb}
use Rattle.face_box_calls.specs.Calls.{heard_of}
use Rattle.face_box_calls.proofs.heard.Goals as goal

pub returns-then-number-ne0 : goal.returns-then-number-ne0
unfolding heard_of
returns-then-number-ne0 c = rw (c.refused.ensures, ← c.read-reading.ensures, ← c.number.ensures, ne_eqb _ _ c.if-number-ne0.true)

pub returns : goal.returns
unfolding heard_of
returns c = rw (c.hear.ensures, ← c.read-reading.ensures, ← c.number.ensures, eq-eqb _ _ c.if-number-ne0.false)
