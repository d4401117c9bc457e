-- `face_box_calls::hear` meets its promise.
-- Assumes nothing.
use Rattle.face_box_calls.specs.Calls.{box_call}
use Rattle.face_box_calls.proofs.Lent.{room}
use Rattle.face_box_calls.proofs.hear.Goals as goal

pub settle-requires : goal.settle-requires
settle-requires c = room _ _ _ _ c.is_lent.ensures c.if-is_lent.true

pub returns-then-is_lent : goal.returns-then-is_lent
unfolding box_call
returns-then-is_lent c =
    rw (
      c.settle.ensures,
      c.heard.ensures,
      c.load.ensures,
      ← c.is_lent.ensures,
      c.if-is_lent.true,
    )

pub returns : goal.returns
unfolding box_call
returns c = rw (← c.is_lent.ensures, c.if-is_lent.false)
