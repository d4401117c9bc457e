-- `face_box_calls::fresh` meets its promise.
-- Assumes nothing.
use Rattle.face_box_calls.specs.Calls.{fresh_call}
use Rattle.face_box_calls.proofs.Lent.{room}
use Rattle.face_box_calls.proofs.fresh.Goals as goal

pub hand_out-requires : goal.hand_out-requires
hand_out-requires c = room _ _ _ _ c.is_lent.ensures c.if-is_lent.true

pub returns-then-is_lent : goal.returns-then-is_lent
unfolding fresh_call
returns-then-is_lent c =
    rw (
      c.hand_out.ensures,
      c.fresh.ensures,
      ← c.is_lent.ensures,
      c.if-is_lent.true,
    )

pub returns : goal.returns
unfolding fresh_call
returns c = rw (← c.is_lent.ensures, c.if-is_lent.false)
