-- `face_box_calls::tick` meets its promise.
-- Assumes nothing.
use Rattle.face_box_calls.specs.Calls.{box_call}
use Rattle.face_box_calls.proofs.Lent.{room, place}
use Rattle.face_box_calls.proofs.Passing.{tick-left}
use Rattle.face_box_calls.proofs.tick.Goals as goal

pub returns-then-quiet-ge1 : goal.returns-then-quiet-ge1
unfolding box_call
returns-then-quiet-ge1 c =
    let lent = c.is_lent.ensures in
    let enough = c.if-is_lent.true in
    rw (← lent, enough, c.tell_nothing.ensures, c.pass.ensures)
    (tick-left _ (place _ _ _ _ lent enough) _ _ (rw c.quiet.ensures at c.if-quiet-ge1.true))

pub settle-requires : goal.settle-requires
settle-requires c = room _ _ _ _ c.is_lent.ensures c.if-is_lent.true

pub returns-then-is_lent : goal.returns-then-is_lent
unfolding box_call
returns-then-is_lent c =
    rw (
      c.settle.ensures,
      c.tick.ensures,
      c.load.ensures,
      ← c.is_lent.ensures,
      c.if-is_lent.true,
    )

pub returns : goal.returns
unfolding box_call
returns c = rw (← c.is_lent.ensures, c.if-is_lent.false)
