-- `face_head_calls::quiet_by` meets its promise.
-- Assumes nothing.
use Rattle.face_head_calls.specs.Answered.{quiet_by}
use Rattle.face_head_calls.proofs.quiet_by.Goals as goal

pub returns-then-in_reach-has_room : goal.returns-then-in_reach-has_room
unfolding quiet_by
returns-then-in_reach-has_room c = rw (c.from.ensures, c.quiet.ensures, ← c.in_reach.ensures, ← c.has_room.ensures, c.if-in_reach-has_room.true)

pub returns : goal.returns
unfolding quiet_by
returns c = rw (← c.in_reach.ensures, ← c.has_room.ensures, c.if-in_reach-has_room.false)
