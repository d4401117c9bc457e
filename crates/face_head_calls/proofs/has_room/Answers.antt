-- `face_head_calls::has_room` meets its promise.
-- Assumes nothing.
use Rattle.head_judging.specs.Judge.{has_room}
use Rattle.face_head.proofs.Laws.{links-few}
use native.Mathlib.Omega.{arith}
use Rattle.face_head_calls.proofs.has_room.Goals as goal

pub overflow_mul-result : goal.overflow_mul-result
overflow_mul-result c = omega (arith, c.links_in.ensures, (links-few c.args.links).0)

pub returns : goal.returns
unfolding has_room
returns c = rw c.links_in.ensures
