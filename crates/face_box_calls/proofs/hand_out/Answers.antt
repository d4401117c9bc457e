-- `face_box_calls::hand_out` meets its promise.
-- Assumes nothing.
use mathlib.Core.Path.{ap}
use Rattle.face_box_calls.specs.Calls.{with, handed}
use Rattle.face_box_calls.proofs.hand_out.Goals as goal

pub returns : goal.returns
unfolding handed
returns c = rw c.keep.ensures (ap (with _) c.tell.ensures)
