-- `face_box_calls::is_lent` meets its promise.
-- Assumes nothing.
use mathlib.Core.Path.{refl}
use Rattle.face_box_calls.specs.Calls.{is_lent}
use Rattle.face_box_calls.proofs.is_lent.Goals as goal

pub returns : goal.returns
unfolding is_lent
returns c = refl
