-- `face_box_calls::words_in` meets its promise.
-- Assumes nothing.
use Rattle.face_box_calls.specs.Calls.{words_at}
use Rattle.face_box_calls.proofs.words_in.Goals as goal

pub returns : goal.returns
unfolding words_at
returns c = rw c.lay.ensures
