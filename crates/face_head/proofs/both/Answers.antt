-- `face_head::both` meets its promise.
-- Assumes nothing.
use Rattle.face_head.specs.Table.{room_of}
use Rattle.face_head.proofs.both.Goals as goal

pub returns : goal.returns
unfolding room_of
returns c = c.min.ensures
