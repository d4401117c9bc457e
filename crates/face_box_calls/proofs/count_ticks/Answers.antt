-- `face_box_calls::count_ticks` meets its promise.
-- Assumes nothing.
use Rattle.face_box_calls.specs.Advancing.{advanced_of}
use Rattle.face_box_calls.proofs.count_ticks.Goals as goal

pub returns : goal.returns
unfolding advanced_of
returns c = rw (c.lay_word.ensures, c.settle.ensures, c.advance-advanced.ensures, c.load.ensures)
