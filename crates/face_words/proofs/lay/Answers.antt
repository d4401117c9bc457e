-- `face_words::lay` meets its promise.
-- Assumes nothing.
use Rattle.face_words.specs.Words.{laid}
use Rattle.face_words.proofs.lay.Goals as goal

pub returns : goal.returns
unfolding laid
returns c = rw (c.copy_from_slice.ensures.after, c.min-n.ensures)
