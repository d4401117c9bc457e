-- `face_box::unpack` meets its promise.
-- Assumes nothing.
use Rattle.face_box.specs.Box.{box_in, is_box, box_of}
use Rattle.face_box.proofs.unpack.Goals as goal

pub returns-then-has_words : goal.returns-then-has_words
unfolding box_in is_box box_of
returns-then-has_words c = rw (c.box_with.ensures, c.entries_in.ensures, ← c.front_of-front.ensures, ← c.if-has_words.ensures)

pub returns : goal.returns
unfolding box_in is_box box_of
returns c = rw (c.nobody.ensures, ← c.front_of-front.ensures, ← c.if-has_words.ensures)
