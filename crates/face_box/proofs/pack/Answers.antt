-- `face_box::pack` meets its promise.
-- Assumes nothing.
use Rattle.std.proofs.lemmas.List.{append-nil}
use Rattle.face_box.specs.Box.{front_words, box_words}
use Rattle.face_box.proofs.pack.Goals as goal

pub returns : goal.returns
unfolding box_words front_words
returns c = rw (c.copy_from_slice.ensures.after, c.front_words.ensures, c.copy_from_slice-2.ensures.after, c.entry_words.ensures, append-nil)
