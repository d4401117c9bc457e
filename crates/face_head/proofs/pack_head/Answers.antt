-- `face_head::pack_head` meets its promise.
-- Assumes nothing.
use Rattle.face_head.specs.Head.{head_words}
use Rattle.face_head.proofs.pack_head.Goals as goal

pub returns : goal.returns
unfolding head_words
returns c = rw (c.window_words-window.ensures, c.from.ensures)
