-- What a fresh box leaves, word for word.
-- Assumes nothing.
use Rattle.box_calls.specs.Box.{fresh_of}
use Rattle.face_box.specs.Box.{box_words, front_words}
use Rattle.face_box.specs.Told.{listed, told_words}
use Rattle.face_box_calls.specs.Calls.{told_of, handed, fresh_call}
use Rattle.face_laws.specs.Box.{BoxFresh}

pub box-fresh : BoxFresh
unfolding BoxFresh fresh_call handed told_of told_words listed fresh_of box_words front_words
box-fresh address block frames reply = record { short = λ e. rw e; range = λ e i. rw (e, i); done = λ e i. rw (e, i) }
