-- `face_frame_read::read` meets its promise.
-- Assumes nothing.
use borrow.Author.Tests.{lt-ltb, le-ltb}
use Rattle.face_frame.specs.Message.{message_words}
use Rattle.face_frame_read.specs.Read.{read_call}
use Rattle.face_frame_read.proofs.Words.{told-frame}
use Rattle.face_frame_read.proofs.read.Goals as goal

pub returns-in_default : goal.returns-in_default
unfolding read_call
returns-in_default c = rw (lt-ltb _ _ c.in_default.ensures.cases)

pub returns-in-Ok : goal.returns-in-Ok
unfolding read_call
returns-in-Ok c =
    let whole = c.in-Some.ensures.cases in
    rw (le-ltb _ _ whole.enough, c.number.ensures, told-frame, ← c.in-Ok.ensures)

pub returns-in-Err : goal.returns-in-Err
unfolding read_call message_words
returns-in-Err c =
    let whole = c.in-Some.ensures.cases in
    rw (le-ltb _ _ whole.enough, c.number-in-Err.ensures, told-frame, ← c.in-Err.ensures)
