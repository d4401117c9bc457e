-- `face_frame_write::write` meets its promise.
-- Assumes nothing.
use borrow.Author.Tests.{le-leb, lt-leb}
use Rattle.face_frame_write.specs.Write.{write_call}
use Rattle.face_frame_write.proofs.Gate.{told-message}
use Rattle.face_frame_write.proofs.write.Goals as goal

pub returns-in_default : goal.returns-in_default
unfolding write_call
returns-in_default c = rw (lt-leb 10 _ c.in_default.ensures.cases)

pub returns-in_default-first_chunk_mut : goal.returns-in_default-first_chunk_mut
unfolding write_call
returns-in_default-first_chunk_mut c =
    rw (le-leb 10 _ c.in-Some.ensures.cases.enough, lt-leb 60 _ c.in_default-first_chunk_mut.ensures.cases)

pub returns-in-Ok : goal.returns-in-Ok
unfolding write_call
returns-in-Ok c =
    let words = c.in-Some.ensures.cases in
    let frame = c.in-Some-first_chunk_mut.ensures.cases in
    rw (
      le-leb 10 _ words.enough,
      le-leb 60 _ frame.enough,
      c.number.ensures,
      told-message c.args.message.now c.args.octets.now words.enough,
      ← words.same,
      ← c.in-Ok.ensures,
    )

pub returns-in-Err : goal.returns-in-Err
unfolding write_call
returns-in-Err c =
    let words = c.in-Some.ensures.cases in
    let frame = c.in-Some-first_chunk_mut.ensures.cases in
    rw (
      le-leb 10 _ words.enough,
      le-leb 60 _ frame.enough,
      c.number-in-Err.ensures,
      told-message c.args.message.now c.args.octets.now words.enough,
      ← words.same,
      ← c.in-Err.ensures,
    )
