-- `face_box_calls::tell` meets its promise.
-- Assumes nothing.
use mir.Syntax.{w64}
use mir.ValLaws.{to_z-of_z}
use Rattle.face_box_calls.specs.Calls.{told_of}
use Rattle.face_box_calls.proofs.tell.Goals as goal

pub returns : goal.returns
unfolding told_of
returns c =
    rw (
      c.number.ensures,
      c.lay_frames.ensures,
      c.tell.ensures,
      to_z-of_z w64 c.args.answer.drift (record { sfits = c.well_formed.0.1.1.1.0.1 }),
    )
