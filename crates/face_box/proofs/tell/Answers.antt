-- `face_box::tell` meets its promise.
-- Assumes nothing.
use mir.Syntax.{w64}
use mir.ValLaws.{to_z-of_z}
use Rattle.face_box.proofs.Told.{is-told}
use Rattle.face_box.proofs.tell.Goals as goal

pub returns : goal.returns
returns c =
    rw (
      c.lay.ensures,
      c.layout-words.ensures,
      to_z-of_z w64 c.args.drift c.ranges.drift,
      c.number-n.ensures,
      c.notice_words-d.ensures,
      c.notice_words-c.ensures,
      c.notice_words-b.ensures,
      c.notice_words-a.ensures,
      is-told c.args.drift c.args.frames c.args.notices,
    )
