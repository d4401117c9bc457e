-- `face_frame_write::Header::begin` meets its promise.
-- Assumes nothing.
use Rattle.octets.specs.Octets.{onto}
use Rattle.face_frame_write.proofs.Header.begin.Goals as goal

pub returns : goal.returns
unfolding onto
returns c =
    rw (
      c.lay-5.ensures,
      c.lay-4.ensures,
      c.lay-3.ensures,
      c.lay-2.ensures,
      c.lay.ensures,
    )
