-- `face_frame_write::write_gate` meets its promise.
-- Assumes nothing.
use Rattle.octets.specs.Octets.{onto}
use Rattle.face_frame_write.proofs.write_gate.Goals as goal

pub returns : goal.returns
unfolding onto
returns c =
    rw (
      c.lay_grant-4.ensures,
      c.lay_grant-3.ensures,
      c.lay_grant-2.ensures,
      c.lay_grant.ensures,
      c.lay.ensures,
      c.begin.ensures,
      ← c.gate_in.ensures,
      c.if-not-gate_in.false,
    )
