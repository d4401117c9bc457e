-- `face_frame_read::read_register_ack` meets its promise.
-- Assumes nothing.
use native.Mathlib.Omega.{arith}
use Rattle.frame_reader.specs.Decode.{register_ack_at}
use Rattle.face_frame_read.proofs.Words.{register-ack-words}
use Rattle.face_frame_read.proofs.read_register_ack.Goals as goal

pub returns-in-0-to-1 : goal.returns-in-0-to-1
unfolding register_ack_at
returns-in-0-to-1 c =
    rw (
      c.take.ensures,
      ← c.field-sync.ensures.value,
      ← c.field-port.ensures.value,
      ← c.field-flag.ensures.value,
    )
    (register-ack-words c.args.s.now c.field-flag.result _ _ (omega arith))
