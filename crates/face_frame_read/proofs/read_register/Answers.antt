-- `face_frame_read::read_register` meets its promise.
-- Assumes nothing.
use native.Mathlib.Omega.{arith}
use Rattle.frame_reader.specs.Decode.{register_at}
use Rattle.face_frame_read.proofs.Words.{register-words}
use Rattle.face_frame_read.proofs.read_register.Goals as goal

pub returns-in-1-to-4 : goal.returns-in-1-to-4
unfolding register_at
returns-in-1-to-4 c =
    rw (
      c.take.ensures,
      ← c.field-pending.ensures.value,
      ← c.field-sync.ensures.value,
      ← c.field-flag.ensures.value,
      ← c.field-port.ensures.value,
    )
    (register-words c.args.s.now c.field-flag.result _ _ _ (omega arith) (omega arith))
