-- `face_frame_read::read_register_req` meets its promise.
-- Assumes nothing.
use native.Mathlib.Omega.{arith}
use Rattle.frame_reader.specs.Decode.{register_req_at}
use Rattle.face_frame_read.proofs.Words.{register-req-words}
use Rattle.face_frame_read.proofs.read_register_req.Goals as goal

pub returns-in-1 : goal.returns-in-1
unfolding register_req_at
returns-in-1 c =
    rw (c.take.ensures, ← c.field-pending.ensures.value, ← c.field-flag.ensures.value)
    (register-req-words c.args.s.now c.field-flag.result _ (omega arith) (omega arith) (λ two. omega arith))
