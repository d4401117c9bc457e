-- `face_frame_read::read_control` meets its promise.
-- Assumes nothing.
use native.Mathlib.Omega.{arith}
use Rattle.frame.specs.Reading.{body_in_range}
use Rattle.frame_reader.specs.Decode.{message_at, body_at}
use Rattle.face_frame_read.specs.Steps.{control_read}
use Rattle.face_frame_read.proofs.Words.{no-opcode}
use Rattle.face_frame_read.proofs.read_control.Goals as goal

pub returns-in-2 : goal.returns-in-2
unfolding control_read body_in_range message_at body_at
returns-in-2 c = rw (c.read_gate.ensures, ← c.field.ensures.value, c.in-2.is)

pub returns-in-3 : goal.returns-in-3
unfolding control_read body_in_range message_at body_at
returns-in-3 c = rw (c.read_report.ensures, ← c.field.ensures.value, c.in-3.is)

pub returns-in-4 : goal.returns-in-4
unfolding control_read body_in_range message_at body_at
returns-in-4 c = rw (c.read_register_req.ensures, ← c.field.ensures.value, c.in-4.is)

pub returns-in-5 : goal.returns-in-5
unfolding control_read body_in_range message_at body_at
returns-in-5 c = rw (c.read_register.ensures, ← c.field.ensures.value, c.in-5.is)

pub returns-in-6 : goal.returns-in-6
unfolding control_read body_in_range message_at body_at
returns-in-6 c = rw (c.read_register_ack.ensures, ← c.field.ensures.value, c.in-6.is)

pub returns-in_default : goal.returns-in_default
unfolding control_read
returns-in_default c =
    rw (← c.field.ensures.value, no-opcode c.field.result (λ low high. omega arith))
