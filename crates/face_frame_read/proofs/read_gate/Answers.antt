-- `face_frame_read::read_gate` meets its promise.
-- Assumes nothing.
use borrow.Author.Tests.{eq-eqb, ne_eqb}
use Rattle.frame.specs.Reading.{gate_in_range}
use Rattle.frame_reader.specs.Decode.{gate_at, gate_of}
use Rattle.face_frame_read.specs.Steps.{discovery_read, grants_read}
use Rattle.face_frame_read.proofs.read_gate.Goals as goal

pub returns-then-field-eq1 : goal.returns-then-field-eq1
unfolding discovery_read gate_in_range gate_at gate_of
returns-then-field-eq1 c =
    rw (c.read_discovery.ensures, ← c.field.ensures.value, eq-eqb _ _ c.if-field-eq1.true)

pub returns : goal.returns
unfolding grants_read gate_in_range gate_at gate_of
returns c =
    rw (c.read_grants.ensures, ← c.field.ensures.value, ne_eqb _ _ c.if-field-eq1.false)
