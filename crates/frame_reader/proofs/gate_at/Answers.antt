-- `frame_reader::gate_at` meets its promise.
-- Assumes nothing.
use Rattle.std.proofs.Common.{rules}
use Rattle.frame.specs.Reading.{gate_in_range}
use Rattle.frame_reader.specs.Decode.{gate_at, gate_of}
use Rattle.frame_reader.proofs.gate_at.Goals as goal

pub returns-then-f-n-ne0 : goal.returns-then-f-n-ne0
unfolding gate_in_range gate_at gate_of
returns-then-f-n-ne0 c = search rules

pub returns-then-n-ne1 : goal.returns-then-n-ne1
unfolding gate_in_range gate_at gate_of
returns-then-n-ne1 c = search rules

pub returns-then-f-eq1 : goal.returns-then-f-eq1
unfolding gate_in_range gate_at gate_of
returns-then-f-eq1 c = search rules

pub returns-in_err-grants_of : goal.returns-in_err-grants_of
unfolding gate_in_range gate_at gate_of
returns-in_err-grants_of c = search rules

pub returns : goal.returns
unfolding gate_in_range gate_at gate_of
returns c = search rules
