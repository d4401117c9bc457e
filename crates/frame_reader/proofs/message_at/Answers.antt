-- `frame_reader::message_at` meets its promise.
-- Assumes nothing.
use Rattle.std.proofs.Common.{rules}
use Rattle.frame.specs.Reading.{source_in_range}
use Rattle.frame_reader.specs.Decode.{read_control, message_at}
use Rattle.frame_reader.proofs.message_at.Goals as goal

pub returns-then-field-ne-KIND : goal.returns-then-field-ne-KIND
unfolding read_control message_at source_in_range
returns-then-field-ne-KIND c = search rules

pub returns-in_err-body : goal.returns-in_err-body
unfolding read_control message_at source_in_range
returns-in_err-body c = search rules

pub returns-then-not-individual : goal.returns-then-not-individual
unfolding read_control message_at source_in_range
returns-then-not-individual c = search rules

pub returns : goal.returns
unfolding read_control message_at source_in_range
returns c = search rules
