-- `frame_reader::body_at` meets its promise.
-- Assumes nothing.
use Rattle.std.proofs.Common.{rules}
use Rattle.frame.specs.Reading.{body_in_range}
use Rattle.frame_reader.specs.Decode.{body_at}
use Rattle.frame_reader.proofs.body_at.Goals as goal

pub returns-in-2 : goal.returns-in-2
unfolding body_in_range body_at
returns-in-2 c = search rules

pub returns-in-3 : goal.returns-in-3
unfolding body_in_range body_at
returns-in-3 c = search rules

pub returns-in-4 : goal.returns-in-4
unfolding body_in_range body_at
returns-in-4 c = search rules

pub returns-in-5 : goal.returns-in-5
unfolding body_in_range body_at
returns-in-5 c = search rules

pub returns-in-6 : goal.returns-in-6
unfolding body_in_range body_at
returns-in-6 c = search rules

pub returns-in_default : goal.returns-in_default
unfolding body_in_range body_at
returns-in_default c = search rules
