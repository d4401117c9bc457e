-- `frame_reader::message` meets its promise.
-- Assumes nothing.
use Rattle.std.proofs.Common.{rules}
use Rattle.frame_reader.specs.Decode.{read_of}
use Rattle.frame_reader.proofs.message.Goals as goal

pub returns-in-Some : goal.returns-in-Some
unfolding read_of
returns-in-Some c = search rules

pub returns-in-None : goal.returns-in-None
unfolding read_of
returns-in-None c = search rules
