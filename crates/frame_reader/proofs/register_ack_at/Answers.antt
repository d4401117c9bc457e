-- `frame_reader::register_ack_at` meets its promise.
-- Assumes nothing.
use Rattle.std.proofs.Common.{rules}
use Rattle.frame_reader.specs.Decode.{register_ack_at}
use Rattle.frame_reader.specs.Flags.{register_ack_flag_of}
use Rattle.frame_reader.proofs.register_ack_at.Goals as goal

pub returns : goal.returns
unfolding register_ack_at register_ack_flag_of
returns c = search rules
