-- `frame_reader::register_at` meets its promise.
-- Assumes nothing.
use Rattle.std.proofs.Common.{rules}
use Rattle.frame_reader.specs.Decode.{register_at}
use Rattle.frame_reader.specs.Flags.{register_flag_of}
use Rattle.frame_reader.proofs.register_at.Goals as goal

pub returns : goal.returns
unfolding register_at register_flag_of
returns c = search rules
