-- `frame_reader::register_req_at` meets its promise.
-- Assumes nothing.
use Rattle.std.proofs.Common.{rules}
use Rattle.frame_reader.specs.Decode.{register_req_at}
use Rattle.frame_reader.specs.Flags.{register_req_flag_of}
use Rattle.frame_reader.proofs.register_req_at.Goals as goal

pub returns : goal.returns
unfolding register_req_at register_req_flag_of
returns c = search rules
