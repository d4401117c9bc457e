-- `frame_reader::grant_at` meets its promise.
-- Assumes nothing.
use Rattle.std.proofs.Common.{rules}
use Rattle.frame_reader.specs.Decode.{grant_at}
use Rattle.frame_reader.proofs.grant_at.Goals as goal

pub returns : goal.returns
unfolding grant_at
returns c = search rules
