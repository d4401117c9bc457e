-- `frame_writer::begin` meets its promise.
-- Assumes nothing.
use Rattle.std.proofs.Common.{rules}
use Rattle.octets.specs.Octets.{onto}
use Rattle.frame_writer.proofs.begin.Goals as goal

pub returns : goal.returns
unfolding onto
returns c = search rules
