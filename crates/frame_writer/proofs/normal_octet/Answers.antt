-- `frame_writer::normal_octet` meets its promise.
-- Assumes nothing.
use Rattle.std.proofs.Common.{rules}
use Rattle.frame.specs.Layout.{first_octet}
use Rattle.frame_writer.proofs.normal_octet.Goals as goal

pub returns : goal.returns
unfolding first_octet
returns c = search rules
