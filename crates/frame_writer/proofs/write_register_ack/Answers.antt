-- `frame_writer::write_register_ack` meets its promise.
-- Assumes nothing.
use Rattle.std.proofs.Common.{rules}
use Rattle.octets.specs.Octets.{onto}
use Rattle.frame.specs.Layout.{body_octets}
use Rattle.frame_writer.proofs.write_register_ack.Goals as goal

pub returns : goal.returns
unfolding onto body_octets
returns c = search rules
