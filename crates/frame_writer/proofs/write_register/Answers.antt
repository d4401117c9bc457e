-- `frame_writer::write_register` meets its promise.
-- Assumes nothing.
use Rattle.std.proofs.Common.{rules}
use Rattle.octets.specs.Octets.{onto}
use Rattle.frame.specs.Layout.{body_octets}
use Rattle.frame_writer.proofs.write_register.Goals as goal

pub returns : goal.returns
unfolding onto body_octets
returns c = search rules
