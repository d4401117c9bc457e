-- `frame_writer::write_body` meets its promise.
-- Assumes nothing.
use Rattle.std.proofs.Common.{rules}
use Rattle.frame.specs.Layout.{body_octets}
use Rattle.octets.specs.Octets.{onto}
use Rattle.frame_writer.proofs.write_body.Goals as goal

pub returns-in-Gate : goal.returns-in-Gate
unfolding onto body_octets
returns-in-Gate c = search rules

pub returns-in-Discovery : goal.returns-in-Discovery
unfolding onto body_octets
returns-in-Discovery c = search rules

pub returns-in-RegisterReq : goal.returns-in-RegisterReq
unfolding onto body_octets
returns-in-RegisterReq c = search rules

pub returns-in-Register : goal.returns-in-Register
unfolding onto body_octets
returns-in-Register c = search rules

pub returns-in-RegisterAck : goal.returns-in-RegisterAck
unfolding onto body_octets
returns-in-RegisterAck c = search rules
