-- `face_frame_write::write_discovery` meets its promise.
-- Assumes nothing.
use mathlib.Core.Path.{◌≡◌}
use mathlib.Core.Bool.{true}
use Rattle.std.proofs.Common.{rules}
use Rattle.octets.specs.Octets.{onto}
use Rattle.face_frame_write.specs.Steps.{discovery_in}
use Rattle.face_frame_write.proofs.write_discovery.Goals as goal

pub returns-in-0-to-65535 : goal.returns-in-0-to-65535
unfolding onto
returns-in-0-to-65535 c =
    let passed : discovery_in c.args.body ≡ true = search rules in
    rw (c.lay-in-0-to-65535.ensures, c.lay_grant.ensures, c.lay.ensures, c.first_octet.ensures, c.begin.ensures, passed)
