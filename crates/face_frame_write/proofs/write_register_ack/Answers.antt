-- `face_frame_write::write_register_ack` meets its promise.
-- Assumes nothing.
use mathlib.Core.Path.{◌≡◌}
use mathlib.Core.Bool.{true}
use Rattle.std.proofs.Common.{rules}
use Rattle.octets.specs.Octets.{onto}
use Rattle.face_frame_write.specs.Steps.{register_ack_in}
use Rattle.face_frame_write.proofs.write_register_ack.Goals as goal

pub returns-in-0-to-1 : goal.returns-in-0-to-1
unfolding onto
returns-in-0-to-1 c =
    let passed : register_ack_in c.args.body ≡ true = search rules in
    rw (c.lay-in-0-to-1-2.ensures, c.lay-in-0-to-1.ensures, c.lay.ensures, c.begin.ensures, passed)
