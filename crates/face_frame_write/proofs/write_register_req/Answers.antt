-- `face_frame_write::write_register_req` meets its promise.
-- Assumes nothing.
use mathlib.Core.Path.{◌≡◌}
use mathlib.Core.Bool.{true}
use Rattle.std.proofs.Common.{rules}
use Rattle.octets.specs.Octets.{onto}
use Rattle.face_frame_write.specs.Steps.{register_req_in}
use Rattle.face_frame_write.proofs.write_register_req.Goals as goal

pub returns-in-1 : goal.returns-in-1
unfolding onto
returns-in-1 c =
    let passed : register_req_in c.args.body ≡ true = search rules in
    rw (c.lay-in-1.ensures, c.lay.ensures, c.begin.ensures, passed)
