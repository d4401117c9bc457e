-- `face_frame_write::write_register` meets its promise.
-- Assumes nothing.
use mathlib.Core.Path.{◌≡◌}
use mathlib.Core.Bool.{true}
use Rattle.std.proofs.Common.{rules}
use Rattle.octets.specs.Octets.{onto}
use Rattle.face_frame_write.specs.Steps.{register_in}
use Rattle.face_frame_write.proofs.write_register.Goals as goal

pub returns-in-1-to-4 : goal.returns-in-1-to-4
unfolding onto
returns-in-1-to-4 c =
    let passed : register_in c.args.body ≡ true = search rules in
    rw (c.lay-in-1-to-4-3.ensures, c.lay-in-1-to-4-2.ensures, c.lay-in-1-to-4.ensures, c.lay.ensures, c.begin.ensures, passed)
