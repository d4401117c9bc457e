-- `face_box_pass::light` meets its promise.
-- Assumes nothing.
use Rattle.std.proofs.Common.{arith, sym}
use Rattle.face_box_pass.specs.Judged.{serves-sync}
use Rattle.face_box_pass.proofs.light.Goals as goal

pub overflow_add-sync : goal.overflow_add-sync
overflow_add-sync c = omega (arith, serves-sync _ _ (sym c.if-is_served-2.ensures))
