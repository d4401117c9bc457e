-- `face_box_pass::is_listed` meets its promise.
-- Assumes nothing.
use Rattle.std.proofs.Common.{◌≡◌, ◌∙◌, ap, arith, drop}
use Rattle.std.proofs.lemmas.Bool.Decides.{nat_tests}
use Rattle.std.proofs.lemmas.Grind.{common_steps}
use Rattle.face_box.specs.Box.{is_clear}
use Rattle.face_box_pass.proofs.Walks.{behind}
use Rattle.face_box_pass.specs.Judging.{is_listed}
use Rattle.face_box_pass.proofs.is_listed.Goals as goal

pub returns-then-phase-ne5 : goal.returns-then-phase-ne5
unfolding is_listed
returns-then-phase-ne5 c =
    let clear : c.is_clear.result ≡ is_clear (drop 13 c.args.b.now) = c.is_clear.ensures ∙ ap is_clear (behind 13 c.args.b.now c.told-b) in
    grind (arith, nat_tests, common_steps)
