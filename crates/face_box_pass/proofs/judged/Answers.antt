-- `face_box_pass::judged` meets its promise.
-- Assumes nothing.
use Rattle.std.proofs.Common.{◌≡◌, ◌∙◌, ◌&&◌, ap, arith, drop, get_or, eqb}
use Rattle.std.proofs.lemmas.Bool.Decides.{nat_tests}
use Rattle.std.proofs.lemmas.Grind.{common_steps}
use Rattle.face_box.specs.Box.{is_clear}
use Rattle.face_box_pass.proofs.Walks.{behind, clear_from}
use Rattle.face_box_pass.specs.Judging.{judged_of}
use Rattle.face_box_pass.proofs.judged.Goals as goal

pub returns-then-is_clear : goal.returns-then-is_clear
unfolding judged_of
returns-then-is_clear c =
    let clear : c.is_clear.result ≡ (eqb (get_or c.args.b.now 9 0) 0 && is_clear (drop 10 c.args.b.now)) = c.is_clear.ensures ∙ ap is_clear (behind 9 c.args.b.now c.told-b) ∙ clear_from 9 c.args.b.now (omega arith) in
    grind (arith, nat_tests, common_steps)

pub returns : goal.returns
unfolding judged_of
returns c =
    let clear : c.is_clear.result ≡ (eqb (get_or c.args.b.now 9 0) 0 && is_clear (drop 10 c.args.b.now)) = c.is_clear.ensures ∙ ap is_clear (behind 9 c.args.b.now c.told-b) ∙ clear_from 9 c.args.b.now (omega arith) in
    grind (arith, nat_tests, common_steps)
