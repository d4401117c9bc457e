-- `face_box_pass::are_short` meets its promise.
-- Assumes nothing.
use Rattle.std.proofs.Common.{◌≡◌, ◌∙◌, arith, true}
use Rattle.std.specs.List.{fold}
use Rattle.std.proofs.lemmas.Grind.{common_steps}
use Rattle.face_box_pass.proofs.Walks.{fitted, short-walk}
use Rattle.face_box_pass.proofs.are_short.Goals as goal

pub returns : goal.returns
returns c =
    let ran : c.fold.result ≡ fold fitted true c.args.grants.now = grind (arith, common_steps) in
    ran ∙ short-walk true c.args.grants.now
