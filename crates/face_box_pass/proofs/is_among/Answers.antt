-- `face_box_pass::is_among` meets its promise.
-- Assumes nothing.
use Rattle.std.proofs.Common.{◌≡◌, ◌∙◌, arith, false}
use Rattle.std.specs.List.{fold}
use Rattle.std.proofs.lemmas.Grind.{common_steps}
use Rattle.face_box_pass.proofs.Walks.{found, among-walk}
use Rattle.face_box_pass.proofs.is_among.Goals as goal

pub returns : goal.returns
returns c =
    let ran : c.fold.result ≡ fold (found c.args.grant) false c.args.grants.now = grind (arith, common_steps) in
    ran ∙ among-walk c.args.grant false c.args.grants.now
