-- `face_box::is_clear` meets its promise.
-- Assumes nothing.
use Rattle.std.proofs.Common.{◌≡◌, ◌∙◌, ℕ, List, [], ◌∷◌, Bool, true, arith, sym, eqb}
use Rattle.std.proofs.Math.Bool.{◌&&◌, and-true, and_assoc}
use Rattle.std.proofs.lemmas.Grind.{common_steps}
use Rattle.std.specs.List.{fold}
use Rattle.face_box.specs.Box.{is_clear}
use Rattle.face_box.proofs.is_clear.Goals as goal

abbrev cleared : Bool → ℕ → Bool
cleared t x = t && eqb x 0

walk : (t : Bool) (l : List ℕ) → fold cleared t l ≡ (t && is_clear l)
walk t [] = sym (and-true t)
walk t (x ∷ l) = walk (cleared t x) l ∙ and_assoc t (eqb x 0) (is_clear l)

pub returns : goal.returns
returns c =
    let ran : c.fold.result ≡ fold cleared true c.args.words.now = grind (arith, common_steps) in
    ran ∙ walk true c.args.words.now
