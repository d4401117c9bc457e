-- Lemmas: where a fold with the place changes nothing.
-- Assumes nothing.
use Rattle.std.specs.Prelude.{ℕ, suc, ◌≡◌, refl, List, [], ◌∷◌}
use Rattle.std.proofs.Common.{◌∙◌, ap}
use Rattle.lent.specs.Folds.{places, each}

-- what changes no element changes no list
pub places-still : {X : Type 0} (f : ℕ → X → X) → ((j : ℕ) (x : X) → f j x ≡ x) → (k : ℕ) (xs : List X) → places f k xs ≡ xs
unfolding places
places-still f h k [] = refl
places-still {X} f h k (x ∷ xs) =
    ap (λ (y : X). y ∷ places f (suc k) xs) (h k x) ∙ ap (λ (ys : List X). x ∷ ys) (places-still f h (suc k) xs)

-- and what no element changes stays
pub each-still : {X S : Type 0} (g : ℕ → X → S → S) → ((j : ℕ) (x : X) (s : S) → g j x s ≡ s) → (k : ℕ) (xs : List X) (s : S) → each g k xs s ≡ s
unfolding each
each-still g h k [] s = refl
each-still g h k (x ∷ xs) s = each-still g h (suc k) xs (g k x s) ∙ h k x s
