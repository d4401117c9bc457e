-- Lemmas: the two ways that a test comes out.
-- Assumes nothing.
use Rattle.std.specs.Prelude.{ℕ, ◌≤◌, ◌<◌, ◌≡◌, refl, Bool, true, false, cond, ◌⊎◌, ltb}
use Rattle.std.proofs.Common.{inl, inr, ltb-true, ltb-false}

-- what holds of both choices, each where its test came out so, holds of the choice
pub either : {A : Type 0} (P : A → Type 0) (t : Bool) (x y : A) → (t ≡ true → P x) → (t ≡ false → P y) → P (cond t x y)
either P true x y f g = f refl
either P false x y f g = g refl

-- a test is true or false
pub decided : (t : Bool) → (t ≡ true) ⊎ (t ≡ false)
decided true = inl refl
decided false = inr refl

-- of two numbers the first is below the second, or it is not
pub cut : (a b : ℕ) → (a < b) ⊎ (b ≤ a)
cut a b = split (ltb a b) refl
  where
    split : (t : Bool) → ltb a b ≡ t → (a < b) ⊎ (b ≤ a)
    split true e = inl (ltb-true a b e)
    split false e = inr (ltb-false a b e)
