-- A list and a state, as a loop over an index leaves them after i turns; element i has the number i + k.
--     up_to f k xs i      xs with f of each of its first i elements in that element's place
--     fold_to g k xs i s  the state s after g of each of the first i elements in turn
-- Assumes nothing.
use mathlib.Core.Path.{◌≡◌, refl, sym, ap, ◌∙◌}
use Prim.Native.Nat.{ℕ, zero, suc, ◌+◌, ◌≤◌, ◌<◌}
use native.Mathlib.Nat.{not-suc-le-zero, le_of_suc-le-suc}
use native.Mathlib.Omega.{arith}
use mathlib.Core.List.{List, [], ◌∷◌}
use lib.ListN.{length, get_or, set, take}
use Rattle.lent.specs.Folds.{each, places}

shift : (i k : ℕ) → i + suc k ≡ suc i + k
shift i k = omega arith

none : (k : ℕ) → 0 + k ≡ k
none k = omega arith

module _ {X : Type 0} (f : ℕ → X → X) where
  pub up_to : ℕ → List X → ℕ → List X
  up_to k [] i = []
  up_to k (x ∷ xs) zero = x ∷ xs
  up_to k (x ∷ xs) (suc i) = f k x ∷ up_to (suc k) xs i

  pub up-zero : (k : ℕ) (xs : List X) → up_to k xs 0 ≡ xs
  unfolding up_to
  up-zero k [] = refl
  up-zero k (x ∷ xs) = refl

  pub up_at : (k : ℕ) (xs : List X) (i : ℕ) (d : X) → i < length xs → get_or (up_to k xs i) i d ≡ get_or xs i d
  unfolding up_to
  up_at k [] i d l = absurd (not-suc-le-zero l)
  up_at k (x ∷ xs) zero d l = refl
  up_at k (x ∷ xs) (suc i) d l = up_at (suc k) xs i d (le_of_suc-le-suc l)

  pub up_more : (k : ℕ) (xs : List X) (i : ℕ) (d : X) → i < length xs → set (up_to k xs i) i (f (i + k) (get_or xs i d)) ≡ up_to k xs (suc i)
  unfolding up_to
  up_more k [] i d l = absurd (not-suc-le-zero l)
  up_more k (x ∷ xs) zero d l = ap (λ (j : ℕ). f j x ∷ xs) (none k) ∙ ap (λ (t : List X). f k x ∷ t) (sym (up-zero (suc k) xs))
  up_more k (x ∷ xs) (suc i) d l = ap (λ (j : ℕ). f k x ∷ set (up_to (suc k) xs i) i (f j (get_or xs i d))) (sym (shift i k)) ∙ ap (λ (t : List X). f k x ∷ t) (up_more (suc k) xs i d (le_of_suc-le-suc l))

  pub up-length : (k : ℕ) (xs : List X) (i : ℕ) → length (up_to k xs i) ≡ length xs
  unfolding up_to
  up-length k [] i = refl
  up-length k (x ∷ xs) zero = refl
  up-length k (x ∷ xs) (suc i) = ap suc (up-length (suc k) xs i)

  pub up-all : (k : ℕ) (xs : List X) (i : ℕ) → length xs ≤ i → up_to k xs i ≡ places f k xs
  unfolding up_to places
  up-all k [] i l = refl
  up-all k (x ∷ xs) zero l = absurd (not-suc-le-zero l)
  up-all k (x ∷ xs) (suc i) l = ap (λ (t : List X). f k x ∷ t) (up-all (suc k) xs i (le_of_suc-le-suc l))

  pub up-still : ((j : ℕ) (x : X) → f j x ≡ x) → (k : ℕ) (xs : List X) (i : ℕ) → up_to k xs i ≡ xs
  unfolding up_to
  up-still h k [] i = refl
  up-still h k (x ∷ xs) zero = refl
  up-still h k (x ∷ xs) (suc i) =
      ap (λ (y : X). y ∷ up_to (suc k) xs i) (h k x) ∙ ap (λ (ys : List X). x ∷ ys) (up-still h (suc k) xs i)

module _ {X S : Type 0} (g : ℕ → X → S → S) where
  pub fold_to : ℕ → List X → ℕ → S → S
  fold_to k [] i s = s
  fold_to k (x ∷ xs) zero s = s
  fold_to k (x ∷ xs) (suc i) s = fold_to (suc k) xs i (g k x s)

  pub fold-zero : (k : ℕ) (xs : List X) (s : S) → fold_to k xs 0 s ≡ s
  unfolding fold_to
  fold-zero k [] s = refl
  fold-zero k (x ∷ xs) s = refl

  pub fold_more : (k : ℕ) (xs : List X) (i : ℕ) (d : X) (s : S) → i < length xs → g (i + k) (get_or xs i d) (fold_to k xs i s) ≡ fold_to k xs (suc i) s
  unfolding fold_to
  fold_more k [] i d s l = absurd (not-suc-le-zero l)
  fold_more k (x ∷ xs) zero d s l = ap (λ (j : ℕ). g j x s) (none k) ∙ sym (fold-zero (suc k) xs (g k x s))
  fold_more k (x ∷ xs) (suc i) d s l = ap (λ (j : ℕ). g j (get_or xs i d) (fold_to (suc k) xs i (g k x s))) (sym (shift i k)) ∙ fold_more (suc k) xs i d (g k x s) (le_of_suc-le-suc l)

  pub fold-all : (k : ℕ) (xs : List X) (i : ℕ) (s : S) → length xs ≤ i → fold_to k xs i s ≡ each g k xs s
  unfolding each fold_to
  fold-all k [] i s l = refl
  fold-all k (x ∷ xs) zero s l = absurd (not-suc-le-zero l)
  fold-all k (x ∷ xs) (suc i) s l = fold-all (suc k) xs i (g k x s) (le_of_suc-le-suc l)

  pub fold-still : ((j : ℕ) (x : X) (s : S) → g j x s ≡ s) → (k : ℕ) (xs : List X) (i : ℕ) (s : S) → fold_to k xs i s ≡ s
  unfolding fold_to
  fold-still h k [] i s = refl
  fold-still h k (x ∷ xs) zero s = refl
  fold-still h k (x ∷ xs) (suc i) s = fold-still h (suc k) xs i (g k x s) ∙ h k x s

  -- up to i is all of the first i
  pub fold-take : (k : ℕ) (xs : List X) (i : ℕ) (s : S) → fold_to k xs i s ≡ each g k (take i xs) s
  unfolding each fold_to
  fold-take k [] zero s = refl
  fold-take k [] (suc i) s = refl
  fold-take k (x ∷ xs) zero s = refl
  fold-take k (x ∷ xs) (suc i) s = fold-take (suc k) xs i (g k x s)
