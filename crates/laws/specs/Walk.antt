-- Lemmas: a loop over the first n elements of an array is a fold of their list: what is left to do from here gives what the whole gives.
-- Assumes nothing.
use Rattle.std.specs.Prelude.{ℕ, ◌+◌, ◌≤◌, ◌<◌, ◌≡◌, take, drop, length, get_or}
use Rattle.std.proofs.Common.{sym, ◌∙◌, add-one, arith, length-take, drop_of_length-le, drop-cons, get_or-take}
use mathlib.Core.List.{List, foldl}

module _ {A S : Type 0} (f : S → A → S) (l : List A) (n : ℕ) where
  -- a turn of the loop
  pub walk-again : (d : A) (i : ℕ) (s s' t : S) → i < n → n ≤ length l → s' ≡ f s (get_or l i d)
      → foldl f s (drop i (take n l)) ≡ t → foldl f s' (drop (i + 1) (take n l)) ≡ t
  walk-again d i s s' t h k e p =
      let b : i < length (take n l) = simp length-take (omega arith) in
      let step : foldl f s (drop i (take n l)) ≡ foldl f (f s (get_or l i d)) (drop (i + 1) (take n l)) =
      rw (drop-cons (take n l) i d b, get_or-take n l i d h, add-one) in
      rw e (sym step ∙ p)

  -- and its end
  pub walk-done : (i : ℕ) (s t : S) → n ≤ i → foldl f s (drop i (take n l)) ≡ t → s ≡ t
  walk-done i s t h p = rw (drop_of_length-le (take n l) {i = i} (simp length-take (omega arith))) at p
