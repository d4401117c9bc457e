-- Lemmas: what is left of laying words where they fit, what the test of two lists says, two numbers in a word, and a loop that fills an array
-- with what it makes of another's elements.
-- Assumes nothing.
use Rattle.std.specs.Prelude.{ℕ, ◌+◌, ◌^◌, ◌≤◌, ◌<◌, min, ◌≡◌, refl, true, List, [], ◌∷◌, ◌++◌, map, eqb, length, take, drop, get_or, set}
use Rattle.std.proofs.Common.{sym, ◌∙◌, ap, append-nil, arith, add-one, eq-eqb, eqb-true, take-suc, take-suc-set, take_all}
use Rattle.std.proofs.Math.Bool.{and-eq-true_iff}
use Rattle.std.proofs.lemmas.Bool.{false≢true}
use Rattle.std.proofs.lemmas.List.{length-map}
use Rattle.std.proofs.Math.ListN.{get_or-map}
use Rattle.std.proofs.Math.Seq.{take-length, drop-length}
use Rattle.face_words.specs.Words.{laid, same, joined, upper, lower}

-- all of the words have room
pub laid-over : (s d : List ℕ) → length s ≤ length d → laid s d ≡ s ++ drop (length s) d
unfolding laid
laid-over s d h = let e : min (length s) (length d) ≡ length s = omega arith in rw (e, take-length)

-- they fill all that there is
pub laid-whole : (s d : List ℕ) → length d ≤ length s → laid s d ≡ take (length d) s
unfolding laid
laid-whole s d h = let e : min (length s) (length d) ≡ length d = omega arith in rw (e, drop-length, append-nil)

-- lists that are found the same are one
pub same-is : (a b : List ℕ) → same a b ≡ true → a ≡ b
same-is [] [] h = refl
same-is [] (y ∷ b) h = absurd (false≢true h)
same-is (x ∷ a) [] h = absurd (false≢true h)
same-is (x ∷ a) (y ∷ b) h =
    let both = (and-eq-true_iff (eqb x y) (same a b)).0 h in
    rw (eqb-true x y both.0, same-is a b both.1)

-- and a list is found the same as itself
pub same_self : (a : List ℕ) → same a a ≡ true
same_self [] = refl
same_self (x ∷ a) = rw (eq-eqb x x refl, same_self a)

-- every word is two numbers, and two numbers have one word
pub joined-again : (w : ℕ) → joined (upper w) (lower w) ≡ w
joined-again w = omega arith

pub upper-joined : (a b : ℕ) → b < 2 ^ 32 → upper (joined a b) ≡ a
upper-joined a b h = omega arith

pub lower-joined : (a b : ℕ) → b < 2 ^ 32 → lower (joined a b) ≡ b
lower-joined a b h = omega arith

module _ {A B : Type 0} (f : A → B) (xs : List A) where
  -- a turn of the loop
  pub fill-again : (out : List B) (d : A) (i : ℕ) (v : B) → i < length xs → i < length out → v ≡ f (get_or xs i d)
      → take i out ≡ take i (map f xs) → take (i + 1) (set out i v) ≡ take (i + 1) (map f xs)
  fill-again out d i v hx ho e p =
      rw (add-one, take-suc-set out i v ho, p, e)
      (ap (λ (y : B). take i (map f xs) ++ (y ∷ [])) (sym (get_or-map f xs i d))
      ∙ sym (take-suc (map f xs) i (f d) (rw length-map hx)))

  -- and its end
  pub fill_done : (out : List B) (i : ℕ) → length out ≡ i → length xs ≡ i → take i out ≡ take i (map f xs) → out ≡ map f xs
  fill_done out i ho hx p =
      sym (take_all i out (omega arith)) ∙ p ∙ take_all i (map f xs) (rw length-map (omega arith))
