-- A chain of tests is passed exactly if each of them is.
-- Assumes nothing.
use mathlib.Core.Path.{◌≡◌, refl}
use mathlib.Core.Bool.{Bool, true, ◌&&◌, and-eq-true_iff, and_assoc}
use mathlib.Core.List.{List, [], ◌∷◌}

-- as code writes it: the first, and then each other
abbrev pub chain : Bool → List Bool → Bool
chain t [] = t
chain t (b ∷ bs) = chain (t && b) bs

pub chain-and : (h b : Bool) (bs : List Bool) → chain (h && b) bs ≡ (h && chain b bs)
chain-and h b [] = refl
chain-and h b (x ∷ bs) = rw and_assoc (chain-and h (b && x) bs)

abbrev pub Each : List Bool → Type 0
Each [] = Unit {0}
Each (b ∷ bs) = (b ≡ true) × Each bs

pub each : (t : Bool) (bs : List Bool) → chain t bs ≡ true → (t ≡ true) × Each bs
each t [] h = (h, tt)
each t (b ∷ bs) h =
    let rest = each (t && b) bs h in
    let here = (and-eq-true_iff t b).0 rest.0 in
    (here.0, (here.1, rest.1))

pub passed : (t : Bool) (bs : List Bool) → t ≡ true → Each bs → chain t bs ≡ true
passed t [] h e = h
passed t (b ∷ bs) h e = passed (t && b) bs ((and-eq-true_iff t b).1 (h, e.0)) e.1
