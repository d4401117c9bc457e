-- The words of the list's grants, and loops over them, as folds.
-- Assumes nothing.
use Prim.Native.Nat.{ℕ, ◌+◌, ◌-◌, ◌<◌}
use mathlib.Core.Path.{◌≡◌, sym, ◌∙◌}
use mathlib.Core.Bool.{Bool, ◌&&◌, ◌||◌, and-true, and_assoc, or-false, or_assoc}
use Rattle.std.specs.List.{fold}
use mathlib.Core.List.{List, [], ◌∷◌}
use lib.Dec.{eqb, leb}
use lib.ListN.{length, get_or, take, drop}
use Rattle.std.proofs.Common.{arith, add-one, drop-cons, length-drop}
use Rattle.std.proofs.lemmas.List.{take_all, drop-take}
use Rattle.face_box.specs.Box.{is_clear}
use Rattle.face_words.specs.Words.{lower}
use Rattle.face_box_pass.specs.Judging.{are_short, is_among}

abbrev pub fitted : Bool → ℕ → Bool
fitted t x = t && leb (lower x) 65535

pub short-walk : (t : Bool) (l : List ℕ) → fold fitted t l ≡ (t && are_short l)
short-walk t [] = sym (and-true t)
short-walk t (x ∷ l) = short-walk (fitted t x) l ∙ and_assoc t (leb (lower x) 65535) (are_short l)

abbrev pub found : ℕ → Bool → ℕ → Bool
found grant t x = t || eqb x grant

pub among-walk : (grant : ℕ) (t : Bool) (l : List ℕ) → fold (found grant) t l ≡ (t || is_among grant l)
among-walk grant t [] = sym (or-false t)
among-walk grant t (x ∷ l) = among-walk grant (found grant t x) l ∙ or_assoc t (eqb x grant) (is_among grant l)

-- the words from a place on
pub behind : (i : ℕ) (b : List ℕ) → length b ≡ 29 → take (29 - i) (drop i b) ≡ drop i b
behind i b h = take_all (29 - i) (drop i b) (simp length-drop (omega arith))

-- so many from the first grant on
pub held : (n : ℕ) (b : List ℕ) → take (13 + n - 13) (drop 13 b) ≡ drop 13 (take (13 + n) b)
held n b =
    let e : 13 + n - 13 ≡ n = omega arith in
    rw (drop-take 13 n b, e)

pub clear_from : (i : ℕ) (b : List ℕ) → i < length b → is_clear (drop i b) ≡ (eqb (get_or b i 0) 0 && is_clear (drop (i + 1) b))
clear_from i b h = rw (add-one, drop-cons b i 0)
