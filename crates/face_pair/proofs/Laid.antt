-- Words laid over words: how long they are then, and that laid where they stand already they change nothing.
-- Assumes nothing.
use Prim.Native.Nat.{ℕ, ◌≤◌}
use mathlib.Core.Path.{◌≡◌, refl, sym, ap, ◌∙◌}
use mathlib.Core.List.{List, [], ◌∷◌, ◌++◌}
use native.Mathlib.Omega.{arith}
use lib.ListN.{length, take, drop, get_or, take-append-drop, length-append, length-take, length-drop}
use lib.Seq.{drop_at}
use Rattle.face_words.specs.Laws.{laid-over}
use Rattle.face_words.specs.Words.{laid}

pub length-laid : (s d : List ℕ) → length (laid s d) ≡ length d
unfolding laid
length-laid s d = simp (length-append, length-take, length-drop) (omega arith)

pub laid-again : (s rest : List ℕ) → laid s (s ++ rest) ≡ s ++ rest
laid-again s rest =
    let room : length s ≤ length (s ++ rest) = rw length-append (omega arith) in
    laid-over s (s ++ rest) room ∙ ap (λ (r : List ℕ). s ++ r) (drop_at s rest (length s) refl)

-- of two that are as long the second stays
pub laid-twice : (s t d : List ℕ) → length s ≡ length t → length t ≤ length d → laid s (laid t d) ≡ laid s d
laid-twice s t d e h =
    let long : length s ≤ length (laid t d) = rw (length-laid t d) (omega arith) in
    laid-over s (laid t d) long
    ∙ ap (λ (r : List ℕ). s ++ drop (length s) r) (laid-over t d h)
    ∙ ap (λ (r : List ℕ). s ++ r) (drop_at t (drop (length t) d) (length s) (sym e) ∙ ap (λ (k : ℕ). drop k d) (sym e))
    ∙ sym (laid-over s d (omega arith))

-- the first word
pub first_word : (k : ℕ) (d : List ℕ) → 1 ≤ length d → get_or (laid (k ∷ []) d) 0 0 ≡ k
first_word k d h = ap (λ (w : List ℕ). get_or w 0 0) (laid-over (k ∷ []) d h)

-- words that stand there already
pub laid-own : (s d : List ℕ) (n : ℕ) → length s ≡ n → n ≤ length d → take n d ≡ s → laid s d ≡ d
laid-own s d n e h f =
    laid-over s d (omega arith)
    ∙ ap (λ (k : ℕ). s ++ drop k d) e
    ∙ ap (λ (w : List ℕ). w ++ drop n d) (sym f)
    ∙ take-append-drop n d
