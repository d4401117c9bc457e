-- Lemmas: what the test says that nothing stands behind a list; every word is one grant's; what a call tells is nineteen words at most.
-- Assumes nothing.
use Rattle.std.specs.Prelude.{ℕ, zero, suc, ◌+◌, ◌*◌, ◌≤◌, ◌≡◌, refl, true, List, [], ◌∷◌, map, eqb, ℤ, length, replicate}
use Rattle.std.proofs.Math.Bool.{and-eq-true_iff}
use Rattle.std.proofs.Common.{eqb-true, arith}
use Rattle.laws.specs.Cases.{either}
use Rattle.face_fields.specs.Fields.{span_word, span_of}
use Rattle.face_words.specs.Laws.{joined-again}
use Rattle.box_telling.specs.Told.{is_nothing}
use Rattle.box_telling.specs.declared.Notice.{Notice}
use Rattle.box_telling.specs.declared.Notices.{Notices}
use Rattle.face_box.specs.Box.{is_clear}
use Rattle.face_box.specs.Told.{ahead, listed, notices_words, told_words}

-- words that are found clear are all 0
pub clear-is : (l : List ℕ) → is_clear l ≡ true → l ≡ replicate (length l) 0
clear-is [] h = refl
clear-is (x ∷ l) h =
    let both = (and-eq-true_iff (eqb x 0) (is_clear l)).0 h in
    rw (eqb-true x 0 both.0, ← clear-is l both.1)

-- and such words are found clear
pub clear_of : (n : ℕ) → is_clear (replicate n 0) ≡ true
clear_of zero = refl
clear_of (suc n) = clear_of n

-- grants' words are what they were
pub words-again : (l : List ℕ) → map span_word (map span_of l) ≡ l
words-again [] = refl
words-again (w ∷ l) = rw (joined-again w, words-again l)

-- of four notices at most, four words each
one_more : (x : Notice) (l : List Notice) → length (ahead x l) ≤ length l + 1
one_more x l = either (λ (m : List Notice). length m ≤ length l + 1) (is_nothing x) _ _ (λ _. omega arith) (λ _. omega arith)

at-most-four : (n : Notices) → length (listed n) ≤ 4
unfolding listed
at-most-four n =
    let d = ahead n.fourth [] in
    let c = ahead n.third d in
    let b = ahead n.second c in
    omega (arith, one_more n.fourth [], one_more n.third d, one_more n.second c, one_more n.first b)

four-each : (l : List Notice) → length (notices_words l) ≡ 4 * length l
four-each [] = refl
four-each (x ∷ l) = omega (arith, four-each l)

pub told-length : (drift : ℤ) (frames : ℕ) (n : Notices) → length (told_words drift frames n) ≤ 19
unfolding told_words
told-length drift frames n = omega (arith, at-most-four n, four-each (listed n))
