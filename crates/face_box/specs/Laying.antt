-- Code: how the code comes to what a call tells: the number of notices by their kinds, and nineteen words, of which as many are laid as it has.
-- That this is the page `Told` is in proofs/Told.antt.
-- Assumes nothing.
use Rattle.std.specs.Prelude.{ℕ, cond, List, ◌∷◌, ◌++◌, eqb, ℤ}
use Rattle.face_words.specs.Words.{drift_word}
use Rattle.face_box.specs.Told.{four}
use Rattle.face_box.specs.declared.NoticeWords.{NoticeWords}

unfoldable pub how_many : ℕ → ℕ → ℕ → ℕ → ℕ
how_many a b c d = cond (eqb a 0) 0 (cond (eqb b 0) 1 (cond (eqb c 0) 2 (cond (eqb d 0) 3 4)))

abbrev pub layout : ℤ → ℕ → ℕ → NoticeWords → NoticeWords → NoticeWords → NoticeWords → List ℕ
layout drift frames number a b c d = drift_word drift ∷ frames ∷ number ∷ four a ++ four b ++ four c ++ four d
