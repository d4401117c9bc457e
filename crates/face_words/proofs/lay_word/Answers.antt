-- `face_words::lay_word` meets its promise.
-- Assumes nothing.
use Rattle.std.proofs.Common.{ℕ, suc, ◌≤◌, ◌≡◌, List, [], ◌∷◌, min, length, set, refl, arith}
use Rattle.face_words.specs.Words.{laid}
use Rattle.face_words.proofs.lay_word.Goals as goal

some : (w : ℕ) (l : List ℕ) → set l 0 w ≡ laid (w ∷ []) l
unfolding laid
some w [] = refl
some w (x ∷ l) = let e : min 1 (suc (length l)) ≡ 1 = omega arith in rw e

none : (w : ℕ) (l : List ℕ) → length l ≤ 0 → l ≡ laid (w ∷ []) l
unfolding laid
none w [] h = refl
none w (x ∷ l) h = absurd (omega arith)

pub returns-in-Some : goal.returns-in-Some
returns-in-Some c = some c.args.word c.args.to.now

pub returns-in_default : goal.returns-in_default
returns-in_default c = none c.args.word c.args.to.now (c.in_default.ensures.item.3)
