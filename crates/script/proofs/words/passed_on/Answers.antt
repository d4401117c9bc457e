-- `script::words::passed_on` meets its promise: an empty line is passed on, another one by its first octet.
-- Assumes nothing.
use Rattle.std.proofs.Common.{◌≡◌, ◌<◌, ◌≤◌, ℕ, length, true, List, [], ◌∷◌, nat_eq, slice_index_or, refl, arith}
use Rattle.script.specs.Words.{passed_on}
use Rattle.script.proofs.words.passed_on.Goals as goal

empty : (l : List ℕ) → length l < 1 → true ≡ passed_on l
unfolding passed_on
empty [] h = refl
empty (c ∷ l) h = absurd (omega arith)

begun : (l : List ℕ) → 1 ≤ length l → nat_eq (slice_index_or l 0 0) 35 ≡ passed_on l
unfolding passed_on
begun [] h = absurd (omega arith)
begun (c ∷ l) h = refl

pub returns-in-empty : goal.returns-in-empty
returns-in-empty c = empty _ (omega (arith, c.in-empty.len_below))

pub returns-in-len1-up : goal.returns-in-len1-up
returns-in-len1-up c = begun _ (omega (arith, c.in-len1-up.len_at_least))
