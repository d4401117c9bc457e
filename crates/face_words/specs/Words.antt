-- Face: what words of 64 bits stand for, and how words are laid into lent memory.
-- Assumes nothing.
use Rattle.std.specs.Prelude.{ℕ, ◌+◌, ◌-◌, ◌*◌, ◌/◌, ◌%◌, ◌^◌, min, Bool, true, false, cond, ◌&&◌, List, [], ◌∷◌, ◌++◌, eqb, ℤ, pos, negsuc, length, take, drop}

-- the face's own number, which none of the card's is: too little memory is lent, and nothing is touched
abbrev pub short : ℕ
short = 100

-- a list over the beginning of another, as far as there is room; what stands behind it stays
unfoldable pub laid : List ℕ → List ℕ → List ℕ
laid from to = take (min (length from) (length to)) from ++ drop (min (length from) (length to)) to

-- as many words, and each is the other's
abbrev pub same : List ℕ → List ℕ → Bool
same [] [] = true
same [] (y ∷ b) = false
same (x ∷ a) [] = false
same (x ∷ a) (y ∷ b) = eqb x y && same a b

-- a number of 32 bits as it is; one that is too large as the largest
abbrev pub narrowed : ℕ → ℕ
narrowed w = min w 4294967295

-- two numbers of 32 bits in a word, one above the other, as a grant's start above its length; and the two of a word
abbrev pub joined : ℕ → ℕ → ℕ
joined above below = above * 2 ^ 32 + below

abbrev pub upper : ℕ → ℕ
upper w = w / 2 ^ 32

abbrev pub lower : ℕ → ℕ
lower w = w % 2 ^ 32

abbrev pub bit : Bool → ℕ
bit set = cond set 1 0

-- two's complement at 64 bits
abbrev pub drift_word : ℤ → ℕ
drift_word (pos n) = n
drift_word (negsuc n) = 2 ^ 64 - 1 - n
