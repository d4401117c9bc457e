-- Face: a block of the caller's memory after quiet ticks, word by word; `specs/Passes.antt` shows that they are those of the box in it.
-- Assumes nothing.
use Rattle.std.specs.Prelude.{ℕ, ◌+◌, ◌-◌, ◌%◌, cond, List, ltb, length, get_or, set}

-- a timer's word, so many ticks later; one that has fewer left stops
abbrev pub less_at : ℕ → ℕ → List ℕ → List ℕ
less_at i k b = set b i (get_or b i 0 - k)

-- the count wraps
unfoldable pub moved_of : List ℕ → ℕ → List ℕ
moved_of b k = less_at 9 k (less_at 5 k (less_at 4 k (less_at 3 k (set b 1 ((get_or b 1 0 + k) % 4294967296)))))

-- a block that is too short stays
unfoldable pub passed_words_of : List ℕ → ℕ → List ℕ
passed_words_of b k = cond (ltb (length b) 29) b (moved_of b k)
