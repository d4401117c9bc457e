-- Statement: the sets of a REPORT's body one by one: so many take the octets that the page Queues says, and a body that its sets don't run past has
-- just such sets.
-- Assumes nothing.
use Rattle.std.specs.Prelude.{ℕ, ◌+◌, ◌-◌, ◌*◌, ◌≤◌, ◌≡◌, List, [], ◌∷◌, ◌++◌, length, take, drop, get_or}
use Rattle.std.specs.Int.Count.{ones}
use Rattle.frame_queues.specs.Queues.{used_of}

-- R32, R239: a bitmap, and behind it two octets for each bit that is set
pub record Set : Type 0 where
  pub bitmap : ℕ
  pub lengths : List ℕ
  pub each : length lengths ≡ 2 * ones bitmap

-- one behind the other
abbrev pub octets_of : List Set → List ℕ
octets_of [] = []
octets_of (s ∷ ss) = (s.bitmap ∷ s.lengths) ++ octets_of ss

-- R240: sets take one octet for their number and then their own, whatever follows
abbrev pub ListedUsed : Type 0
ListedUsed = (ss : List Set) (pad : List ℕ) → used_of (length ss ∷ (octets_of ss ++ pad)) ≡ 1 + length (octets_of ss)

-- the sets that stand in a body, n of them, from a place to another
pub record Stand (body : List ℕ) (n from to : ℕ) : Type 0 where
  pub sets : List Set
  pub number : length sets ≡ n
  pub octets : take (to - from) (drop from body) ≡ octets_of sets

-- R41: a body that its sets don't run past has as many as its first octet says
abbrev pub UsedListed : Type 0
UsedListed = (body : List ℕ) → used_of body ≤ length body → Stand body (get_or body 0 0) 1 (used_of body)
