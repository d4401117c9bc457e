-- Rules R32, R41, R239 to R241: the body of a REPORT, where its queue sets end, and which are in range.
-- Assumes nothing.
use Rattle.std.specs.Prelude.{ℕ, zero, suc, ◌+◌, ◌-◌, ◌*◌, ◌^◌, ◌≤◌, ◌<◌, ◌≡◌, Bool, ◌&&◌, List, [], ◌∷◌, ◌++◌, eqb, leb, length, drop, get_or, replicate}
use Rattle.std.specs.Int.Count.{ones}
use Rattle.octets.specs.Octets.{bytes, field_of}
use Rattle.frame_queues.specs.declared.Sets.{Sets}

-- R239, R240: the set whose bitmap stands at a place ends behind the bitmap and two octets for each bit that is set in it; behind the body's
-- end no bit is, but a bitmap takes its octet
abbrev pub past_of : List ℕ → ℕ → ℕ
past_of body at = at + 1 + 2 * ones (get_or body at 0)

-- where n sets end that begin at a place
unfoldable pub ending : List ℕ → ℕ → ℕ → ℕ
ending body zero at = at
ending body (suc n) at = ending body n (past_of body at)

-- R32: the octets of a body before its pad: how many sets, and so many sets
unfoldable pub used_of : List ℕ → ℕ
used_of body = ending body (get_or body 0 0) 1

-- the first k octets; the others are zero
abbrev pub cleared : ℕ → List ℕ → List ℕ
cleared zero l = replicate (length l) 0
cleared (suc k) [] = []
cleared (suc k) (x ∷ l) = x ∷ cleared k l

-- R36: a body with its pad zeroed
abbrev pub cut_of : List ℕ → List ℕ
cut_of body = cleared (used_of body) body

-- R241: the forty octets, eight to a number, most significant first; and back
unfoldable pub forty_of : Sets → List ℕ
forty_of s = bytes 8 s.first ++ bytes 8 s.second ++ bytes 8 s.third ++ bytes 8 s.fourth ++ bytes 8 s.fifth

abbrev pub sets_of : List ℕ → Sets
sets_of l =
    record {
      first = field_of l 0 8;
      second = field_of l 8 8;
      third = field_of l 16 8;
      fourth = field_of l 24 8;
      fifth = field_of l 32 8;
    }

abbrev pub no_sets : Sets
no_sets = record { first = 0; second = 0; third = 0; fourth = 0; fifth = 0 }

-- what the types of the fields see to by themselves
abbrev pub SetsTyped : Sets → Type 0
SetsTyped s =
    (s.first < 2 ^ 64) × (s.second < 2 ^ 64) × (s.third < 2 ^ 64) × (s.fourth < 2 ^ 64) × (s.fifth < 2 ^ 64)

-- R41, R241: the sets don't run past the forty octets, and zeros stand behind them
pub record SetsFit (s : Sets) : Type 0 where
  pub typed : SetsTyped s
  pub room : used_of (forty_of s) ≤ 40
  pub zeros : drop (used_of (forty_of s)) (forty_of s) ≡ replicate (40 - used_of (forty_of s)) 0

abbrev pub same_sets : Sets → Sets → Bool
same_sets s t =
    eqb s.first t.first
    && eqb s.second t.second
    && eqb s.third t.third
    && eqb s.fourth t.fourth
    && eqb s.fifth t.fifth

-- the same as a test: to zero the pad changes nothing
unfoldable pub fits_sets : Sets → Bool
fits_sets s = leb (used_of (forty_of s)) 40 && same_sets (sets_of (cut_of (forty_of s))) s

-- of sets that take n octets
unfoldable pub ends_at : ℕ → Sets → Bool
ends_at n s = leb n 40 && same_sets (sets_of (cleared n (forty_of s))) s
