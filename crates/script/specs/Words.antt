-- Lemmas: what a line and its numbers mean to the programs that run a script.
-- Assumes nothing.
use Rattle.std.specs.Prelude.{ℕ, ◌%◌, ◌^◌, ◌+◌, ◌-◌, ◌*◌, Bool, true, ◌&&◌, cond, List, [], ◌∷◌, ◌++◌, eqb, leb, nat_lt, length, map, get_or, drop, replicate, Option, Some, None, option_and_then}
use Rattle.std.specs.Char.{digit_value, is_ascii_uppercase}
use Rattle.clock.specs.declared.Quanta.{Quanta}
use Rattle.frame.specs.declared.Grant.{Grant}

-- an empty line, or one that begins with #
unfoldable pub passed_on : List ℕ → Bool
passed_on [] = true
passed_on (c ∷ _) = eqb c 35

-- a number, modulo the width in bits of what holds it
abbrev pub modulo : ℕ → ℕ → ℕ
modulo w n = n % 2 ^ w

abbrev pub quanta_of : ℕ → Quanta
quanta_of n = record { 0 = modulo 32 n }

-- a digit of a radix, none where the octet is none; letters are in lower case
abbrev pub digit_of : ℕ → ℕ → Option ℕ
digit_of radix c = cond (is_ascii_uppercase c) None (cond (nat_lt (digit_value c) radix) (Some (digit_value c)) None)

-- what digits behind a number make of it, none where one is no digit, or stands behind more than 60 bits
unfoldable pub spelled : ℕ → ℕ → List ℕ → Option ℕ
spelled radix n [] = Some n
spelled radix n (c ∷ l) = option_and_then (λ d. cond (leb n 0xFFFFFFFFFFFFFFF) (spelled radix (n * radix + d) l) None) (digit_of radix c)

-- decimal digits, or hexadecimal ones behind 0x, at least one
abbrev pub hexadecimal : List ℕ → Bool
hexadecimal w = leb 2 (length w) && eqb (get_or w 0 0) 48 && eqb (get_or w 1 0) 120

abbrev pub number_of : List ℕ → Option ℕ
number_of w = cond (eqb (length w) 0) None (cond (hexadecimal w) (cond (eqb (length w) 2) None (spelled 16 0 (drop 2 w))) (spelled 10 0 w))

-- grants in their order, and none behind the last of four
abbrev pub each_of : List Grant → List (Option Grant)
each_of gs = map Some gs ++ replicate (4 - length gs) None
