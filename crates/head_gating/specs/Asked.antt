-- Rules R172, R173: what a gate is asked for with, and whether it is in range. That there are no more than four is judged apart (R174).
-- Assumes nothing.
use Rattle.std.specs.Prelude.{ℕ, ◌/◌, ◌%◌, Bool, true, cond, ◌&&◌, eqb, ltb}
use Rattle.clock.specs.declared.Span.{Span}
use Rattle.frame.specs.Layout.{listed}
use Rattle.frame.specs.declared.Grant.{Grant}
use Rattle.frame.specs.declared.Grants.{Grants}
use Rattle.frame.specs.declared.Grants.TheVariants.{None, One, Two, Three, Four}
use Rattle.frame_range.specs.Fits.{fits_all}
use Rattle.head_gating.specs.declared.Asked.{Asked}

-- R172: the bit of that worth in the force octet
abbrev pub bit_of : ℕ → ℕ → Bool
bit_of force worth = eqb (force / worth % 2) 1

abbrev pub grant_of : Span → Bool → Grant
grant_of s force = record { start = s.start; length = s.length; force = force }

-- the grant at each place, with its force bit
abbrev pub first : Asked → Grant
first a = grant_of a.first (eqb (a.force % 2) 1)

abbrev pub second : Asked → Grant
second a = grant_of a.second (bit_of a.force 2)

abbrev pub third : Asked → Grant
third a = grant_of a.third (bit_of a.force 4)

abbrev pub fourth : Asked → Grant
fourth a = grant_of a.fourth (bit_of a.force 8)

-- as many of them as are asked for
unfoldable pub grants_of : Asked → Grants
grants_of a =
    cond (eqb a.number 0) None
    (cond (eqb a.number 1) (One (first a))
    (cond (eqb a.number 2) (Two (first a) (second a))
    (cond (eqb a.number 3) (Three (first a) (second a) (third a)) (Four (first a) (second a) (third a) (fourth a)))))

-- R173: the force bits of so many grants are below this
unfoldable pub allowed : ℕ → ℕ
allowed n = cond (eqb n 0) 1 (cond (eqb n 1) 2 (cond (eqb n 2) 4 (cond (eqb n 3) 8 16)))

unfoldable pub fits : Asked → Bool
fits a = ltb a.force (allowed a.number) && fits_all true (listed (grants_of a))
