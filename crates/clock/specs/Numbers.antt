-- Rules R17 to R23, R27 to R29, R47, R109, R192, R244: the numbers, and what is made of them. Lengths are in quanta.
-- Assumes nothing.
use Rattle.std.specs.Prelude.{ℕ, ◌+◌, ◌-◌, ◌/◌, ◌%◌, Bool, ◌&&◌, pos, int_le, nat_le}
use Rattle.clock.specs.Counts.{distance}
use Rattle.clock.specs.declared.Quanta.{Quanta}

-- R17
abbrev pub laser_on : ℕ
laser_on = 32

-- R244
abbrev pub laser_off : ℕ
laser_off = 32

-- R18
abbrev pub watchdog : ℕ
watchdog = 62500000

-- R19, R20
abbrev pub periodic : ℕ
periodic = 3125000

-- R21, R22
abbrev pub wait : ℕ
wait = 3125000

-- R23
abbrev pub furthest : ℕ
furthest = 62500000

-- R192: the most ticks of one call
abbrev pub furthest_advance : ℕ
furthest_advance = 65536

-- R192: from one on
unfoldable pub is_in_reach : ℕ → Bool
is_in_reach n = nat_le 1 n && nat_le n furthest_advance

-- R29
unfoldable pub start_in_range : ℕ → ℕ → Bool
start_in_range now start = int_le (pos 0) (distance now start) && int_le (distance now start) (pos furthest)

-- R47: a grant's length and a sync time are sixteen bits
abbrev pub most : ℕ
most = 65535

abbrev pub fits : Quanta → Bool
fits q = nat_le q.0 most

-- R27; one is added, since `/` rounds down
abbrev pub quanta_of : ℕ → ℕ
quanta_of n = (n + 24 + 1) / 2

-- R28
abbrev pub needed : ℕ → ℕ
needed sync = laser_on + sync + quanta_of 60 + laser_off

-- R28: the length serves
abbrev pub serves : ℕ → ℕ → Bool
serves sync length = nat_le (needed sync) length

-- R109, for a length that serves
abbrev pub random_wait : ℕ → ℕ → ℕ → ℕ
random_wait random length sync = random % (length - needed sync + 1)
