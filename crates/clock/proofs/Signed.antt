-- Facts of signed values: a distance in its 64 bits, and what the code computes from one.
-- Assumes nothing.
use Rattle.std.proofs.Common.{◌≡◌, ℕ, suc, ◌-◌, ◌^◌, ◌<◌, ◌≤◌, true, false, T, ℤ, pos, negsuc, ◌+ℤ◌, ◌-ℤ◌, nat_abs, sym, ap, ◌∙◌, arith, w32, w64, Fits, SFits, to_z, of_z, le-ltb, lt-ltb}
use lib.Signed.{non_neg, lt_z}
use mir.Syntax.{Width}
use mir.ValLaws.{to_z_pos, to_z-of_z}
use Rattle.clock.specs.Counts.{gap, distance, is_past}
use Rattle.clock.specs.Laws.{gap_below, near-or-far, distance-near, distance-far, near_of, far-of}

distance-fits : (a b : ℕ) → SFits w64 (distance a b)
distance-fits a b =
    near-or-far a b
    (λ h. rw (distance-near a b h) (record { sfits = omega arith }))
    (λ h. rw (distance-far a b h) (record { sfits = omega arith }))

-- a caller cites this where a distance passes through a local, an argument or a field: read from its bits it is itself
pub read_back : (a b : ℕ) → to_z w64 (of_z w64 (distance a b)) ≡ distance a b
read_back a b = to_z-of_z w64 (distance a b) (distance-fits a b)

-- the wrapped difference d of two counts, as `distance` returns it: itself, or a turn less
module _ (a b d : ℕ) (e : d ≡ gap a b) where
  wide : to_z w64 d ≡ pos d
  wide = to_z_pos w64 d (omega arith)

  pub near-is : d < 2 ^ 31 → to_z w64 d ≡ distance a b
  near-is h = wide ∙ ap pos e ∙ sym (distance-near a b (omega arith))

  less : to_z w64 d -ℤ pos (2 ^ 32) ≡ negsuc (2 ^ 32 - suc d)
  less = rw (wide, lt-ltb d (2 ^ 32) (omega arith))

  pub less-fits : SFits w64 (to_z w64 d -ℤ pos (2 ^ 32))
  less-fits = rw less (record { sfits = omega arith })

  pub far-is : 2 ^ 31 ≤ d → to_z w64 (of_z w64 (to_z w64 d -ℤ pos (2 ^ 32))) ≡ distance a b
  far-is h =
      to_z-of_z w64 _ less-fits ∙ less ∙ ap (λ n. negsuc (2 ^ 32 - suc n)) e
      ∙ sym (distance-far a b (omega arith))

-- a signed value as a local holds it, which the code reads from its bits
abbrev pub held : ℤ → ℤ
held z = to_z w64 (of_z w64 z)

-- what the cast to an unsigned value asks, by its width
abbrev pub Casts : Width → ℤ → Type 0
Casts w z = T (non_neg z) × Fits w (nat_abs z)

casts : (z : ℤ) (a b : ℕ) → z ≡ pos (gap a b) → Casts w32 z
casts z a b e = rw e (tt, record { fits = gap_below a b })

-- a distance in a local after its test against 0: from 0 on it is the gap, below 0 it is with a turn added
module _ (a b : ℕ) (z : ℤ) (e : z ≡ distance a b) where
  read : held z ≡ distance a b
  read = rw e (read_back a b)

  module _ (h : lt_z (held z) (pos 0) ≡ false) where
    pub near : gap a b < 2 ^ 31
    unfolding is_past
    near = near_of a b (rw read at h)

    pub near-gap : held z ≡ pos (gap a b)
    near-gap = read ∙ distance-near a b near

    pub near-casts : Casts w32 (held z)
    near-casts = casts _ a b near-gap

  module _ (h : lt_z (held z) (pos 0) ≡ true) where
    pub far : 2 ^ 31 ≤ gap a b
    unfolding is_past
    far = far-of a b (rw read at h)

    turned : held z +ℤ pos (2 ^ 32) ≡ pos (gap a b)
    turned =
        rw (read, distance-far a b far, le-ltb (2 ^ 32) (suc (2 ^ 32 - suc (gap a b))) (omega arith))
        (ap pos (omega arith))

    pub far-fits : SFits w64 (held z +ℤ pos (2 ^ 32))
    far-fits = rw turned (record { sfits = omega arith })

    pub far-gap : held (held z +ℤ pos (2 ^ 32)) ≡ pos (gap a b)
    far-gap = to_z-of_z w64 _ far-fits ∙ turned

    pub far-casts : Casts w32 (held (held z +ℤ pos (2 ^ 32)))
    far-casts = casts _ a b far-gap
