-- Lemmas: the first octets of numbers, as numbers.
-- Assumes nothing.
use Rattle.std.specs.Prelude.{ℕ, zero, suc, ◌+◌, ◌-◌, ◌*◌, ◌/◌, ◌^◌, ◌≤◌, ◌<◌, ◌≡◌, refl, true, ◌&&◌, [], eqb, leb, length, take, drop, replicate}
use Rattle.std.proofs.Common.{sym, ap, ◌∙◌, add-zero, zero-add, pow-suc, arith, eq-eqb, length-drop, take-append-drop, pow-add}
use Rattle.std.proofs.Math.Nat.{sub-zero}
use Rattle.std.proofs.lemmas.List.{length-replicate}
use Rattle.std.proofs.Math.Pow.{high}
use Rattle.octets.specs.Octets.{onto, bytes, value_from, value, Octets}
use Rattle.octets.specs.Laws.{value-bytes, value-append, value-zeros, value-below, length-onto, octets-drop, octets-bytes}
use Rattle.frame_queues.specs.Laws.{none, cleared-is, cleared-all, cleared-drop, cleared-take}
use Rattle.frame_queues.specs.Queues.{cleared, forty_of, sets_of, SetsTyped, same_sets, ends_at}
use Rattle.frame_queues.specs.declared.Sets.{Sets}

-- a power of 256 is one of 2
octets-power : (n : ℕ) → 256 ^ n ≡ 2 ^ (8 * n)
octets-power zero = refl
octets-power (suc n) =
    let width : 8 * suc n ≡ 8 * n + 8 = omega arith in
    pow-suc 256 n ∙ rw (octets-power n) (sym (ap (λ (k : ℕ). 2 ^ k) width ∙ pow-add 2 (8 * n) 8))

-- the first octets of a number as a number: what it is above the others
pub first-none : (x : ℕ) → value (cleared 0 (bytes 8 x)) ≡ 0
unfolding onto value_from
first-none x = refl

pub first-all : (x k : ℕ) → x < 2 ^ 64 → 8 ≤ k → value (cleared k (bytes 8 x)) ≡ x
first-all x k h e =
    let size : length (bytes 8 x) ≡ 8 = length-onto 8 x [] ∙ add-zero 8 in
    ap value (cleared-all k (bytes 8 x) (omega arith)) ∙ value-bytes 8 x h

pub first_some : (x k : ℕ) → x < 2 ^ 64 → k ≤ 8 → value (cleared k (bytes 8 x)) ≡ x / 2 ^ (64 - 8 * k) * 2 ^ (64 - 8 * k)
first_some x k h e =
    let w = bytes 8 x in
    let n = 64 - 8 * k in
    let size : length w ≡ 8 = length-onto 8 x [] ∙ add-zero 8 in
    let more : length (drop k w) ≡ 8 - k = simp length-drop (omega arith) in
    let bits : 8 * (8 - k) ≡ n = omega arith in
    let power : 256 ^ (8 - k) ≡ 2 ^ n = octets-power (8 - k) ∙ ap (λ (m : ℕ). 2 ^ m) bits in
    let whole : x ≡ value (take k w) * 2 ^ n + value (drop k w) =
    sym (value-bytes 8 x h) ∙ ap value (sym (take-append-drop k w)) ∙ value-append (take k w) (drop k w) ∙ rw (more, power) in
    let octets : Octets (drop k w) = octets-drop k w (octets-bytes 8 x [] none) in
    let below : value (drop k w) < 2 ^ n = rw (zero-add, more, power) at (value-below (drop k w) octets 0 0 (omega arith)) in
    let over : x / 2 ^ n ≡ value (take k w) = ap (λ (y : ℕ). y / 2 ^ n) whole ∙ high (value (take k w)) n below in
    let zeros : length w - k ≡ 8 - k = omega arith in
    ap value (cleared-is k w)
    ∙ value-append (take k w) (replicate (length w - k) 0)
    ∙ rw (value-zeros, length-replicate, zeros, power, over, add-zero)

-- each number by itself
pub sets-cut : (s : Sets) (n : ℕ)
    → sets_of (cleared n (forty_of s))
    ≡ record {
      first = value (cleared n (bytes 8 s.first));
      second = value (cleared (n - 8) (bytes 8 s.second));
      third = value (cleared (n - 16) (bytes 8 s.third));
      fourth = value (cleared (n - 24) (bytes 8 s.fourth));
      fifth = value (cleared (n - 32) (bytes 8 s.fifth));
    }
unfolding forty_of onto
sets-cut s n =
    let o = forty_of s in
    let part : (a : ℕ) → take 8 (drop a (cleared n o)) ≡ cleared (n - a) (take 8 (drop a o)) =
    λ a. ap (take 8) (cleared-drop a n o) ∙ cleared-take 8 (n - a) (drop a o) in
    rw (part 0, part 8, part 16, part 24, part 32, sub-zero)

-- sets that end in the last number are whole before it
pub ends-late : (s : Sets) (n : ℕ) → SetsTyped s → 32 ≤ n
    → ends_at n s ≡ leb n 40 && eqb (value (cleared (n - 32) (bytes 8 s.fifth))) s.fifth
unfolding ends_at
ends-late s n h late =
    let whole : (x k : ℕ) → x < 2 ^ 64 → 8 ≤ k → eqb (value (cleared k (bytes 8 x))) x ≡ true =
    λ x k f e. eq-eqb _ x (first-all x k f e) in
    ap (λ (t : Sets). leb n 40 && same_sets t s) (sets-cut s n)
    ∙ rw (
      whole s.first n h.0 (omega arith),
      whole s.second (n - 8) h.1 (omega arith),
      whole s.third (n - 16) h.2 (omega arith),
      whole s.fourth (n - 24) h.3 (omega arith),
    )
