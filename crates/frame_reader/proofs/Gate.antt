-- The grants of a GATE as a list, at any number of them: what is read where they stand, and the first octet.
-- Assumes nothing.
use Prim.Native.Nat.{ℕ, zero, suc, ◌+◌, ◌*◌, ◌/◌, ◌%◌, ◌^◌, ◌≤◌, ◌<◌}
use mathlib.Core.Path.{◌≡◌, refl, sym, ap, ◌∙◌}
use mathlib.Core.Bool.{Bool, true, false, cond, and-eq-true_iff, true≢false}
use mathlib.Core.Logic.{⊎_elim}
use mathlib.Core.List.{List, [], ◌∷◌, ◌++◌, append_assoc}
use native.Mathlib.Nat.{pow-suc, pow-le-pow_right, div-eq_of_lt, div-lt_iff_lt-mul}
use native.Mathlib.Omega.{arith}
use borrow.Author.Tests.{eqb-true, eqb-false, leb-true, eq-eqb, le-leb}
use lib.Dec.{eqb, leb}
use lib.ListN.{length, take, drop}
use lib.Pow.{pow-add, pow_pos}
use lib.Seq.{drop-drop}
use Rattle.laws.specs.Cases.{either, decided}
use Rattle.octets.specs.Octets.{onto, bytes, Octets}
use Rattle.octets.specs.Laws.{value-bytes, bytes-field, field_below, join}
use Rattle.frame.specs.Layout.{listed, force_bits, first_octet, grant_octets, per_grant}
use Rattle.frame.specs.Range.{GrantFits, GrantsFit}
use Rattle.frame.specs.Reading.{gate_in_range}
use Rattle.frame_reader.specs.Decode.{bit, grant_at}
use Rattle.frame_reader.specs.Flags.{few}
use Rattle.frame.specs.declared.Grant.{Grant}
use Rattle.frame.specs.declared.Grants.{Grants}
use Rattle.frame.specs.declared.Grants.TheVariants.{None, One, Two, Three, Four}

-- a force bit as a number, and back
one_below : (b : Bool) → cond b 1 0 < 2
one_below true = omega arith
one_below false = omega arith

odd_is : (b : Bool) (x : ℕ) → x ≡ cond b 1 0 → eqb x 1 ≡ b
odd_is true x e = rw e
odd_is false x e = rw e

pub one-odd : (x : ℕ) → cond (eqb (x % 2) 1) 1 0 ≡ x % 2
one-odd x =
    either (λ (y : ℕ). y ≡ x % 2) (eqb (x % 2) 1) 1 0
    (λ e. sym (eqb-true (x % 2) 1 e))
    (λ e. let n = eqb-false (x % 2) 1 e in omega arith)

-- no more grants than four, and as a list and back
pub listed-few : (g : Grants) → few (listed g) ≡ g
listed-few None = refl
listed-few (One a) = refl
listed-few (Two a b) = refl
listed-few (Three a b c) = refl
listed-few (Four a b c d) = refl

pub listed-short : (g : Grants) → length (listed g) ≤ 4
listed-short None = omega arith
listed-short (One a) = omega arith
listed-short (Two a b) = omega arith
listed-short (Three a b c) = omega arith
listed-short (Four a b c d) = omega arith

pub few-listed : (gs : List Grant) → length gs ≤ 4 → listed (few gs) ≡ gs
few-listed [] h = refl
few-listed (a ∷ []) h = refl
few-listed (a ∷ b ∷ []) h = refl
few-listed (a ∷ b ∷ c ∷ []) h = refl
few-listed (a ∷ b ∷ c ∷ d ∷ []) h = refl
few-listed (a ∷ b ∷ c ∷ d ∷ e ∷ t) h = absurd (omega arith)

pub length-grants : (gs : List Grant) → length (per_grant gs) ≡ length gs * 6
unfolding onto
length-grants [] = refl
length-grants (g ∷ gs) = omega (arith, length-grants gs)

-- the n grants that stand in l from a on; x has their force bits, the first one's lowest
abbrev pub grants_from : List ℕ → ℕ → ℕ → ℕ → List Grant
grants_from l x a zero = []
grants_from l x a (suc n) = grant_at l a (eqb (x % 2) 1) ∷ grants_from l (x / 2) (a + 6) n

-- the four that the reader looks at
pub four-from : (l : List ℕ) (f : ℕ)
    → grant_at l 21 (bit f 16) ∷ grant_at l 27 (bit f 32) ∷ grant_at l 33 (bit f 64) ∷ grant_at l 39 (bit f 128) ∷ [] ≡ grants_from l (f / 16) 21 4
four-from l f =
    let b : f / 32 ≡ f / 16 / 2 = omega arith in
    let c : f / 64 ≡ f / 16 / 2 / 2 = omega arith in
    let d : f / 128 ≡ f / 16 / 2 / 2 / 2 = omega arith in
    rw (b, c, d)

pub take-from : (l : List ℕ) (x a n m : ℕ) → n ≤ m → take n (grants_from l x a m) ≡ grants_from l x a n
take-from l x a zero m h = refl
take-from l x a (suc n) zero h = absurd (omega arith)
take-from l x a (suc n) (suc m) h =
    ap (λ (t : List Grant). grant_at l a (eqb (x % 2) 1) ∷ t) (take-from l (x / 2) (a + 6) n m (omega arith))

pub length_from : (l : List ℕ) (x a n : ℕ) → length (grants_from l x a n) ≡ n
length_from l x a zero = refl
length_from l x a (suc n) = ap suc (length_from l (x / 2) (a + 6) n)

-- the force bits that were read
pub bits-from : (l : List ℕ) (x a n : ℕ) → x < 2 ^ n → force_bits (grants_from l x a n) ≡ x
unfolding grant_at
bits-from l x a zero h = omega arith
bits-from l x a (suc n) h =
    let less : x < 2 ^ n * 2 = rw pow-suc at h in
    rw (one-odd x, bits-from l (x / 2) (a + 6) n (omega arith)) (omega arith)

pub bits_below : (gs : List Grant) → force_bits gs < 2 ^ length gs
bits_below [] = omega arith
bits_below (g ∷ gs) = rw pow-suc (omega (arith, bits_below gs, one_below g.force))

-- a grant is read back where its octets stand, and its octets are those that it was read from
grant-reads : (g : Grant) (l t : List ℕ) (a : ℕ) → GrantFits g → drop a l ≡ grant_octets g ++ t → grant_at l a g.force ≡ g
unfolding grant_at onto
grant-reads g l t a h e =
    let start : take 4 (drop a l) ≡ bytes 4 g.start.0 = rw e in
    let length : take 2 (drop (a + 4) l) ≡ bytes 2 g.length.0 = rw (← drop-drop 4 a l, e) in
    rw (start, length, value-bytes 4 g.start.0 h.0, value-bytes 2 g.length.0 h.1)

next-grant : (g : Grant) (l t : List ℕ) (a : ℕ) → drop a l ≡ grant_octets g ++ t → drop (a + 6) l ≡ t
unfolding onto
next-grant g l t a e = rw (← drop-drop 6 a l, e)

pub reads-from : (gs : List Grant) (l t : List ℕ) (a : ℕ) → GrantsFit gs → drop a l ≡ per_grant gs ++ t
    → grants_from l (force_bits gs) a (length gs) ≡ gs
reads-from [] l t a h e = refl
reads-from (g ∷ gs) l t a h e =
    let x = force_bits gs in
    let half : (cond g.force 1 0 + 2 * x) / 2 ≡ x = omega (arith, one_below g.force) in
    let odd : eqb ((cond g.force 1 0 + 2 * x) % 2) 1 ≡ g.force =
    odd_is g.force ((cond g.force 1 0 + 2 * x) % 2) (omega (arith, one_below g.force)) in
    let here : drop a l ≡ grant_octets g ++ (per_grant gs ++ t) = e ∙ append_assoc (grant_octets g) (per_grant gs) t in
    rw (odd, half, grant-reads g l (per_grant gs ++ t) a h.0 here, reads-from gs l t (a + 6) h.1 (next-grant g l (per_grant gs ++ t) a here))

module _ (l : List ℕ) (h : Octets l) (sixty : length l ≡ 60) where
  grant-fits : (a : ℕ) (force : Bool) → a + 6 ≤ 60 → GrantFits (grant_at l a force)
  unfolding grant_at
  grant-fits a force k = (field_below l h a 4 (omega arith), field_below l h (a + 4) 2 (omega arith))

  grant-octets : (a : ℕ) (force : Bool) → a + 6 ≤ 60 → grant_octets (grant_at l a force) ≡ take 6 (drop a l)
  unfolding grant_at
  grant-octets a force k = rw (bytes-field l h a 4 (omega arith), bytes-field l h (a + 4) 2 (omega arith)) (join l a 4 2)

  pub fits-from : (n x a : ℕ) → a + n * 6 ≤ 60 → GrantsFit (grants_from l x a n)
  fits-from zero x a k = tt
  fits-from (suc n) x a k = (grant-fits a _ (omega arith), fits-from n (x / 2) (a + 6) (omega arith))

  pub octets-from : (n x a : ℕ) → a + n * 6 ≤ 60 → per_grant (grants_from l x a n) ≡ take (n * 6) (drop a l)
  octets-from zero x a k = refl
  octets-from (suc n) x a k =
      let width : suc n * 6 ≡ 6 + n * 6 = omega arith in
      rw (grant-octets a (eqb (x % 2) 1) (omega arith), octets-from n (x / 2) (a + 6) (omega arith), width) (join l a 6 (n * 6))

-- the first octet: what it holds is read back
module _ (d : Bool) (gs : List Grant) (k : length gs ≤ 4) where
  pub octet-number : first_octet d gs % 8 ≡ length gs
  unfolding first_octet
  octet-number = omega arith

  pub octet-discovery : bit (first_octet d gs) 8 ≡ d
  unfolding first_octet
  octet-discovery = odd_is d (first_octet d gs / 8 % 2) (omega (arith, one_below d))

  pub octet-force : first_octet d gs / 16 ≡ force_bits gs
  unfolding first_octet
  octet-force = omega (arith, one_below d)

  octet-below : first_octet d gs < 2 ^ (length gs + 4)
  unfolding first_octet
  octet-below = rw pow-add (omega (arith, one_below d, bits_below gs))

  pub octet-fits : first_octet d gs < 256
  octet-fits = omega (arith, octet-below, pow-le-pow_right {n = 2} (omega arith) {i = length gs + 4} {j = 8} (omega arith))

  pub octet-in-range : (d ≡ true → length gs ≡ 1) → gate_in_range (first_octet d gs) ≡ true
  unfolding gate_in_range
  octet-in-range one =
      let clear : first_octet d gs / 2 ^ (length gs + 4) ≡ 0 = div-eq_of_lt octet-below in
      rw (octet-number, clear)
      (either (λ (t : Bool). t ≡ true) (bit (first_octet d gs) 8) _ _
      (λ e. rw (eq-eqb (length gs) 1 (one (sym octet-discovery ∙ e))))
      (λ e. rw (le-leb (length gs) 4 k)))

-- an octet in range: its parts as facts
pub record Ranged (f : ℕ) : Type 0 where
  pub number : f % 8 ≤ 4
  pub discovery : bit f 8 ≡ true → f % 8 ≡ 1
  pub clear : f / 2 ^ (f % 8 + 4) ≡ 0

pub ranged : (f : ℕ) → gate_in_range f ≡ true → Ranged f
unfolding gate_in_range
ranged f e =
    ⊎_elim
    (λ (t : bit f 8 ≡ true).
    let both = (and-eq-true_iff (eqb (f % 8) 1) _).0 (rw t at e) in
    let n : f % 8 ≡ 1 = eqb-true (f % 8) 1 both.0 in
    record { number = omega arith; discovery = λ _. n; clear = eqb-true _ 0 both.1 })
    (λ (t : bit f 8 ≡ false).
    let both = (and-eq-true_iff (leb (f % 8) 4) _).0 (rw t at e) in
    record { number = leb-true (f % 8) 4 both.0; discovery = λ u. absurd (true≢false (sym u ∙ t)); clear = eqb-true _ 0 both.1 })
    (decided (bit f 8))

-- and it is made of what is read of it
pub octet-back : (l : List ℕ) (f : ℕ) → Ranged f → first_octet (bit f 8) (grants_from l (f / 16) 21 (f % 8)) ≡ f
unfolding first_octet
octet-back l f r =
    let n = f % 8 in
    let whole : f < 1 * 2 ^ (n + 4) = (div-lt_iff_lt-mul (pow_pos (n + 4))).0 (omega (arith, r.clear)) in
    let less : f / 16 < 2 ^ n = omega (arith, pow-add 2 n 4) in
    rw (length_from l (f / 16) 21 n, bits-from l (f / 16) 21 n less, one-odd (f / 8)) (omega arith)
