-- Rules R205 to R214: sums 1 to 10, proved together. The first four are read off the functions' own promises,
-- so that another promise breaks the theorem; the others are of definitions that the promises of box and head cite.
-- Assumes nothing.
use Rattle.std.proofs.Common.{◌≡◌, ℕ, ◌^◌, ◌<◌, Bool, true, false, List, ℤ, pos, neg_ℤ, refl, ◌∙◌, arith}
use borrow.Author.Tests.{lt-leb}
use borrow.Fn.Kinds.{ParamKind, ResultKind, Out, Dens, res_t, ended_of}
use denote.Triple.Clauses.{AtExit}
use Rattle.clock.specs.Counts.{distance, is_past}
use Rattle.clock.specs.Laws.{distance-same, is_past-near}
use Rattle.clock.specs.Numbers.{start_in_range, quanta_of, needed, serves, random_wait}
use Rattle.clock.proofs.Count.distance.Kinds as distance-kinds
use Rattle.clock.proofs.Count.distance.Reads as distance-reads
use Rattle.clock.proofs.Count.is_past.Kinds as is-past-kinds
use Rattle.clock.proofs.Count.is_past.Reads as is-past-reads
use Rattle.clock.proofs.Count.round_trip.Kinds as round-trip-kinds
use Rattle.clock.proofs.Count.round_trip.Reads as round-trip-reads

-- z is the only answer to these arguments that a promise allows
abbrev Answers : (ps : List (ParamKind 0)) (r : ResultKind 0) → Out 0 ps r → Dens tt ps → (res_t r tt).Denot → Type 0
Answers ps r P a z = (y : (res_t r tt).Denot) (e : AtExit (ended_of 0 ps r) tt) → P tt a y e → y ≡ z

abbrev Distance : ℕ → ℕ → ℤ → Type 0
Distance from to =
    Answers distance-kinds.ps distance-kinds.r distance-reads.Post (record { 0 = from }, (record { 0 = to }, tt))

abbrev IsPast : ℕ → ℕ → Bool → Type 0
IsPast now at =
    Answers is-past-kinds.ps is-past-kinds.r is-past-reads.Post (record { 0 = now }, (record { 0 = at }, tt))

abbrev RoundTrip : ℕ → ℕ → ℕ → Type 0
RoundTrip count timestamp n =
    Answers round-trip-kinds.ps round-trip-kinds.r round-trip-reads.Post
    (record { 0 = count }, (record { 0 = timestamp }, tt))
    (record { 0 = n })

pub record Sums : Type 0 where
  pub one : Distance 0xFFFFFFFB 5 (pos 10)
  pub two : Distance 0 0x80000000 (neg_ℤ (pos (2 ^ 31))) × IsPast 0 0x80000000 true
  pub three : (c : ℕ) → c < 2 ^ 32 → Distance c c (pos 0) × IsPast c c false
  pub four : RoundTrip 3 0xFFFFFFF0 19
  pub five : (serves 0 106 ≡ true) × (serves 0 105 ≡ false)
  pub six : (length : ℕ) → length < 65536 → serves 65535 length ≡ false
  pub seven : quanta_of 61 ≡ 43
  pub eight : random_wait 250 174 0 ≡ 43
  pub nine : random_wait 101 174 0 ≡ 32
  pub ten :
      (now start : ℕ) →
      (distance now start ≡ pos 62500000 → start_in_range now start ≡ true)
      × (distance now start ≡ pos 62500001 → start_in_range now start ≡ false)

pub sums : Sums
unfolding distance is_past start_in_range
sums =
    record {
      one = λ y e p. p;
      two = (λ y e p. p, λ y e p. p);
      three = λ c h. (λ y e p. p ∙ distance-same c c h h refl, λ y e p. p ∙ is_past-near c c (omega arith));
      four = λ y e p. p;
      five = (refl, refl);
      six = λ length h. lt-leb (needed 65535) length (omega arith);
      seven = refl;
      eight = refl;
      nine = refl;
      ten = λ now start. (λ e. rw e, λ e. rw e);
    }
