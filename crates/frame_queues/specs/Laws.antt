-- Lemmas: the laws of a REPORT's body: what decides where its sets end, what zeroing its pad leaves, its forty octets as numbers and back.
-- Assumes nothing.
use Rattle.std.specs.Prelude.{ℕ, zero, suc, ◌-◌, ◌≤◌, ◌<◌, ◌≡◌, refl, true, List, [], ◌∷◌, ◌++◌, eqb, length, take, drop, get_or, replicate}
use Rattle.std.proofs.Common.{sym, ap, subst, ◌∙◌, append-nil, not-suc-le-zero, le_refl, arith, eqb-true, eq-eqb, length-take, length-drop, take-append-drop, get_or-take, take_all, take_at, drop_at}
use Rattle.std.proofs.Math.Bool.{and-eq-true_iff}
use Rattle.std.proofs.Math.Nat.{sub-zero, zero-sub, suc-sub-suc}
use Rattle.std.proofs.lemmas.List.{length-replicate, drop-replicate}
use Rattle.octets.specs.Octets.{onto, bytes, Octets}
use Rattle.octets.specs.Laws.{value-bytes, bytes-field, field_below, join, octets-take, octets-append, octets-zeros, octets-bytes}
use Rattle.frame_queues.specs.Asked.{padded}
use Rattle.frame_queues.specs.Queues.{past_of, ending, used_of, cleared, cut_of, forty_of, sets_of, no_sets, SetsTyped, SetsFit, same_sets}
use Rattle.frame_queues.specs.declared.Sets.{Sets}

-- a turn of the walk over the sets
pub ending-turn : (o : List ℕ) (n at : ℕ) → 0 < n → ending o n at ≡ ending o (n - 1) (past_of o at)
unfolding ending
ending-turn o zero at h = absurd (not-suc-le-zero h)
ending-turn o (suc n) at h =
    let one : n ≡ suc n - 1 = omega arith in
    ap (λ (m : ℕ). ending o m (past_of o at)) one

-- sets end no sooner than they begin
pub ending-from : (o : List ℕ) (n at : ℕ) → at ≤ ending o n at
unfolding ending
ending-from o zero at = le_refl at
ending-from o (suc n) at = omega (arith, ending-from o n (past_of o at))

-- the octet at a place is one of the first k
same_at : (o p : List ℕ) (k i : ℕ) → take k o ≡ take k p → i < k → get_or o i 0 ≡ get_or p i 0
same_at o p k i e h = sym (get_or-take k o i 0 h) ∙ ap (λ (l : List ℕ). get_or l i 0) e ∙ get_or-take k p i 0 h

-- what stands behind the sets has no part in where they end
ending-same : (o p : List ℕ) (k n at : ℕ) → take k o ≡ take k p → ending o n at ≤ k → ending p n at ≡ ending o n at
unfolding ending
ending-same o p k zero at e h = refl
ending-same o p k (suc n) at e h =
    let less : at < k = omega (arith, ending-from o n (past_of o at)) in
    rw (← same_at o p k at e less) (ending-same o p k n (past_of o at) e h)

pub used-same : (o p : List ℕ) (k : ℕ) → take k o ≡ take k p → used_of o ≤ k → used_of p ≡ used_of o
unfolding used_of
used-same o p k e h =
    let some : 0 < k = omega (arith, ending-from o (get_or o 0 0) 1) in
    rw (← same_at o p k 0 e some) (ending-same o p k (get_or o 0 0) 1 e h)

-- so the sets can be told from the octets up to their end alone, whatever follows
pub used-padded : (o pad : List ℕ) → used_of o ≤ length o → used_of (take (used_of o) o ++ pad) ≡ used_of o
used-padded o pad h =
    let u = used_of o in
    let whole : length (take u o) ≡ u = simp length-take (omega arith) in
    used-same o (take u o ++ pad) u (sym (take_at (take u o) pad u whole)) (le_refl u)

-- the first octets and zeros
pub cleared-is : (k : ℕ) (l : List ℕ) → cleared k l ≡ take k l ++ replicate (length l - k) 0
cleared-is zero l = ap (λ (n : ℕ). replicate n 0) (sym (sub-zero (length l)))
cleared-is (suc k) [] = ap (λ (n : ℕ). replicate n 0) (sym (zero-sub (suc k)))
cleared-is (suc k) (x ∷ l) = ap (λ (t : List ℕ). x ∷ t) (cleared-is k l) ∙ rw (suc-sub-suc (length l) k)

pub cleared-length : (k : ℕ) (l : List ℕ) → length (cleared k l) ≡ length l
cleared-length zero l = length-replicate (length l) 0
cleared-length (suc k) [] = refl
cleared-length (suc k) (x ∷ l) = ap suc (cleared-length k l)

-- where there are no others nothing is
pub cleared-all : (k : ℕ) (l : List ℕ) → length l ≤ k → cleared k l ≡ l
cleared-all k l h =
    let none : length l - k ≡ 0 = omega arith in
    cleared-is k l ∙ rw none (append-nil (take k l) ∙ take_all k l h)

cleared-none : (k : ℕ) → cleared k [] ≡ []
cleared-none zero = refl
cleared-none (suc k) = refl

-- a part of it
pub cleared-drop : (a k : ℕ) (l : List ℕ) → drop a (cleared k l) ≡ cleared (k - a) (drop a l)
cleared-drop zero k l = ap (λ (n : ℕ). cleared n l) (sym (sub-zero k))
cleared-drop (suc a) zero l = drop-replicate (suc a) (length l) 0 ∙ rw (zero-sub, length-drop)
cleared-drop (suc a) (suc k) [] = sym (cleared-none (suc k - suc a))
cleared-drop (suc a) (suc k) (x ∷ l) = cleared-drop a k l ∙ ap (λ (n : ℕ). cleared n (drop a l)) (sym (suc-sub-suc k a))

pub cleared-take : (n k : ℕ) (l : List ℕ) → take n (cleared k l) ≡ cleared k (take n l)
cleared-take zero k l = sym (cleared-none k)
cleared-take (suc n) zero [] = refl
cleared-take (suc n) zero (x ∷ l) = ap (λ (t : List ℕ). 0 ∷ t) (cleared-take n 0 l)
cleared-take (suc n) (suc k) [] = refl
cleared-take (suc n) (suc k) (x ∷ l) = ap (λ (t : List ℕ). x ∷ t) (cleared-take n k l)

-- of one that its sets do not run past: the octets that they take, and zeros
pub cut-is : (o : List ℕ) → length o ≡ 40 → cut_of o ≡ padded (take (used_of o) o)
cut-is o h =
    let many : length o - used_of o ≡ 40 - length (take (used_of o) o) = simp length-take (omega arith) in
    cleared-is (used_of o) o ∙ ap (λ (n : ℕ). take (used_of o) o ++ replicate n 0) many

-- forty octets need none
pub padded-forty : (o : List ℕ) → length o ≡ 40 → padded o ≡ o
padded-forty o h = let none : 40 - length o ≡ 0 = omega arith in rw none (append-nil o)

-- it has the same sets
pub used-cut : (o : List ℕ) → length o ≡ 40 → used_of o ≤ 40 → used_of (cut_of o) ≡ used_of o
used-cut o h k = ap used_of (cut-is o h) ∙ used-padded o _ (omega arith)

-- in the same octets
pub cut-front : (o : List ℕ) → length o ≡ 40 → used_of o ≤ 40 → take (used_of o) (cut_of o) ≡ take (used_of o) o
cut-front o h k =
    let u = used_of o in
    let whole : length (take u o) ≡ u = simp length-take (omega arith) in
    rw (cut-is o h) (take_at (take u o) _ u whole)

-- with zeros behind them
cut-behind : (o : List ℕ) → length o ≡ 40 → used_of o ≤ 40 → drop (used_of o) (cut_of o) ≡ replicate (40 - used_of o) 0
cut-behind o h k =
    let u = used_of o in
    let whole : length (take u o) ≡ u = simp length-take (omega arith) in
    rw (cut-is o h, whole) (drop_at (take u o) _ u whole)

-- and what follows the sets has no part in it
pub cut-padded : (o pad : List ℕ) → length o ≡ 40 → used_of o ≤ 40 → length (take (used_of o) o ++ pad) ≡ 40
    → cut_of (take (used_of o) o ++ pad) ≡ cut_of o
cut-padded o pad h k f =
    let u = used_of o in
    let whole : length (take u o) ≡ u = simp length-take (omega arith) in
    let same : take u (take u o ++ pad) ≡ take u o = take_at (take u o) pad u whole in
    cut-is (take u o ++ pad) f ∙ rw (used-padded o pad (omega arith), same) (sym (cut-is o h))

-- a body whose pad is zero stays as it is
pub cut-same : (o : List ℕ) → length o ≡ 40 → used_of o ≤ 40 → drop (used_of o) o ≡ replicate (40 - used_of o) 0 → cut_of o ≡ o
cut-same o h k z =
    let whole : length (take (used_of o) o) ≡ used_of o = simp length-take (omega arith) in
    cut-is o h ∙ rw (whole, ← z) (take-append-drop (used_of o) o)

-- and one that stays as it is has zeros there
pub same-zeros : (o : List ℕ) → length o ≡ 40 → used_of o ≤ 40 → cut_of o ≡ o → drop (used_of o) o ≡ replicate (40 - used_of o) 0
same-zeros o h k e =
    let u = used_of o in
    let whole : length (take u o) ≡ u = simp length-take (omega arith) in
    let is : o ≡ take u o ++ replicate (40 - u) 0 = sym e ∙ cut-is o h ∙ rw whole in
    ap (λ (l : List ℕ). drop u l) is ∙ drop_at (take u o) _ u whole

-- octets stay octets
pub cleared-octets : (k : ℕ) (l : List ℕ) → Octets l → Octets (cleared k l)
cleared-octets k l h =
    let n = length l - k in
    subst Octets (sym (cleared-is k l)) (octets-append (take k l) (replicate n 0) (octets-take k l h) (octets-zeros n))

-- the numbers hold forty octets
pub forty-length : (s : Sets) → length (forty_of s) ≡ 40
unfolding forty_of onto
forty-length s = refl

pub none : Octets []
none i = omega arith

pub forty-octets : (s : Sets) → Octets (forty_of s)
unfolding forty_of
forty-octets s =
    let a = bytes 8 s.first in
    let b = bytes 8 s.second in
    let c = bytes 8 s.third in
    let d = bytes 8 s.fourth in
    let e = bytes 8 s.fifth in
    let word : (x : ℕ) → Octets (bytes 8 x) = λ x. octets-bytes 8 x [] none in
    let two = octets-append a b (word s.first) (word s.second) in
    let three = octets-append (a ++ b) c two (word s.third) in
    let four = octets-append (a ++ b ++ c) d three (word s.fourth) in
    octets-append (a ++ b ++ c ++ d) e four (word s.fifth)

-- numbers to octets and back
pub sets-forty : (s : Sets) → SetsTyped s → sets_of (forty_of s) ≡ s
unfolding forty_of onto
sets-forty s h =
    rw (
      value-bytes 8 s.first h.0,
      value-bytes 8 s.second h.1,
      value-bytes 8 s.third h.2,
      value-bytes 8 s.fourth h.3,
      value-bytes 8 s.fifth h.4,
    )

-- octets to numbers and back
module _ (l : List ℕ) (h : Octets l) (forty : length l ≡ 40) where
  pub forty-sets : forty_of (sets_of l) ≡ l
  unfolding forty_of
  forty-sets =
      rw (
        bytes-field l h 0 8 (omega arith),
        bytes-field l h 8 8 (omega arith),
        bytes-field l h 16 8 (omega arith),
        bytes-field l h 24 8 (omega arith),
        bytes-field l h 32 8 (omega arith),
        join l 0 8 8,
        join l 0 16 8,
        join l 0 24 8,
        join l 0 32 8,
      )
      (take_all 40 l (omega arith))

  pub sets-typed : SetsTyped (sets_of l)
  sets-typed = (
    field_below l h 0 8 (omega arith),
    field_below l h 8 8 (omega arith),
    field_below l h 16 8 (omega arith),
    field_below l h 24 8 (omega arith),
    field_below l h 32 8 (omega arith),
  )

-- a body that is read: its sets fit once its pad is zeroed
pub cut_fits : (o : List ℕ) → Octets o → length o ≡ 40 → used_of o ≤ 40 → SetsFit (sets_of (cut_of o))
cut_fits o h forty room =
    let octets = cleared-octets (used_of o) o h in
    let size : length (cut_of o) ≡ 40 = cleared-length (used_of o) o ∙ forty in
    let back : forty_of (sets_of (cut_of o)) ≡ cut_of o = forty-sets (cut_of o) octets size in
    record {
      typed = sets-typed (cut_of o) octets size;
      room = rw (back, used-cut o forty room) room;
      zeros = rw (back, used-cut o forty room) (cut-behind o forty room);
    }

-- two that pass the test of being the same are
rebuilt : {a b c d e a' b' c' d' e' : ℕ} → a ≡ a' → b ≡ b' → c ≡ c' → d ≡ d' → e ≡ e'
    → ◌≡◌ {A = Sets} (record { first = a; second = b; third = c; fourth = d; fifth = e }) (record { first = a'; second = b'; third = c'; fourth = d'; fifth = e' })
rebuilt p q r u v = cc

pub same-sets : (s t : Sets) → same_sets s t ≡ true → s ≡ t
same-sets s t e =
    let d = (and-eq-true_iff _ (eqb s.fifth t.fifth)).0 e in
    let c = (and-eq-true_iff _ (eqb s.fourth t.fourth)).0 d.0 in
    let b = (and-eq-true_iff _ (eqb s.third t.third)).0 c.0 in
    let a = (and-eq-true_iff (eqb s.first t.first) (eqb s.second t.second)).0 b.0 in
    let p : s.first ≡ t.first = eqb-true _ _ a.0 in
    let q : s.second ≡ t.second = eqb-true _ _ a.1 in
    let r : s.third ≡ t.third = eqb-true _ _ b.1 in
    let u : s.fourth ≡ t.fourth = eqb-true _ _ c.1 in
    let v : s.fifth ≡ t.fifth = eqb-true _ _ d.1 in
    rebuilt p q r u v

pub sets_same : (s : Sets) → same_sets s s ≡ true
sets_same s =
    rw (
      eq-eqb s.first s.first refl,
      eq-eqb s.second s.second refl,
      eq-eqb s.third s.third refl,
      eq-eqb s.fourth s.fourth refl,
      eq-eqb s.fifth s.fifth refl,
    )

pub fit_cut : (s : Sets) → SetsFit s → cut_of (forty_of s) ≡ forty_of s
fit_cut s f = cut-same (forty_of s) (forty-length s) f.room f.zeros

-- the number of sets is used in any case
pub used-some : (o : List ℕ) → 1 ≤ used_of o
unfolding used_of
used-some o = ending-from o (get_or o 0 0) 1

-- no sets fit
pub none-fit : SetsFit no_sets
unfolding forty_of onto used_of ending
none-fit =
    record {
      typed = (omega arith, omega arith, omega arith, omega arith, omega arith);
      room = omega arith;
      zeros = refl;
    }
