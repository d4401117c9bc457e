-- Lemmas: the laws by which proofs over natural numbers use the distances, lengths and timers of this crate.
-- Assumes nothing.
use Rattle.std.specs.Prelude.{Option, None, Some, ◌≡◌, ℕ, suc, ◌+◌, ◌-◌, ◌*◌, ◌%◌, ◌^◌, ◌<◌, ◌≤◌, Bool, true, false, ◌≢◌, ℤ, pos, negsuc, ◌==◌, nat_le, nat_lt, refl}
use Rattle.std.proofs.Common.{◌∙◌, sym, ap, true≢false, ⊎_elim, arith}
use Rattle.std.proofs.lemmas.Bool.{false≢true}
use Rattle.std.proofs.Math.Bool.{and-eq-true_iff}
use borrow.Author.Tests.{lt-ltb, le-ltb, lt-leb, le-leb, leb-true, eq-eqb, ne_eqb, eqb-true, eqb-false}
use Rattle.laws.specs.Cases.{cut}
use Rattle.clock.specs.declared.Count.{Count}
use Rattle.clock.specs.declared.Quanta.{Quanta}
use Rattle.clock.specs.declared.Timer.{Timer}
use Rattle.clock.specs.Counts.{next_of, later_of, gap, distance, is_past, nearer, reach}
use Rattle.clock.specs.Numbers.{furthest, furthest_advance, is_in_reach, start_in_range, quanta_of}
use Rattle.clock.specs.Timers.{stopped, off, runs, ticked, passed_of, quiet_of}

-- what wraps back to a when b is added is the gap from b to a
pub gap_of : (a b r : ℕ) → a < 2 ^ 32 → b < 2 ^ 32 → r < 2 ^ 32 → (r + b) % 2 ^ 32 ≡ a → r ≡ gap b a
gap_of a b r ha hb hr e = omega arith

pub gap_below : (a b : ℕ) → gap a b < 2 ^ 32
gap_below a b = omega arith

-- a count is near, its gap below 2 ^ 31, or far
pub near-or-far : {P : Type 0} (a b : ℕ) → (gap a b < 2 ^ 31 → P) → (2 ^ 31 ≤ gap a b → P) → P
near-or-far a b near far = ⊎_elim near far (cut (gap a b) (2 ^ 31))

module _ (a b : ℕ) where
  -- a near count is ahead by its gap
  module _ (h : gap a b < 2 ^ 31) where
    pub distance-near : distance a b ≡ pos (gap a b)
    unfolding distance
    distance-near = rw (lt-ltb (gap a b) (2 ^ 31) h)

    pub is_past-near : is_past a b ≡ false
    unfolding is_past
    is_past-near = rw distance-near (le-ltb (gap a b) 0 (omega arith))

    pub reach_near : reach a b ≡ Some (record { 0 = gap a b })
    unfolding reach
    reach_near = rw distance-near

  -- a far one is past
  module _ (h : 2 ^ 31 ≤ gap a b) where
    pub distance-far : distance a b ≡ negsuc (2 ^ 32 - suc (gap a b))
    unfolding distance
    distance-far = rw (le-ltb (gap a b) (2 ^ 31) h, lt-ltb (gap a b) (2 ^ 32) (gap_below a b))

    pub is_past-far : is_past a b ≡ true
    unfolding is_past
    is_past-far = rw distance-far

    pub reach_far : reach a b ≡ None
    unfolding reach
    reach_far = rw distance-far

  -- and the test tells which
  pub near_of : is_past a b ≡ false → gap a b < 2 ^ 31
  near_of e = near-or-far a b (λ h. h) (λ h. absurd (true≢false (sym (is_past-far h) ∙ e)))

  pub far-of : is_past a b ≡ true → 2 ^ 31 ≤ gap a b
  far-of e = near-or-far a b (λ h. absurd (false≢true (sym (is_past-near h) ∙ e))) (λ h. h)

-- of two counts that are ahead, the nearer has the smaller gap
pub nearer-ahead : (n a b : ℕ) → gap n a < 2 ^ 31 → gap n b < 2 ^ 31 → nearer n a b ≡ nat_lt (gap n a) (gap n b)
unfolding nearer
nearer-ahead n a b h k = rw (distance-near n a h, distance-near n b k)

-- so many quanta on from the one count, or back, the counter reads the other
abbrev pub Leads : ℕ → ℕ → ℤ → Type 0
Leads from to (pos d) = (d < 2 ^ 31) × ((from + d) % 2 ^ 32 ≡ to)
Leads from to (negsuc k) = (k < 2 ^ 31) × ((to + suc k) % 2 ^ 32 ≡ from)

-- the distance is exact: it leads from the one count to the other, and no other number does
module _ (a b : ℕ) (ha : a < 2 ^ 32) (hb : b < 2 ^ 32) where
  pub distance-leads : Leads a b (distance a b)
  distance-leads =
      near-or-far a b
      (λ h. rw (distance-near a b h) (h, omega arith))
      (λ h. rw (distance-far a b h) (omega arith, omega arith))

  pub distance-only : (z : ℤ) → Leads a b z → distance a b ≡ z
  distance-only (pos d) l = distance-near a b (omega arith) ∙ ap pos (omega arith)
  distance-only (negsuc k) l = distance-far a b (omega arith) ∙ ap negsuc (omega arith)

  -- it is 0 exactly when the counts are equal
  pub distance-same : a ≡ b → distance a b ≡ pos 0
  distance-same e = distance-only (pos 0) (omega arith, omega arith)

  pub same_of : distance a b ≡ pos 0 → a ≡ b
  same_of e =
      let l : Leads a b (pos 0) = rw e at distance-leads in
      omega arith

-- a start that may be taken, by its gap
pub start-gap : (now start : ℕ) → start_in_range now start ≡ nat_le (gap now start) furthest
unfolding start_in_range
start-gap now start =
    near-or-far now start
    (λ h. rw (distance-near now start h, le-leb 0 (gap now start) (omega arith)))
    (λ h. rw (distance-far now start h, lt-leb (gap now start) furthest (omega arith)))

-- and by where it stands, as the code tells it
abbrev pub reach_in_range : Option Quanta → Bool
reach_in_range (Some wait) = nat_le wait.0 furthest
reach_in_range None = false

pub start-reach : (now start : ℕ) → start_in_range now start ≡ reach_in_range (reach now start)
start-reach now start =
    near-or-far now start
    (λ h. rw (start-gap, reach_near now start h))
    (λ h. rw (start-gap, reach_far now start h) (lt-leb (gap now start) furthest (omega arith)))

-- rounded up: twice the quanta are enough, and by less than two
pub quanta-up : (n : ℕ) → (n + 24 ≤ 2 * quanta_of n) × (2 * quanta_of n < n + 24 + 2)
quanta-up n = (omega arith, omega arith)

-- 60 octets need 42
pub quanta-frame : quanta_of 60 ≡ 42
quanta-frame = refl

-- a running timer as facts of numbers, and back
pub runs-in : (t : Timer) (n : ℕ) → runs t n ≡ true → (1 ≤ t.left) × (t.left ≤ n)
unfolding runs
runs-in t n e =
    ⊎_elim (λ (k : t.left < 1). absurd (false≢true (rw (lt-leb 1 t.left k) at e)))
    (λ (k : 1 ≤ t.left). (k, leb-true t.left n (rw (le-leb 1 t.left k) at e)))
    (cut t.left 1)

pub runs_of : (t : Timer) (n : ℕ) → 1 ≤ t.left → t.left ≤ n → runs t n ≡ true
unfolding runs
runs_of t n h k = rw (le-leb 1 t.left h, le-leb t.left n k)

-- a running timer loses a tick, and rings at its last
pub ticked-on :
    (t : Timer) → 1 ≤ t.left → ticked t ≡ record { timer = record { left = t.left - 1 }; rang = (t.left == 1) }
unfolding ticked
ticked-on t h = rw (ne_eqb t.left 0 (omega arith))

-- with more than one tick left it falls by one
pub ticked-falls : (t : Timer) → 1 < t.left → ((ticked t).rang ≡ false) × ((ticked t).timer.left ≡ t.left - 1)
ticked-falls t h = rw (ticked-on t (omega arith)) (ne_eqb t.left 1 (omega arith), refl)

-- at its last it rings
pub ticked-rings : (t : Timer) → t.left ≡ 1 → (ticked t).rang ≡ true
ticked-rings t h = rw (ticked-on t (omega arith), h)

-- one that is off stays so
pub ticked-off : (t : Timer) → off t ≡ true → ticked t ≡ record { timer = t; rang = false }
unfolding ticked off
ticked-off t h = rw h

-- one that does not ring runs on, within the same longest setting
pub ticked-runs : (t : Timer) (n : ℕ) → runs t n ≡ true → (ticked t).rang ≡ false → runs (ticked t).timer n ≡ true
ticked-runs t n h e =
    let r = runs-in t n h in
    let f : t.left ≢ 1 = eqb-false t.left 1 (rw (ticked-on t r.0) at e) in
    rw (ticked-on t r.0) (runs_of (record { left = t.left - 1 }) n (omega arith) (omega arith))

-- what a timer's quiet ticks are, stopped and running
pub quiet-off : (t : Timer) → t.left ≡ 0 → quiet_of t ≡ furthest_advance
unfolding quiet_of
quiet-off t h = rw (eq-eqb t.left 0 h)

pub quiet-on : (t : Timer) → 1 ≤ t.left → quiet_of t ≡ t.left - 1
unfolding quiet_of
quiet-on t h = rw (ne_eqb t.left 0 (omega arith))

pub passed-left : (t : Timer) (k : ℕ) → (passed_of t k).left ≡ t.left - k
unfolding passed_of
passed-left t k = refl

pub passed-out : (t : Timer) (k : ℕ) → t.left < k → stopped ≡ passed_of t k
unfolding passed_of
passed-out t k h =
    let n : t.left - k ≡ 0 = omega arith in
    rw n

pub passed_none : (t : Timer) → passed_of t 0 ≡ t
unfolding passed_of
passed_none t =
    let z : t.left - 0 ≡ t.left = omega arith in
    rw z

-- a stopped timer is passed as it is
pub passed-off : (t : Timer) (k : ℕ) → off t ≡ true → passed_of t k ≡ t
unfolding off passed_of
passed-off t k h =
    let z : t.left ≡ 0 = eqb-true t.left 0 h in
    let n : t.left - k ≡ t.left = omega arith in
    rw n

-- a tick that comes before the one at which a timer rings is passed
pub ticked-quiet : (t : Timer) → 1 ≤ quiet_of t → ticked t ≡ record { timer = passed_of t 1; rang = false }
unfolding ticked passed_of
ticked-quiet t h =
    ⊎_elim (λ (k : t.left < 1).
    let z : t.left ≡ 0 = omega arith in
    rw z)
    (λ (k : 1 ≤ t.left).
    let q = quiet-on t k in
    rw (ne_eqb t.left 0 (omega arith), ne_eqb t.left 1 (omega arith)))
    (cut t.left 1)

-- a timer that runs is still running
pub passed-runs : (t : Timer) (n k : ℕ) → runs t n ≡ true → k ≤ quiet_of t → runs (passed_of t k) n ≡ true
passed-runs t n k h q =
    let r = runs-in t n h in
    let e = quiet-on t r.0 in
    let l = passed-left t k in
    runs_of (passed_of t k) n (omega arith) (omega arith)

pub passed-joined : (t : Timer) (k : ℕ) → passed_of (passed_of t 1) k ≡ passed_of t (suc k)
unfolding passed_of
passed-joined t k =
    let n : t.left - 1 - k ≡ t.left - suc k = omega arith in
    rw n

-- and has one less to come
pub quiet-falls : (t : Timer) → 1 ≤ quiet_of t → quiet_of t ≤ suc (quiet_of (passed_of t 1))
quiet-falls t h =
    let l = passed-left t 1 in
    ⊎_elim (λ (k : t.left < 1).
    let a = quiet-off t (omega arith) in
    let b = quiet-off (passed_of t 1) (omega arith) in
    omega arith)
    (λ (k : 1 ≤ t.left).
    let a = quiet-on t k in
    let b = quiet-on (passed_of t 1) (omega arith) in
    omega arith)
    (cut t.left 1)

-- what an advance may make
pub reach-parts : (n : ℕ) → is_in_reach n ≡ true → (1 ≤ n) × (n ≤ furthest_advance)
unfolding is_in_reach
reach-parts n h =
    let p = (and-eq-true_iff (nat_le 1 n) (nat_le n furthest_advance)).0 h in
    (leb-true 1 n p.0, leb-true n furthest_advance p.1)

-- the counter
pub later-one : (c : Count) → next_of c ≡ later_of c 1
unfolding next_of later_of
later-one c = refl

pub later-joined : (c : Count) (k : ℕ) → later_of (later_of c 1) k ≡ later_of c (suc k)
unfolding later_of
later-joined c k =
    let n : ((c.0 + 1) % 2 ^ 32 + k) % 2 ^ 32 ≡ (c.0 + suc k) % 2 ^ 32 = omega arith in
    rw n
