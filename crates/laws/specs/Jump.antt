-- Lemmas: the law of the jump: ticks that surely hand out nothing are passed in one step.
-- Assumes nothing.
use Prim.Native.Nat.{ℕ, suc, ◌+◌, ◌-◌, ◌≤◌, ◌<◌, zero}
use Rattle.std.specs.Prelude.{◌≡◌, Bool, true, false, ◌≢◌}
use Rattle.std.proofs.Math.Path.{refl}
use Rattle.std.proofs.Common.{◌∙◌, arith}
use borrow.Author.Tests.{ne_eqb}
use Rattle.laws.specs.Ticks.{ticks}

-- an answer says what its tick left; `again` is the tick after it, `out` the reply to the call with the number of ticks made
module _ {A R : Type 0} (again : A → A) (done silent : A → Bool) (out : A → ℕ → R) where
  -- `leap k` passes k ticks, and `quiet` is a number of ticks that surely hand out nothing
  pub record Jumps (leap : ℕ → A → A) (quiet : A → ℕ) : Type 0 where
    pub none : (r : A) → leap 0 r ≡ r
    pub one : (r : A) → 1 ≤ quiet r → (again r ≡ leap 1 r) × (done (leap 1 r) ≡ true) × (silent (leap 1 r) ≡ true)
    pub joined : (k : ℕ) (r : A) → leap k (leap 1 r) ≡ leap (suc k) r
    pub falls : (r : A) → 1 ≤ quiet r → quiet r ≤ suc (quiet (leap 1 r))

  -- a single tick that is made
  pub ticks-next : (k m : ℕ) (r x : A) → silent r ≡ true → again r ≡ x → done x ≡ true → ticks again done silent out (suc k) r m ≡ ticks again done silent out k x (m + 1)
  unfolding ticks
  ticks-next k m r x s e d = rw (s, e, d)

  -- one that would be refused: the first, and a later one
  pub ticks-first : (k : ℕ) (r x : A) → silent r ≡ true → again r ≡ x → done x ≡ false → ticks again done silent out (suc k) r 0 ≡ out x 0
  unfolding ticks
  ticks-first k r x s e d = rw (s, e, d)

  pub ticks-refused : (k m : ℕ) (r x : A) → silent r ≡ true → again r ≡ x → done x ≡ false → m ≢ 0 → ticks again done silent out (suc k) r m ≡ out r m
  unfolding ticks
  ticks-refused k m r x s e d n = rw (s, e, d, ne_eqb m 0 n)

  -- what was handed out stops it
  pub ticks-told : (k m : ℕ) (r : A) → silent r ≡ false → ticks again done silent out k r m ≡ out r m
  unfolding ticks
  ticks-told zero m r s = refl
  ticks-told (suc k) m r s = rw s

  pub ticks-end : (k m : ℕ) (r : A) → k ≡ 0 → ticks again done silent out k r m ≡ out r m
  unfolding ticks
  ticks-end k m r e = rw e

  module _ (leap : ℕ → A → A) (quiet : A → ℕ) (j : Jumps leap quiet) where
    -- the law: k quiet ticks are made one by one as they are passed in a step
    pub jump : (k : ℕ) (i m : ℕ) (r : A) → silent r ≡ true → k ≤ quiet r
        → (ticks again done silent out (k + i) r m ≡ ticks again done silent out i (leap k r) (m + k)) × (silent (leap k r) ≡ true)
    jump zero i m r s h =
        let a : m + 0 ≡ m = omega arith in
        let b : 0 + i ≡ i = omega arith in
        (rw (a, b, j.none r), rw (j.none r) s)
    jump (suc k) i m r s h =
        let o = j.one r (omega arith) in
        let f = j.falls r (omega arith) in
        let p = jump k i (m + 1) (leap 1 r) o.2 (omega arith) in
        let a : suc k + i ≡ suc (k + i) = omega arith in
        let b : m + 1 + k ≡ m + suc k = omega arith in (
          rw a (ticks-next (k + i) m r (leap 1 r) s o.0 o.1 ∙ p.0 ∙ rw (b, j.joined k r)),
          rw (j.joined k r) at p.1,
        )

    -- the tick after k that are passed, where it is a quiet one too, is passed as they are
    pub leap-next : (k : ℕ) (r : A) → k < quiet r → again (leap k r) ≡ leap (suc k) r
    leap-next zero r h = rw (j.none r) (j.one r h).0
    leap-next (suc k) r h =
        let f = j.falls r (omega arith) in
        rw (← j.joined k r, ← j.joined (suc k) r) (leap-next k (leap 1 r) (omega arith))

    -- a turn of a loop that makes n ticks, of which m are made: k are passed, and one more is made
    module _ (n m k : ℕ) (r : A) (s : silent r ≡ true) (h : k ≤ quiet r) (l : m + k < n) (x : A) (e : again (leap k r) ≡ x) where
      parts : n - m ≡ k + suc (n - (m + k + 1))
      parts = omega arith

      pub turn-next : done x ≡ true → ticks again done silent out (n - m) r m ≡ ticks again done silent out (n - (m + k + 1)) x (m + k + 1)
      turn-next d =
          let p = jump k (suc (n - (m + k + 1))) m r s h in
          rw parts (p.0 ∙ ticks-next (n - (m + k + 1)) (m + k) (leap k r) x p.1 e d)

      pub turn-first : done x ≡ false → m + k ≡ 0 → ticks again done silent out (n - m) r m ≡ out x 0
      turn-first d z =
          let p = jump k (suc (n - (m + k + 1))) m r s h in
          rw parts (p.0 ∙ rw z (ticks-first (n - (0 + 1)) (leap k r) x p.1 e d))

      pub turn-refused : done x ≡ false → m + k ≢ 0 → ticks again done silent out (n - m) r m ≡ out (leap k r) (m + k)
      turn-refused d z =
          let p = jump k (suc (n - (m + k + 1))) m r s h in
          rw parts (p.0 ∙ ticks-refused (n - (m + k + 1)) (m + k) (leap k r) x p.1 e d z)
