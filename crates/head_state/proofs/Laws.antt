-- Lemmas: a window, and a head, k ticks on is as after k ticks.
-- Assumes nothing.
use Rattle.std.specs.Prelude.{ℕ, suc, ◌-◌, ◌≤◌, ◌<◌, ◌≡◌, refl}
use Rattle.std.proofs.Common.{⊎_elim, arith}
use borrow.Author.Tests.{le-leb, lt-leb, lt-ltb, le-ltb, eq-eqb, ne_eqb}
use Rattle.laws.specs.Cases.{cut}
use Rattle.clock.specs.Laws.{passed-left, passed-joined, later-one, later-joined}
use Rattle.clock.specs.Timers.{ticked, passed_of}
use Rattle.clock.specs.declared.Quanta.{Quanta}
use Rattle.clock.specs.declared.Timer.{Timer}
use Rattle.head_state.specs.Head.{tick_of, after_of}
use Rattle.head_state.specs.Window.{ticked_window, inside_for, inside_after, before_after, window_after}
use Rattle.head_state.specs.declared.Head.{Head}
use Rattle.head_state.specs.declared.Window.{Window}
use Rattle.head_state.specs.declared.Window.TheVariants.{Idle, Before, Inside}

-- the three ways of a window that is inside: stopped, ended, still inside
module _ (t : Timer) (k : ℕ) where
  inside-off : t.left ≡ 0 → inside_after t k ≡ Inside (passed_of t k)
  unfolding inside_after
  inside-off h = rw (le-ltb 0 t.left (omega arith))

  inside-out : 1 ≤ t.left → t.left ≤ k → inside_after t k ≡ Idle
  unfolding inside_after
  inside-out h l = rw (lt-ltb 0 t.left (omega arith), le-leb t.left k l)

  inside-in : k < t.left → inside_after t k ≡ Inside (passed_of t k)
  unfolding inside_after
  inside-in h = rw (lt-leb t.left k h, lt-ltb 0 t.left (omega arith))

  module _ (length : Quanta) where
    before-off : t.left ≡ 0 → before_after t length k ≡ Before (passed_of t k) length
    unfolding before_after
    before-off h = rw (eq-eqb t.left 0 h)

    before-out : 1 ≤ t.left → t.left ≤ k → before_after t length k ≡ inside_after (record { left = length.0 }) (k - t.left)
    unfolding before_after
    before-out h l = rw (ne_eqb t.left 0 (omega arith), le-leb t.left k l)

    before-in : k < t.left → before_after t length k ≡ Before (passed_of t k) length
    unfolding before_after
    before-in h = rw (ne_eqb t.left 0 (omega arith), lt-leb t.left k h)

-- k ticks and one more
inside-join : (t : Timer) (k : ℕ) → window_after (inside_after t 1) k ≡ inside_after t (suc k)
inside-join t k =
    let l = passed-left t 1 in
    ⊎_elim (λ (h : t.left < 1).
    rw (inside-off t 1 (omega arith), inside-off t (suc k) (omega arith), inside-off (passed_of t 1) k (omega arith), passed-joined t k))
    (λ (h : 1 ≤ t.left).
    ⊎_elim (λ (e : t.left < 2). rw (inside-out t 1 h (omega arith), inside-out t (suc k) h (omega arith)))
    (λ (e : 2 ≤ t.left).
    rw (inside-in t 1 e)
    (⊎_elim (λ (o : k < (passed_of t 1).left). rw (inside-in (passed_of t 1) k o, inside-in t (suc k) (omega arith), passed-joined t k))
    (λ (o : (passed_of t 1).left ≤ k). rw (inside-out (passed_of t 1) k (omega arith) o, inside-out t (suc k) h (omega arith)))
    (cut k (passed_of t 1).left)))
    (cut t.left 2))
    (cut t.left 1)

-- inside by its start: what is left is the length
inside-start : (length : Quanta) → inside_after (record { left = length.0 }) 0 ≡ inside_for length
unfolding passed_of
inside-start length =
    let t : Timer = record { left = length.0 } in
    let z : length.0 - 0 ≡ length.0 = omega arith in
    ⊎_elim (λ (h : length.0 < 1). rw (inside-off t 0 (omega arith), z))
    (λ (h : 1 ≤ length.0). rw (inside-in t 0 h, z))
    (cut length.0 1)

before-join : (t : Timer) (length : Quanta) (k : ℕ) → window_after (before_after t length 1) k ≡ before_after t length (suc k)
before-join t length k =
    let l = passed-left t 1 in
    ⊎_elim (λ (h : t.left < 1).
    rw (before-off t 1 length (omega arith), before-off t (suc k) length (omega arith), before-off (passed_of t 1) k length (omega arith), passed-joined t k))
    (λ (h : 1 ≤ t.left).
    ⊎_elim (λ (e : t.left < 2).
    let one : t.left ≡ 1 = omega arith in
    let z : 1 - t.left ≡ 0 = omega arith in
    let y : suc k - t.left ≡ k = omega arith in
    rw (before-out t 1 length h (omega arith), before-out t (suc k) length h (omega arith), z, y, inside-start length))
    (λ (e : 2 ≤ t.left).
    rw (before-in t 1 length e)
    (⊎_elim (λ (o : k < (passed_of t 1).left). rw (before-in (passed_of t 1) k length o, before-in t (suc k) length (omega arith), passed-joined t k))
    (λ (o : (passed_of t 1).left ≤ k).
    let y : k - (passed_of t 1).left ≡ suc k - t.left = omega arith in
    rw (before-out (passed_of t 1) k length (omega arith) o, before-out t (suc k) length h (omega arith), y))
    (cut k (passed_of t 1).left)))
    (cut t.left 2))
    (cut t.left 1)

pub window-join : (w : Window) (k : ℕ) → window_after (window_after w 1) k ≡ window_after w (suc k)
window-join Idle k = refl
window-join (Before t length) k = before-join t length k
window-join (Inside t) k = inside-join t k

-- one tick
inside-tick : (t : Timer) → ticked_window (Inside t) ≡ inside_after t 1
unfolding ticked passed_of
inside-tick t =
    ⊎_elim (λ (h : t.left < 1).
    let z : t.left ≡ 0 = omega arith in
    rw (inside-off t 1 z, z))
    (λ (h : 1 ≤ t.left).
    ⊎_elim (λ (e : t.left < 2).
    let one : t.left ≡ 1 = omega arith in
    rw (inside-out t 1 h (omega arith), one))
    (λ (e : 2 ≤ t.left). rw (inside-in t 1 e, ne_eqb t.left 0 (omega arith), ne_eqb t.left 1 (omega arith)))
    (cut t.left 2))
    (cut t.left 1)

before-tick : (t : Timer) (length : Quanta) → ticked_window (Before t length) ≡ before_after t length 1
unfolding ticked passed_of
before-tick t length =
    ⊎_elim (λ (h : t.left < 1).
    let z : t.left ≡ 0 = omega arith in
    rw (before-off t 1 length z, z))
    (λ (h : 1 ≤ t.left).
    ⊎_elim (λ (e : t.left < 2).
    let one : t.left ≡ 1 = omega arith in
    rw (before-out t 1 length h (omega arith), one, inside-start length))
    (λ (e : 2 ≤ t.left). rw (before-in t 1 length e, ne_eqb t.left 0 (omega arith), ne_eqb t.left 1 (omega arith)))
    (cut t.left 2))
    (cut t.left 1)

pub window-tick : (w : Window) → ticked_window w ≡ window_after w 1
window-tick Idle = refl
window-tick (Before t length) = before-tick t length
window-tick (Inside t) = inside-tick t

-- the head
pub head-tick : (h : Head) → tick_of h ≡ after_of h 1
head-tick h = rw (later-one h.count, window-tick h.window)

pub head-join : (h : Head) (k : ℕ) → after_of (after_of h 1) k ≡ after_of h (suc k)
head-join h k = rw (later-joined h.count k, window-join h.window k)
