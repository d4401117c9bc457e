-- Lemmas: soundness of the transmitter: each phase is entered soundly, a tick keeps it, and what a tick brings stands on it. And the laws of a jump.
-- Assumes nothing.
use Rattle.std.specs.Prelude.{◌≡◌, ℕ, suc, ◌+◌, ◌-◌, ◌^◌, ◌<◌, ◌≤◌, true, false, ◌&&◌, ◌≢◌, ◌==◌, nat_le}
use Rattle.std.proofs.Math.Path.{refl}
use Rattle.std.proofs.Math.Bool.{and-eq-true_iff}
use Rattle.std.proofs.lemmas.Bool.{false≢true}
use Rattle.std.proofs.Common.{mod-lt, arith}
use borrow.Author.Tests.{le-leb, leb-true, eqb-false}
use Rattle.laws.specs.Cases.{either}
use Rattle.clock.specs.Laws.{runs-in, runs_of, ticked-on, ticked-off, ticked-runs, ticked-quiet, passed-joined, quiet-falls}
use Rattle.clock.specs.Numbers.{laser_on, laser_off, furthest, quanta_of, needed, random_wait}
use Rattle.clock.specs.Timers.{off, runs, ticked}
use Rattle.clock.specs.declared.Quanta.{Quanta}
use Rattle.clock.specs.declared.Timer.{Timer}
use Rattle.clock.specs.declared.Span.{Span}
use Rattle.box_grants.specs.Activation.{holds}
use Rattle.box_grants.specs.Listed.{list_of}
use Rattle.box_grants.specs.declared.GrantList.{GrantList}
use Rattle.box_light.specs.Light.{resting, laser_on_for, open_for, randomly, rests, is_at_rest}
use Rattle.box_light.specs.Pass.{passed_of, quiet_of}
use Rattle.box_light.specs.Sound.{wait_fits, served, sound_in, sound_of}
use Rattle.box_light.specs.Tick.{after, tick_of}
use Rattle.box_light.specs.declared.Light.{Light}
use Rattle.box_light.specs.declared.Phase.{Phase}
use Rattle.box_light.specs.declared.Phase.TheVariants.{Rest, Before, Random, Warming, Asking, Due, Lit, Open, Fading}
use Rattle.box_light.specs.declared.LightTicked.{LightTicked}
use Rattle.box_light.specs.declared.Beam.{Beam}
use Rattle.box_light.specs.declared.Beam.TheVariants.{Quiet, Window, Start, Opened, Closed}

-- the tests as facts of numbers, and back
pub fits_in : (n : ℕ) (sync : Quanta) → wait_fits n sync ≡ true → needed sync.0 + n ≤ 65535
unfolding wait_fits
fits_in n sync h = leb-true (needed sync.0 + n) 65535 h

pub fits-of : (n : ℕ) (sync : Quanta) → needed sync.0 + n ≤ 65535 → wait_fits n sync ≡ true
unfolding wait_fits
fits-of n sync h = le-leb (needed sync.0 + n) 65535 h

-- the random wait of a grant that serves
pub random-fits : (random : ℕ) (length sync : Quanta) → needed sync.0 ≤ length.0 → length.0 ≤ 65535
    → wait_fits (random_wait random length.0 sync.0) sync ≡ true
random-fits random length sync h k =
    let below = mod-lt random {m = length.0 - needed sync.0 + 1} (omega arith) in
    fits-of (random_wait random length.0 sync.0) sync (omega arith)

pub served-in : (length sync : Quanta) → served length sync ≡ true → (needed sync.0 ≤ length.0) × (length.0 ≤ 65535)
unfolding served
served-in length sync h =
    let p = (and-eq-true_iff (nat_le (needed sync.0) length.0) (nat_le length.0 65535)).0 h in
    (leb-true (needed sync.0) length.0 p.0, leb-true length.0 65535 p.1)

pub served-of : (length sync : Quanta) → needed sync.0 ≤ length.0 → length.0 ≤ 65535 → served length sync ≡ true
unfolding served
served-of length sync h k = rw (le-leb (needed sync.0) length.0 h, le-leb length.0 65535 k)

-- and of a grant that is waited for
pub due-parts : (t : Timer) (entry : Span) (sync : Quanta) (s : GrantList) → sound_in (Due entry sync) t s ≡ true
    → (runs t (2 ^ 31 - 1) ≡ true) × (holds entry (list_of s) ≡ true) × (served entry.length sync ≡ true)
due-parts t entry sync s h =
    let p = (and-eq-true_iff (runs t (2 ^ 31 - 1) && holds entry (list_of s)) (served entry.length sync)).0 h in
    let q = (and-eq-true_iff (runs t (2 ^ 31 - 1)) (holds entry (list_of s))).0 p.0 in
    (q.0, q.1, p.1)

-- the timers that a phase starts
pub on-for : (sync : Quanta) → sync.0 ≤ 65535 → (laser_on_for sync).left ≡ laser_on + sync.0
unfolding laser_on_for
on-for sync h = omega arith

warming : (n : ℕ) (sync : Quanta) → wait_fits n sync ≡ true → runs (laser_on_for sync) (65535 - quanta_of 60 - laser_off) ≡ true
warming n sync h =
    let f = fits_in n sync h in
    let on = on-for sync (omega arith) in
    runs_of (laser_on_for sync) (65535 - quanta_of 60 - laser_off) (omega arith) (omega arith)

opening : (length sync : Quanta) → served length sync ≡ true → runs (open_for length sync) (65535 - laser_on - laser_off) ≡ true
unfolding open_for
opening length sync h =
    let f = served-in length sync h in
    runs_of (record { left = length.0 - (laser_on + sync.0 + laser_off) }) (65535 - laser_on - laser_off) (omega arith) (omega arith)

-- the phase of rest
pub rests-is : (p : Phase) → rests p ≡ true → p ≡ Rest
rests-is Rest h = refl
rests-is (Before random sync) h = absurd (false≢true h)
rests-is (Random sync) h = absurd (false≢true h)
rests-is Warming h = absurd (false≢true h)
rests-is Asking h = absurd (false≢true h)
rests-is (Due entry sync) h = absurd (false≢true h)
rests-is (Lit length sync) h = absurd (false≢true h)
rests-is Open h = absurd (false≢true h)
rests-is Fading h = absurd (false≢true h)

-- at rest no timer runs
pub rest-off : (l : Light) (s : GrantList) → is_at_rest l ≡ true → sound_of l s ≡ true → off l.timer ≡ true
rest-off l s r h = rw (rests-is l.phase r) at h

-- entering a phase
module _ (s : GrantList) where
  pub resting-sound : sound_of resting s ≡ true
  unfolding off
  resting-sound = refl

  -- at rest no list is asked for
  pub rest-sound : (l : Light) (u : GrantList) → is_at_rest l ≡ true → sound_of l u ≡ true → sound_of l s ≡ true
  rest-sound l u r h = rw (rests-is l.phase r) (rest-off l u r h)

  pub before-sound : (n : ℕ) (random sync : Quanta) → 1 ≤ n → n ≤ furthest → wait_fits random.0 sync ≡ true
      → sound_in (Before random sync) (record { left = n }) s ≡ true
  before-sound n random sync h k f = rw (runs_of (record { left = n }) furthest h k, f)

  pub randomly-sound : (random sync : Quanta) → wait_fits random.0 sync ≡ true → sound_of (randomly random sync) s ≡ true
  unfolding randomly
  randomly-sound random sync h =
      either (λ (l : Light). sound_of l s ≡ true) (random.0 == 0) _ _ (λ _. warming random.0 sync h)
      (λ t.
      let some : random.0 ≢ 0 = eqb-false random.0 0 t in
      let f = fits_in random.0 sync h in
      rw (runs_of (record { left = random.0 }) 65535 (omega arith) (omega arith), h))

  pub due-sound : (n : ℕ) (e : Span) (sync : Quanta) → 1 ≤ n → n < 2 ^ 31 → holds e (list_of s) ≡ true → served e.length sync ≡ true
      → sound_in (Due e sync) (record { left = n }) s ≡ true
  due-sound n e sync h k i f = rw (runs_of (record { left = n }) (2 ^ 31 - 1) h (omega arith), i, f)

  pub lit-sound : (length sync : Quanta) → served length sync ≡ true → sound_in (Lit length sync) (laser_on_for sync) s ≡ true
  lit-sound length sync h =
      let f = served-in length sync h in
      let on = on-for sync (omega arith) in
      rw (runs_of (laser_on_for sync) (laser_on_for sync).left (omega arith) (omega arith), h)

  -- a timer that has rung
  follows : (p : Phase) (t : Timer) → sound_in p t s ≡ true → sound_of (after p).light s ≡ true
  unfolding runs off
  follows Rest t h = refl
  follows (Before random sync) t h = randomly-sound random sync ((and-eq-true_iff (runs t furthest) (wait_fits random.0 sync)).0 h).1
  follows (Random sync) t h = warming t.left sync ((and-eq-true_iff (runs t 65535) (wait_fits t.left sync)).0 h).1
  follows Warming t h = refl
  follows Asking t h = refl
  follows (Due entry sync) t h = refl
  follows (Lit length sync) t h = opening length sync ((and-eq-true_iff (runs t (laser_on_for sync).left) (served length sync)).0 h).1
  follows Open t h = refl
  follows Fading t h = refl

  -- one that has not: the wait that is left is the shorter
  waits : (t : Timer) (sync : Quanta) → runs t 65535 ≡ true → wait_fits t.left sync ≡ true → wait_fits (ticked t).timer.left sync ≡ true
  waits t sync h f =
      let p = runs-in t 65535 h in
      let n = fits_in t.left sync f in
      rw (ticked-on t p.0) (fits-of (t.left - 1) sync (omega arith))

  stays : (p : Phase) (t : Timer) → sound_in p t s ≡ true → (ticked t).rang ≡ false → sound_in p (ticked t).timer s ≡ true
  stays Rest t h e = rw (ticked-off t h) h
  stays (Before random sync) t h e =
      let q = (and-eq-true_iff (runs t furthest) (wait_fits random.0 sync)).0 h in
      rw (ticked-runs t furthest q.0 e, q.1)
  stays (Random sync) t h e =
      let q = (and-eq-true_iff (runs t 65535) (wait_fits t.left sync)).0 h in
      rw (ticked-runs t 65535 q.0 e, waits t sync q.0 q.1)
  stays Warming t h e = ticked-runs t (65535 - quanta_of 60 - laser_off) h e
  stays Asking t h e = ticked-runs t (quanta_of 60) h e
  stays (Due entry sync) t h e =
      let q = due-parts t entry sync s h in
      rw (ticked-runs t (2 ^ 31 - 1) q.0 e, q.1, q.2)
  stays (Lit length sync) t h e =
      let q = (and-eq-true_iff (runs t (laser_on_for sync).left) (served length sync)).0 h in
      rw (ticked-runs t (laser_on_for sync).left q.0 e, q.1)
  stays Open t h e = ticked-runs t (65535 - laser_on - laser_off) h e
  stays Fading t h e = ticked-runs t laser_off h e

  pub tick-keeps : (l : Light) → sound_of l s ≡ true → sound_of (tick_of l).light s ≡ true
  unfolding tick_of
  tick-keeps l h =
      either (λ (t : LightTicked). sound_of t.light s ≡ true) (ticked l.timer).rang _ _ (λ _. follows l.phase l.timer h) (stays l.phase l.timer h)

  -- a grant whose start has come is in the list, and has the needed length
  abbrev pub Begins : Beam → Type 0
  Begins Quiet = Unit {0}
  Begins Window = Unit {0}
  Begins (Start e sync) = (holds e (list_of s) ≡ true) × (served e.length sync ≡ true)
  Begins Opened = Unit {0}
  Begins Closed = Unit {0}

  after-begins : (p : Phase) (t : Timer) → sound_in p t s ≡ true → Begins (after p).beam
  after-begins Rest t h = tt
  after-begins (Before random sync) t h = tt
  after-begins (Random sync) t h = tt
  after-begins Warming t h = tt
  after-begins Asking t h = tt
  after-begins (Due entry sync) t h =
      let p = due-parts t entry sync s h in
      (p.1, p.2)
  after-begins (Lit length sync) t h = tt
  after-begins Open t h = tt
  after-begins Fading t h = tt

  pub tick-begins : (l : Light) → sound_of l s ≡ true → Begins (tick_of l).beam
  unfolding tick_of
  tick-begins l h = either (λ (t : LightTicked). Begins t.beam) (ticked l.timer).rang _ _ (λ _. after-begins l.phase l.timer h) (λ _. tt)

  pub tick-start : (l : Light) (e : Span) (sync : Quanta) → sound_of l s ≡ true → (tick_of l).beam ≡ Start e sync
      → (holds e (list_of s) ≡ true) × (served e.length sync ≡ true)
  tick-start l e sync h b = rw b at (tick-begins l h)

-- another list serves as well if it holds what the first does; a transmitter that waits for no grant asks nothing of it
listed_in : (p : Phase) (t : Timer) (s u : GrantList) → ((e : Span) → holds e (list_of s) ≡ true → holds e (list_of u) ≡ true)
    → sound_in p t s ≡ true → sound_in p t u ≡ true
listed_in Rest t s u f h = h
listed_in (Before random sync) t s u f h = h
listed_in (Random sync) t s u f h = h
listed_in Warming t s u f h = h
listed_in Asking t s u f h = h
listed_in (Due entry sync) t s u f h =
    let p = due-parts t entry sync s h in
    rw (p.0, f entry p.1, p.2)
listed_in (Lit length sync) t s u f h = h
listed_in Open t s u f h = h
listed_in Fading t s u f h = h

pub sound-list : (l : Light) (s u : GrantList) → ((e : Span) → holds e (list_of s) ≡ true → holds e (list_of u) ≡ true)
    → sound_of l s ≡ true → sound_of l u ≡ true
sound-list l s u f h = listed_in l.phase l.timer s u f h

-- a tick before the ring passes
pub tick-quiet : (l : Light) → 1 ≤ quiet_of l → tick_of l ≡ record { light = passed_of l 1; beam = Quiet }
unfolding tick_of passed_of quiet_of
tick-quiet l q = rw (ticked-quiet l.timer q)

pub passed-sound : (l : Light) (s : GrantList) → sound_of l s ≡ true → 1 ≤ quiet_of l → sound_of (passed_of l 1) s ≡ true
passed-sound l s h q = rw (tick-quiet l q) at (tick-keeps s l h)

pub passed-rest : (l : Light) (k : ℕ) → is_at_rest (passed_of l k) ≡ is_at_rest l
unfolding passed_of
passed-rest l k = refl

pub passed-joins : (l : Light) (k : ℕ) → passed_of (passed_of l 1) k ≡ passed_of l (suc k)
unfolding passed_of
passed-joins l k = rw (passed-joined l.timer k)

pub quiet-less : (l : Light) → 1 ≤ quiet_of l → quiet_of l ≤ suc (quiet_of (passed_of l 1))
unfolding quiet_of passed_of
quiet-less l h = quiet-falls l.timer h
