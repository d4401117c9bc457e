-- Lemmas: the laws of a jump, of one link, and that the tick after all of its quiet ones sends a frame.
-- Assumes nothing.
use Rattle.std.specs.Prelude.{Option, None, Some, ℕ, suc, ◌≤◌, ◌<◌, min, ◌≡◌, refl, Bool, true, ◌&&◌, ◌⊎◌, eqb}
use Rattle.std.proofs.Math.Bool.{and-eq-true_iff}
use Rattle.std.proofs.Common.{inl, inr, ⊎_elim, arith, eqb-true}
use Rattle.frame.specs.declared.Address.{Address}
use Rattle.frame.specs.declared.Body.{Body}
use Rattle.laws.specs.Cases.{cut}
use Rattle.clock.specs.Laws.{ticked-quiet, ticked-rings, passed_none as timer-none, passed-off, passed-joined, passed-runs, quiet-off, quiet-on, quiet-falls}
use Rattle.clock.specs.Numbers.{watchdog, periodic, wait, furthest_advance}
use Rattle.clock.specs.Timers.{off, runs, ticked, quiet_of as timer_quiet}
use Rattle.clock.specs.declared.Timer.{Timer}
use Rattle.frame_range.specs.Fits.{is_individual}
use Rattle.head_links.specs.Pass.{passed_of, quiet_of}
use Rattle.head_links.specs.Sound.{sound_in, sound_of}
use Rattle.head_links.specs.Steps.{still, gated}
use Rattle.head_links.specs.Tick.{tick_wait, tick_periodic, tick_watchdog, tick_in, tick_of}
use Rattle.head_links.specs.declared.State.{State}
use Rattle.head_links.specs.declared.State.TheVariants.{Idle, Waiting, Registered}
use Rattle.head_links.specs.declared.Link.{Link}

parts : (a b c d : Bool) → (a && b && c && d) ≡ true → (a ≡ true) × (b ≡ true) × (c ≡ true) × (d ≡ true)
parts a b c d h =
    let p = (and-eq-true_iff (a && b && c) d).0 h in
    let q = (and-eq-true_iff (a && b) c).0 p.0 in
    let r = (and-eq-true_iff a b).0 q.0 in
    (r.0, r.1, q.1, p.1)

-- l in the state s
abbrev at : State → Link → Link
at s l = record { address = l.address; state = s; wait = l.wait; watchdog = l.watchdog; periodic = l.periodic }

-- a quiet tick is quiet for each timer
quiet-parts : (l : Link) → 1 ≤ quiet_of l → (1 ≤ timer_quiet l.wait) × (1 ≤ timer_quiet l.watchdog) × (1 ≤ timer_quiet l.periodic)
unfolding quiet_of
quiet-parts l h = (omega arith, omega arith, omega arith)

-- and passes
passes : (s : State) (l : Link) (port : ℕ) → sound_in s l ≡ true → 1 ≤ quiet_of l → tick_in s (at s l) port ≡ still (passed_of (at s l) 1)
unfolding passed_of tick_wait tick_periodic tick_watchdog
passes Idle l port h q =
    let p = parts (eqb l.address.0 0) (off l.wait) (off l.watchdog) (off l.periodic) h in
    rw (passed-off l.wait 1 p.1, passed-off l.watchdog 1 p.2, passed-off l.periodic 1 p.3)
passes Waiting l port h q =
    let p = parts (is_individual l.address) (runs l.wait wait) (off l.watchdog) (off l.periodic) h in
    let t = quiet-parts l q in
    rw (ticked-quiet l.wait t.0, passed-off l.watchdog 1 p.2, passed-off l.periodic 1 p.3)
passes Registered l port h q =
    let p = parts (is_individual l.address) (off l.wait) (runs l.watchdog watchdog) (runs l.periodic periodic) h in
    let t = quiet-parts l q in
    rw (ticked-quiet l.watchdog t.1, ticked-quiet l.periodic t.2, passed-off l.wait 1 p.1)

pub tick-quiet : (l : Link) (port : ℕ) → sound_of l ≡ true → 1 ≤ quiet_of l → tick_of l port ≡ still (passed_of l 1)
unfolding sound_of
tick-quiet l port h q = passes l.state l port h q

-- k quiet ticks keep it sound
sound-on : (s : State) (l : Link) (k : ℕ) → sound_in s l ≡ true → k ≤ quiet_of l → sound_in s (passed_of l k) ≡ true
unfolding passed_of quiet_of
sound-on Idle l k h q =
    let p = parts (eqb l.address.0 0) (off l.wait) (off l.watchdog) (off l.periodic) h in
    rw (passed-off l.wait k p.1, passed-off l.watchdog k p.2, passed-off l.periodic k p.3) h
sound-on Waiting l k h q =
    let p = parts (is_individual l.address) (runs l.wait wait) (off l.watchdog) (off l.periodic) h in
    rw (p.0, passed-runs l.wait wait k p.1 (omega arith), passed-off l.watchdog k p.2, passed-off l.periodic k p.3, p.2, p.3)
sound-on Registered l k h q =
    let p = parts (is_individual l.address) (off l.wait) (runs l.watchdog watchdog) (runs l.periodic periodic) h in
    rw (
      p.0,
      passed-off l.wait k p.1,
      passed-runs l.watchdog watchdog k p.2 (omega arith),
      passed-runs l.periodic periodic k p.3 (omega arith),
      p.1,
    )

pub passed-sound : (l : Link) (k : ℕ) → sound_of l ≡ true → k ≤ quiet_of l → sound_of (passed_of l k) ≡ true
unfolding sound_of passed_of
passed-sound l k h q = sound-on l.state l k h q

pub passed_none : (l : Link) → passed_of l 0 ≡ l
unfolding passed_of
passed_none l = rw (timer-none l.wait, timer-none l.watchdog, timer-none l.periodic)

pub passed-joins : (l : Link) (k : ℕ) → passed_of (passed_of l 1) k ≡ passed_of l (suc k)
unfolding passed_of
passed-joins l k = rw (passed-joined l.wait k, passed-joined l.watchdog k, passed-joined l.periodic k)

pub quiet-less : (l : Link) → 1 ≤ quiet_of l → quiet_of l ≤ suc (quiet_of (passed_of l 1))
unfolding quiet_of passed_of
quiet-less l h =
    let t = quiet-parts l h in
    let a = quiet-falls l.wait t.0 in
    let b = quiet-falls l.watchdog t.1 in
    let c = quiet-falls l.periodic t.2 in
    omega arith

-- where no quiet tick is left, the next sends a frame
abbrev pub Sends : Option (Address × Body) → Type 0
Sends None = ⊥
Sends (Some (a, body)) = Unit {0}

rings : (t : Timer) → timer_quiet t ≡ 0 → (ticked t).rang ≡ true
rings t h =
    ⊎_elim (λ (k : t.left < 1).
    let e = quiet-off t (omega arith) in
    absurd (omega arith))
    (λ (k : 1 ≤ t.left).
    let e = quiet-on t k in
    ticked-rings t (omega arith))
    (cut t.left 1)

never : (t : Timer) → off t ≡ true → timer_quiet t ≡ furthest_advance
unfolding off
never t h = quiet-off t (eqb-true t.left 0 h)

-- a number whose smaller with the other is 0, where the other isn't
least : (a b : ℕ) → min a b ≡ 0 → (a ≡ 0) ⊎ (1 ≤ a × b ≡ 0)
least a b h = ⊎_elim (λ (k : a < 1). inl (omega arith)) (λ (k : 1 ≤ a). inr (k, omega arith)) (cut a 1)

gate-sends : (l : Link) → l.state ≡ Registered → (ticked l.periodic).rang ≡ true → Sends (tick_periodic l).sent
unfolding tick_periodic gated
gate-sends l e h = rw (h, e) tt

ring-sends : (s : State) (l : Link) (port : ℕ) → sound_in s l ≡ true → quiet_of l ≡ 0 → Sends (tick_in s (at s l) port).sent
unfolding quiet_of tick_wait tick_watchdog
ring-sends Idle l port h q =
    let p = parts (eqb l.address.0 0) (off l.wait) (off l.watchdog) (off l.periodic) h in
    let a = never l.wait p.1 in
    let b = never l.watchdog p.2 in
    let c = never l.periodic p.3 in
    absurd (omega arith)
ring-sends Waiting l port h q =
    let p = parts (is_individual l.address) (runs l.wait wait) (off l.watchdog) (off l.periodic) h in
    let b = never l.watchdog p.2 in
    let c = never l.periodic p.3 in
    rw (rings l.wait (omega arith)) tt
ring-sends Registered l port h q =
    let p = parts (is_individual l.address) (off l.wait) (runs l.watchdog watchdog) (runs l.periodic periodic) h in
    let a = never l.wait p.1 in
    ⊎_elim
    (λ (w : timer_quiet l.watchdog ≡ 0). rw (rings l.watchdog w) tt)
    (λ (w : 1 ≤ timer_quiet l.watchdog × timer_quiet l.periodic ≡ 0).
    rw (ticked-quiet l.watchdog w.0) (gate-sends _ refl (rings l.periodic w.1)))
    (least (timer_quiet l.watchdog) (timer_quiet l.periodic) (omega arith))

pub tick-sends : (l : Link) (port : ℕ) → sound_of l ≡ true → quiet_of l ≡ 0 → Sends (tick_of l port).sent
unfolding sound_of
tick-sends l port h q = ring-sends l.state l port h q
