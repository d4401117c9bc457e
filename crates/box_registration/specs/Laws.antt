-- Lemmas: soundness of a registration: a fresh one is sound, each state is entered soundly, and a tick keeps it. And the laws of a jump.
-- Assumes nothing.
use Rattle.std.specs.Prelude.{ℕ, suc, ◌≤◌, ◌≡◌, refl, Bool, true, ◌&&◌, leb}
use Rattle.std.proofs.Common.{arith}
use Rattle.std.proofs.lemmas.Bool.{false≢true}
use Rattle.std.proofs.Math.Bool.{and-eq-true_iff}
use Rattle.laws.specs.Cases.{either}
use Rattle.clock.specs.Laws.{ticked-runs, ticked-quiet, passed-off, passed-joined, quiet-falls}
use Rattle.clock.specs.Numbers.{watchdog, periodic, wait}
use Rattle.clock.specs.Timers.{off, runs, ticked, quiet_of as timer_quiet}
use Rattle.clock.specs.declared.Quanta.{Quanta}
use Rattle.box_registration.specs.Registration.{fresh, waiting, registering, requesting, registered, heard, reported, is_registered}
use Rattle.box_registration.specs.Pass.{passed_of, quiet_of}
use Rattle.box_registration.specs.Sound.{sound_in, sound_of}
use Rattle.box_registration.specs.Tick.{tick_wait, tick_report, tick_watchdog, tick_in, tick_of}
use Rattle.box_registration.specs.declared.State.{State}
use Rattle.box_registration.specs.declared.State.TheVariants.{Wait, Registering, RegisterReq, Registered}
use Rattle.box_registration.specs.declared.Registration.{Registration}
use Rattle.box_registration.specs.declared.Bell.TheVariants.{Quiet}
use Rattle.box_registration.specs.declared.Ticked.{Ticked}

pub fresh-sound : sound_of fresh ≡ true
unfolding sound_of off
fresh-sound = refl

pub waiting-sound : (r : Registration) → leb r.sync.0 65535 ≡ true → sound_of (waiting r) ≡ true
unfolding sound_of off
waiting-sound r s = s

pub registering-sound : (r : Registration) → leb r.sync.0 65535 ≡ true → sound_of (registering r) ≡ true
unfolding sound_of off
registering-sound r s = s

pub requesting-sound : (r : Registration) → leb r.sync.0 65535 ≡ true → sound_of (requesting r) ≡ true
unfolding sound_of off runs
requesting-sound r s = s

pub registered-sound : (port : ℕ) (sync : Quanta) → leb sync.0 65535 ≡ true → sound_of (registered port sync) ≡ true
unfolding sound_of off runs
registered-sound port sync s = s

-- what a sound registration has, and its timers one by one
pub sound-parts : (r : Registration) → sound_of r ≡ true → (sound_in r.state r ≡ true) × (leb r.sync.0 65535 ≡ true)
unfolding sound_of
sound-parts r h = (and-eq-true_iff (sound_in r.state r) (leb r.sync.0 65535)).0 h

pub sync-fits : (r : Registration) → sound_of r ≡ true → leb r.sync.0 65535 ≡ true
sync-fits r h = (sound-parts r h).1

pub parts : (a b c : Bool) → (a && b && c) ≡ true → (a ≡ true) × (b ≡ true) × (c ≡ true)
parts a b c h =
    let p = (and-eq-true_iff (a && b) c).0 h in
    let q = (and-eq-true_iff a b).0 p.0 in
    (q.0, q.1, p.1)

whole : {a b c d : Bool} → a ≡ true → b ≡ true → c ≡ true → d ≡ true → (a && b && c && d) ≡ true
whole p q r s = rw (p, q, r, s)

-- r in the state s
abbrev pub at : State → Registration → Registration
at s r = record { state = s; wait = r.wait; watchdog = r.watchdog; report = r.report; port = r.port; sync = r.sync }

abbrev pub Keeps : Ticked → Type 0
Keeps t = sound_of t.registration ≡ true

pub wait-keeps : (r : Registration) → sound_in RegisterReq r ≡ true → leb r.sync.0 65535 ≡ true → Keeps (tick_wait (at RegisterReq r))
unfolding sound_of tick_wait
wait-keeps r h s =
    let p = parts (runs r.wait wait) (off r.watchdog) (off r.report) h in
    either Keeps (ticked r.wait).rang _ _ (λ _. registering-sound r s)
    (λ t. whole (ticked-runs r.wait wait p.0 t) p.1 p.2 s)

pub report-keeps : (r : Registration) → sound_in Registered r ≡ true → leb r.sync.0 65535 ≡ true → Keeps (tick_report (at Registered r))
unfolding sound_of tick_report runs
report-keeps r h s =
    let p = parts (off r.wait) (runs r.watchdog watchdog) (runs r.report periodic) h in
    either Keeps (ticked r.report).rang _ _ (λ _. whole p.0 p.1 refl s)
    (λ t. whole p.0 p.1 (ticked-runs r.report periodic p.2 t) s)

-- in REGISTERED watchdog and report timer may be other ones that run
renewed-in : (s : State) (r t : Registration) → is_registered s ≡ true → sound_in s r ≡ true
    → (runs r.watchdog watchdog ≡ true → runs r.report periodic ≡ true
    → (t.wait ≡ r.wait) × (runs t.watchdog watchdog ≡ true) × (runs t.report periodic ≡ true))
    → sound_in s t ≡ true
renewed-in Wait r t i h f = absurd (false≢true i)
renewed-in Registering r t i h f = absurd (false≢true i)
renewed-in RegisterReq r t i h f = absurd (false≢true i)
renewed-in Registered r t i h f =
    let p = parts (off r.wait) (runs r.watchdog watchdog) (runs r.report periodic) h in
    let n = f p.1 p.2 in
    rw (n.0, p.0, n.1, n.2)

-- so a normal GATE keeps it sound, and a REPORT that is asked for
pub heard-keeps : (r : Registration) → is_registered r.state ≡ true → sound_of r ≡ true → sound_of (heard r) ≡ true
unfolding sound_of runs
heard-keeps r i h =
    let p = sound-parts r h in
    rw (renewed-in r.state r (heard r) i p.0 (λ d n. (refl, refl, n)), p.1)

pub reported-keeps : (r : Registration) → is_registered r.state ≡ true → sound_of r ≡ true → sound_of (reported r) ≡ true
unfolding sound_of runs
reported-keeps r i h =
    let p = sound-parts r h in
    rw (renewed-in r.state r (reported r) i p.0 (λ d n. (refl, d, refl)), p.1)

-- a quiet tick is quiet for each timer
quiet-parts : (r : Registration) → 1 ≤ quiet_of r
    → (1 ≤ timer_quiet r.wait) × (1 ≤ timer_quiet r.watchdog) × (1 ≤ timer_quiet r.report)
unfolding quiet_of
quiet-parts r h = (omega arith, omega arith, omega arith)

-- and passes: no timer rings, and those that the state does not run are stopped
passes : (s : State) (r : Registration) → sound_in s r ≡ true → 1 ≤ quiet_of r
    → tick_in s (at s r) ≡ record { registration = passed_of (at s r) 1; bell = Quiet }
unfolding passed_of tick_wait tick_report tick_watchdog
passes Wait r h q =
    let p = parts (off r.wait) (off r.watchdog) (off r.report) h in
    rw (passed-off r.wait 1 p.0, passed-off r.watchdog 1 p.1, passed-off r.report 1 p.2)
passes Registering r h q =
    let p = parts (off r.wait) (off r.watchdog) (off r.report) h in
    rw (passed-off r.wait 1 p.0, passed-off r.watchdog 1 p.1, passed-off r.report 1 p.2)
passes RegisterReq r h q =
    let p = parts (runs r.wait wait) (off r.watchdog) (off r.report) h in
    let t = quiet-parts r q in
    rw (ticked-quiet r.wait t.0, passed-off r.watchdog 1 p.1, passed-off r.report 1 p.2)
passes Registered r h q =
    let p = parts (off r.wait) (runs r.watchdog watchdog) (runs r.report periodic) h in
    let t = quiet-parts r q in
    rw (ticked-quiet r.watchdog t.1, ticked-quiet r.report t.2, passed-off r.wait 1 p.0)

pub tick-quiet : (r : Registration) → sound_of r ≡ true → 1 ≤ quiet_of r → tick_of r ≡ record { registration = passed_of r 1; bell = Quiet }
tick-quiet r h q = passes r.state r (sound-parts r h).0 q

pub passed-joins : (r : Registration) (k : ℕ) → passed_of (passed_of r 1) k ≡ passed_of r (suc k)
unfolding passed_of
passed-joins r k = rw (passed-joined r.wait k, passed-joined r.watchdog k, passed-joined r.report k)

pub passed-state : (r : Registration) (k : ℕ) → (passed_of r k).state ≡ r.state
unfolding passed_of
passed-state r k = refl

pub quiet-less : (r : Registration) → 1 ≤ quiet_of r → quiet_of r ≤ suc (quiet_of (passed_of r 1))
unfolding quiet_of passed_of
quiet-less r h =
    let t = quiet-parts r h in
    let a = quiet-falls r.wait t.0 in
    let b = quiet-falls r.watchdog t.1 in
    let c = quiet-falls r.report t.2 in
    omega arith
