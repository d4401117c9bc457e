-- Lemmas: a tick keeps a sound registration sound, and so does a tick that is passed.
-- Assumes nothing.
use Rattle.std.specs.Prelude.{◌≤◌, ◌≡◌, true, leb}
use Rattle.laws.specs.Cases.{either}
use Rattle.clock.specs.Laws.{ticked-runs}
use Rattle.clock.specs.Numbers.{watchdog, periodic}
use Rattle.clock.specs.Timers.{off, runs, ticked}
use Rattle.box_registration.specs.Laws.{parts, sound-parts, at, Keeps, waiting-sound, wait-keeps, report-keeps, tick-quiet}
use Rattle.box_registration.specs.Pass.{passed_of, quiet_of}
use Rattle.box_registration.specs.Sound.{sound_in, sound_of}
use Rattle.box_registration.specs.Tick.{tick_watchdog, tick_in, tick_of}
use Rattle.box_registration.specs.declared.State.{State}
use Rattle.box_registration.specs.declared.State.TheVariants.{Wait, Registering, RegisterReq, Registered}
use Rattle.box_registration.specs.declared.Registration.{Registration}

watchdog-keeps : (r : Registration) → sound_in Registered r ≡ true → leb r.sync.0 65535 ≡ true → Keeps (tick_watchdog (at Registered r))
unfolding tick_watchdog
watchdog-keeps r h s =
    let p = parts (off r.wait) (runs r.watchdog watchdog) (runs r.report periodic) h in
    either Keeps (ticked r.watchdog).rang _ _ (λ _. waiting-sound r s)
    (λ t.
    report-keeps (record { state = Registered; wait = r.wait; watchdog = (ticked r.watchdog).timer; report = r.report; port = r.port; sync = r.sync })
    (rw (p.0, ticked-runs r.watchdog watchdog p.1 t, p.2)) s)

keeps : (s : State) (r : Registration) → sound_in s r ≡ true → leb r.sync.0 65535 ≡ true → Keeps (tick_in s (at s r))
unfolding sound_of
keeps Wait r h s = rw (h, s)
keeps Registering r h s = rw (h, s)
keeps RegisterReq r h s = wait-keeps r h s
keeps Registered r h s = watchdog-keeps r h s

pub tick-keeps : (r : Registration) → sound_of r ≡ true → sound_of (tick_of r).registration ≡ true
tick-keeps r h =
    let p = sound-parts r h in
    keeps r.state r p.0 p.1

pub passed-sound : (r : Registration) → sound_of r ≡ true → 1 ≤ quiet_of r → sound_of (passed_of r 1) ≡ true
passed-sound r h q = rw (tick-quiet r h q) at (tick-keeps r h)
