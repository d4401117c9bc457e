-- Rules R81, R82, R87: a sound registration.
-- Assumes nothing.
use Rattle.std.specs.Prelude.{Bool, ◌&&◌}
use Rattle.clock.specs.Numbers.{watchdog, periodic, wait, fits}
use Rattle.clock.specs.Timers.{off, runs}
use Rattle.box_registration.specs.declared.State.{State}
use Rattle.box_registration.specs.declared.State.TheVariants.{Wait, Registering, RegisterReq, Registered}
use Rattle.box_registration.specs.declared.Registration.{Registration}

abbrev pub sound_in : State → Registration → Bool
sound_in Wait r = off r.wait && off r.watchdog && off r.report
sound_in Registering r = off r.wait && off r.watchdog && off r.report
sound_in RegisterReq r = runs r.wait wait && off r.watchdog && off r.report
sound_in Registered r = off r.wait && runs r.watchdog watchdog && runs r.report periodic

unfoldable pub sound_of : Registration → Bool
sound_of r = sound_in r.state r && fits r.sync
