-- Rules R120, R136 to R138: a tick of the registration, its own timer first, then the report timer.
-- Assumes nothing.
use Rattle.std.specs.Prelude.{cond}
use Rattle.clock.specs.Numbers.{periodic}
use Rattle.clock.specs.Timers.{ticked}
use Rattle.clock.specs.declared.Timer.{Timer}
use Rattle.box_registration.specs.Registration.{waiting, registering}
use Rattle.box_registration.specs.declared.State.{State}
use Rattle.box_registration.specs.declared.State.TheVariants.{Wait, Registering, RegisterReq, Registered}
use Rattle.box_registration.specs.declared.Registration.{Registration}
use Rattle.box_registration.specs.declared.Ticked.{Ticked}
use Rattle.box_registration.specs.declared.Bell.TheVariants.{Quiet, Retry, Lost, Report}

abbrev with_wait : Registration → Timer → Registration
with_wait r t = record { state = r.state; wait = t; watchdog = r.watchdog; report = r.report; port = r.port; sync = r.sync }

abbrev with_watchdog : Registration → Timer → Registration
with_watchdog r t = record { state = r.state; wait = r.wait; watchdog = t; report = r.report; port = r.port; sync = r.sync }

abbrev with_report : Registration → Timer → Registration
with_report r t = record { state = r.state; wait = r.wait; watchdog = r.watchdog; report = t; port = r.port; sync = r.sync }

-- R120
unfoldable pub tick_wait : Registration → Ticked
tick_wait r =
    let t = ticked r.wait in
    cond t.rang (record { registration = registering r; bell = Retry }) (record { registration = with_wait r t.timer; bell = Quiet })

-- R138
unfoldable pub tick_report : Registration → Ticked
tick_report r =
    let t = ticked r.report in
    cond t.rang
    (record { registration = with_report r (record { left = periodic }); bell = Report })
    (record { registration = with_report r t.timer; bell = Quiet })

-- R137: the watchdog leads to WAIT; else the report timer has its turn
unfoldable pub tick_watchdog : Registration → Ticked
tick_watchdog r =
    let t = ticked r.watchdog in
    cond t.rang (record { registration = waiting r; bell = Lost }) (tick_report (with_watchdog r t.timer))

abbrev pub tick_in : State → Registration → Ticked
tick_in Wait r = record { registration = r; bell = Quiet }
tick_in Registering r = record { registration = r; bell = Quiet }
tick_in RegisterReq r = tick_wait r
tick_in Registered r = tick_watchdog r

abbrev pub tick_of : Registration → Ticked
tick_of r = tick_in r.state r
