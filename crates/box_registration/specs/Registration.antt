-- Rules R88 to R90, R95, R97, R111, R114, R122, R242: the states of a registration, and what entering one does.
-- Assumes nothing.
use Rattle.std.specs.Prelude.{ℕ, Bool, true, false}
use Rattle.clock.specs.Numbers.{watchdog, periodic, wait}
use Rattle.clock.specs.Timers.{stopped}
use Rattle.clock.specs.declared.Quanta.{Quanta}
use Rattle.box_registration.specs.declared.State.{State}
use Rattle.box_registration.specs.declared.State.TheVariants.{Wait, Registering, RegisterReq, Registered}
use Rattle.box_registration.specs.declared.Registration.{Registration}

-- R88, R95, R97: a state that runs no timer; port and sync stay
abbrev pub entering : State → Registration → Registration
entering s r = record { state = s; wait = stopped; watchdog = stopped; report = stopped; port = r.port; sync = r.sync }

-- R90
abbrev pub fresh : Registration
fresh = record { state = Wait; wait = stopped; watchdog = stopped; report = stopped; port = 0; sync = record { 0 = 0 } }

abbrev pub waiting : Registration → Registration
waiting r = entering Wait r

abbrev pub registering : Registration → Registration
registering r = entering Registering r

-- R111
abbrev pub requesting : Registration → Registration
requesting r = record { state = RegisterReq; wait = record { left = wait }; watchdog = stopped; report = stopped; port = r.port; sync = r.sync }

-- R114
abbrev pub registered : ℕ → Quanta → Registration
registered port sync =
    record {
      state = Registered;
      wait = stopped;
      watchdog = record { left = watchdog };
      report = record { left = periodic };
      port = port;
      sync = sync;
    }

-- R122
abbrev pub heard : Registration → Registration
heard r =
    record { state = r.state; wait = r.wait; watchdog = record { left = watchdog }; report = r.report; port = r.port; sync = r.sync }

-- R242
abbrev pub reported : Registration → Registration
reported r =
    record { state = r.state; wait = r.wait; watchdog = r.watchdog; report = record { left = periodic }; port = r.port; sync = r.sync }

abbrev pub is_waiting : State → Bool
is_waiting Wait = true
is_waiting Registering = false
is_waiting RegisterReq = false
is_waiting Registered = false

abbrev pub is_registered : State → Bool
is_registered Wait = false
is_registered Registering = false
is_registered RegisterReq = false
is_registered Registered = true

abbrev pub is_registering : State → Bool
is_registering Wait = false
is_registering Registering = true
is_registering RegisterReq = false
is_registering Registered = false
