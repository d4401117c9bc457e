-- Rule R193, of the registration: ticks at which none of its timers rings take so many from each that runs.
-- Assumes nothing.
use Rattle.std.specs.Prelude.{ℕ, min}
use Rattle.clock.specs.Timers.{passed_of as timer_passed, quiet_of as timer_quiet}
use Rattle.box_registration.specs.declared.Registration.{Registration}

unfoldable pub passed_of : Registration → ℕ → Registration
passed_of r k =
    record {
      state = r.state;
      wait = timer_passed r.wait k;
      watchdog = timer_passed r.watchdog k;
      report = timer_passed r.report k;
      port = r.port;
      sync = r.sync;
    }

-- the ticks that come before the first ring
unfoldable pub quiet_of : Registration → ℕ
quiet_of r = min (timer_quiet r.wait) (min (timer_quiet r.watchdog) (timer_quiet r.report))
