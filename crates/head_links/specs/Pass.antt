-- Rule R193, of one link: ticks at which none of its timers rings take so many from each that runs.
-- Assumes nothing.
use Rattle.std.specs.Prelude.{ℕ, min}
use Rattle.clock.specs.Timers.{passed_of as timer_passed, quiet_of as timer_quiet}
use Rattle.head_links.specs.declared.Link.{Link}

unfoldable pub passed_of : Link → ℕ → Link
passed_of l k =
    record {
      address = l.address;
      state = l.state;
      wait = timer_passed l.wait k;
      watchdog = timer_passed l.watchdog k;
      periodic = timer_passed l.periodic k;
    }

-- the ticks that come before the first ring
unfoldable pub quiet_of : Link → ℕ
quiet_of l = min (timer_quiet l.wait) (min (timer_quiet l.watchdog) (timer_quiet l.periodic))
