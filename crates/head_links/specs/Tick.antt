-- Rules R189, R190: a tick of one link.
-- Assumes nothing.
use Rattle.std.specs.Prelude.{ℕ, cond}
use Rattle.clock.specs.Timers.{ticked}
use Rattle.clock.specs.declared.Timer.{Timer}
use Rattle.frame.specs.declared.Grants.TheVariants.{None}
use Rattle.head_links.specs.Steps.{with_watchdog, with_periodic, still, deregistered, gated}
use Rattle.head_links.specs.declared.State.{State}
use Rattle.head_links.specs.declared.State.TheVariants.{Idle, Waiting, Registered}
use Rattle.head_links.specs.declared.Link.{Link}
use Rattle.head_links.specs.declared.Stepped.{Stepped}

abbrev with_wait : Link → Timer → Link
with_wait l t = record { address = l.address; state = l.state; wait = t; watchdog = l.watchdog; periodic = l.periodic }

unfoldable pub tick_wait : Link → ℕ → Stepped
tick_wait l port =
    let t = ticked l.wait in
    cond t.rang (deregistered l port) (still (with_wait l t.timer))

unfoldable pub tick_periodic : Link → Stepped
tick_periodic l =
    let t = ticked l.periodic in
    cond t.rang (gated l None) (still (with_periodic l t.timer))

unfoldable pub tick_watchdog : Link → ℕ → Stepped
tick_watchdog l port =
    let t = ticked l.watchdog in
    cond t.rang (deregistered l port) (tick_periodic (with_watchdog l t.timer))

abbrev pub tick_in : State → Link → ℕ → Stepped
tick_in Idle l port = still l
tick_in Waiting l port = tick_wait l port
tick_in Registered l port = tick_watchdog l port

abbrev pub tick_of : Link → ℕ → Stepped
tick_of l port = tick_in l.state l port
