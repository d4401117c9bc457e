-- Rules R162, R168, R169, R171, R175, R181, R185: what each change makes of a link, and the frame that it sends. Its port is its number.
-- Assumes nothing.
use Rattle.std.specs.Prelude.{None, Some, ℕ, cond}
use Rattle.clock.specs.Numbers.{watchdog, periodic}
use Rattle.clock.specs.declared.Quanta.{Quanta}
use Rattle.clock.specs.declared.Timer.{Timer}
use Rattle.frame.specs.declared.Address.{Address}
use Rattle.frame.specs.declared.Body.TheVariants.{Gate, Register}
use Rattle.frame.specs.declared.Grants.{Grants}
use Rattle.frame.specs.declared.Grants.TheVariants.{None}
use Rattle.frame.specs.declared.RegisterFlag.{RegisterFlag}
use Rattle.head_links.specs.Link.{idle, waiting_at, registered_at, is_registered}
use Rattle.head_links.specs.declared.Link.{Link}
use Rattle.head_links.specs.declared.Change.{Change}
use Rattle.head_links.specs.declared.Stepped.{Stepped}

abbrev pub with_watchdog : Link → Timer → Link
with_watchdog l t = record { address = l.address; state = l.state; wait = l.wait; watchdog = t; periodic = l.periodic }

abbrev pub with_periodic : Link → Timer → Link
with_periodic l t = record { address = l.address; state = l.state; wait = l.wait; watchdog = l.watchdog; periodic = t }

abbrev pub still : Link → Stepped
still l = record { link = l; sent = None }

-- R162
abbrev pub admitted : Address → ℕ → ℕ → Quanta → Stepped
admitted a port pending sync = record { link = waiting_at a; sent = Some (a, Register port RegisterFlag.Ack sync pending) }

-- R168
abbrev pub reregistered : Link → ℕ → Quanta → Stepped
reregistered l port sync =
    record { link = waiting_at l.address; sent = Some (l.address, Register port RegisterFlag.Reregister sync 0) }

-- R169
abbrev pub deregistered : Link → ℕ → Stepped
deregistered l port =
    record { link = idle; sent = Some (l.address, Register port RegisterFlag.Deregister (record { 0 = 0 }) 0) }

-- R171, R175
unfoldable pub gated : Link → Grants → Stepped
gated l grants =
    cond (is_registered l.state)
    (record { link = with_periodic l (record { left = periodic }); sent = Some (l.address, Gate grants) })
    (record { link = l; sent = Some (l.address, Gate grants) })

-- R181
abbrev pub registered : Link → Stepped
registered l = record { link = registered_at l.address; sent = Some (l.address, Gate None) }

-- R185
abbrev pub reported : Link → Stepped
reported l = still (with_watchdog l (record { left = watchdog }))

abbrev pub change_of : Change → Link → ℕ → Stepped
change_of (Change.Admit a pending sync) l port = admitted a port pending sync
change_of (Change.Reregister sync) l port = reregistered l port sync
change_of Change.Deregister l port = deregistered l port
change_of (Change.Gate grants) l port = gated l grants
change_of Change.Register l port = registered l
change_of Change.Report l port = reported l
