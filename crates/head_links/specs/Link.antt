-- Rules R75, R76, R145: a link is idle, waiting or registered, and runs the timers of its state.
-- Assumes nothing.
use Rattle.std.specs.Prelude.{Bool, true, false}
use Rattle.clock.specs.Numbers.{watchdog, periodic, wait}
use Rattle.clock.specs.Timers.{stopped}
use Rattle.frame.specs.declared.Address.{Address}
use Rattle.head_links.specs.declared.State.{State}
use Rattle.head_links.specs.declared.State.TheVariants.{Idle, Waiting, Registered}
use Rattle.head_links.specs.declared.Link.{Link}

-- R75, R76
abbrev pub idle : Link
idle = record { address = record { 0 = 0 }; state = Idle; wait = stopped; watchdog = stopped; periodic = stopped }

-- R76
abbrev pub waiting_at : Address → Link
waiting_at a = record { address = a; state = Waiting; wait = record { left = wait }; watchdog = stopped; periodic = stopped }

-- R76
abbrev pub registered_at : Address → Link
registered_at a =
    record { address = a; state = Registered; wait = stopped; watchdog = record { left = watchdog }; periodic = record { left = periodic } }

abbrev pub is_held : State → Bool
is_held Idle = false
is_held Waiting = true
is_held Registered = true

abbrev pub is_registered : State → Bool
is_registered Idle = false
is_registered Waiting = false
is_registered Registered = true
