-- Statement: a discovery GATE restarts no timer of the registration, at the box's whole call (R122, R219).
-- Assumes nothing.
use Rattle.std.specs.Prelude.{ℕ, ◌≡◌, true}
use Rattle.frame.specs.declared.Message.{Message}
use Rattle.box_calls.specs.Hear.{is_discovery, hear_of}
use Rattle.box_calls.specs.declared.FloorBox.{FloorBox}

-- accepted or refused, in any state and with any random number: state, wait, watchdog, report timer, port and sync are what they were
unfoldable pub DiscoveryKeeps : Type 0
DiscoveryKeeps =
    (b : FloorBox) (m : Message) (random : ℕ) → is_discovery m.body ≡ true
    → (hear_of b m random).next.processes.registration ≡ b.processes.registration
