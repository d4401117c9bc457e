-- Statement: a discovery GATE that acts: its light begins behind the random wait and lies inside the grant (R106 to R112, R245).
-- Assumes nothing.
use Rattle.std.specs.Prelude.{ℕ, ◌+◌, ◌≤◌, ◌≡◌, Bool, true, eqb, pos}
use Rattle.clock.specs.Counts.{distance}
use Rattle.clock.specs.Numbers.{furthest, needed, serves}
use Rattle.clock.specs.declared.Quanta.{Quanta}
use Rattle.frame.specs.declared.Body.TheVariants.{Discovery}
use Rattle.frame.specs.declared.Grant.{Grant}
use Rattle.frame.specs.declared.Message.{Message}
use Rattle.frame.specs.declared.Reply.TheVariants.{Done}
use Rattle.box_light.specs.Light.{resting}
use Rattle.box_registration.specs.declared.State.TheVariants.{Registering}
use Rattle.box_telling.specs.declared.Notice.TheVariants.{Nothing, Window}
use Rattle.box_hearing.specs.Discovery.{random_for}
use Rattle.box_calls.specs.Hear.{hear_of}
use Rattle.box_calls.specs.declared.FloorBox.{FloorBox}
use Rattle.box_laws.specs.Served.{light_at, Lights, Tells}
use Rattle.box_laws.specs.Stated.{Run}

-- a box that a run reaches, REGISTERING and at rest, accepts a discovery GATE that starts in d ticks and serves
pub record Called (d : ℕ) (b : FloorBox) (m : Message) (random : ℕ) (grant : Grant) (sync : Quanta) : Type 0 where
  pub reached : Run b
  pub registering : b.processes.registration.state ≡ Registering
  pub rest : b.processes.light ≡ resting
  pub body : m.body ≡ Discovery grant sync
  pub start : distance m.timestamp.0 grant.start.0 ≡ pos d
  pub near : d ≤ furthest
  pub long : serves sync.0 grant.length.0 ≡ true
  pub accepted : (hear_of b m random).reply ≡ Done

-- d ticks on it is lit as a grant of just the needed length, tells that its window is open and nothing else, and is at rest
pub record Asks (d sync : ℕ) (b : FloorBox) : Type 0 where
  pub lights : Lights d (needed sync) sync b
  pub tells : Tells Window Nothing d (needed sync) sync b
  pub ends : light_at (d + needed sync) b ≡ resting

-- behind the start and the random wait
unfoldable pub WindowServed : Type 0
WindowServed =
    (d : ℕ) (b : FloorBox) (m : Message) (random : ℕ) (grant : Grant) (sync : Quanta) → Called d b m random grant sync
    → Asks (d + (random_for (eqb m.destination.0 b.address.0) random grant.length sync).0) sync.0 (hear_of b m random).next

-- and that within the grant: the random wait leaves it what it needs
unfoldable pub WaitInside : Type 0
WaitInside =
    (own : Bool) (random : ℕ) (length sync : Quanta) → serves sync.0 length.0 ≡ true
    → (random_for own random length sync).0 + needed sync.0 ≤ length.0
