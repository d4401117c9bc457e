-- Statement: sums 11 and 12, tick by tick (R215, R216).
-- Assumes nothing.
use Rattle.std.specs.Prelude.{ℕ, ◌+◌, ◌≤◌, ◌≡◌, Bool}
use Rattle.clock.specs.Numbers.{needed}
use Rattle.frame.specs.declared.Body.TheVariants.{Gate}
use Rattle.frame.specs.declared.Grant.{Grant}
use Rattle.frame.specs.declared.Grants.{Grants}
use Rattle.frame.specs.declared.Grants.TheVariants.{One, Two}
use Rattle.frame.specs.declared.Message.{Message}
use Rattle.frame.specs.declared.Reply.TheVariants.{Done}
use Rattle.box_light.specs.Light.{light_in, resting, laser_on_for}
use Rattle.box_light.specs.declared.Phase.TheVariants.{Lit}
use Rattle.box_registration.specs.declared.State.TheVariants.{Registered}
use Rattle.box_telling.specs.declared.Notice.TheVariants.{Open, Close}
use Rattle.box_calls.specs.Hear.{hear_of}
use Rattle.box_calls.specs.declared.FloorBox.{FloorBox}
use Rattle.box_laws.specs.Stated.{Run}
use Rattle.box_laws.specs.Served.{ticks_on, light_at, Lights, Tells}

-- a box that a run reaches, REGISTERED with sync 10, at rest and without a grant, accepts a GATE stamped 1000
pub record Hears (b : FloorBox) (m : Message) (random : ℕ) (grants : Grants) : Type 0 where
  pub reached : Run b
  pub registered : b.processes.registration.state ≡ Registered
  pub sync : b.processes.registration.sync ≡ record { 0 = 10 }
  pub rest : b.processes.light ≡ resting
  pub empty : b.processes.list.number ≡ 0
  pub count : m.timestamp ≡ record { 0 = 1000 }
  pub body : m.body ≡ Gate grants
  pub accepted : (hear_of b m random).reply ≡ Done

abbrev pub grant : ℕ → ℕ → Bool → Grant
grant start length force = record { start = record { 0 = start }; length = record { 0 = length }; force = force }

-- the box after the message, up to 300 ticks on: with the count 1000 + k the laser is on from 1100 until 1268, where it is ordered off,
-- transmission is enabled from 1142, and the notices are open at 1142 and close at 1268
pub record Played (b : FloorBox) : Type 0 where
  pub count : (k : ℕ) → k ≤ 300 → (ticks_on k b).processes.count ≡ record { 0 = 1000 + k }
  pub lights : Lights 100 200 10 b
  pub tells : Tells Open Close 100 200 10 b

-- a grant at 1100 of length 200: at 1300 the transmitter is at rest
unfoldable pub SumEleven : Type 0
SumEleven =
    (b : FloorBox) (m : Message) (random : ℕ) (force : Bool) → Hears b m random (One (grant 1100 200 force))
    → Played (hear_of b m random).next × (light_at 300 (hear_of b m random).next ≡ resting)

-- beside it one at 1300 that serves: lit by the tick that ends the first
unfoldable pub SumTwelve : Type 0
SumTwelve =
    (b : FloorBox) (m : Message) (random length : ℕ) (force other : Bool) → needed 10 ≤ length
    → Hears b m random (Two (grant 1100 200 force) (grant 1300 length other))
    → Played (hear_of b m random).next
    × (light_at 300 (hear_of b m random).next ≡ light_in (Lit (record { 0 = length }) (record { 0 = 10 })) (laser_on_for (record { 0 = 10 })))
