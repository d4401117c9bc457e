-- Statement: the laser serves a grant: on at its start, with transmission enabled once it has settled, ordered off before the end, dark at it
-- (R129 to R135, R245).
-- Assumes nothing.
use Rattle.std.specs.Prelude.{ℕ, zero, suc, ◌+◌, ◌-◌, ◌≤◌, ◌<◌, ◌≡◌, true, false, [], ◌∷◌, ◌≢◌, pos}
use Rattle.clock.specs.Counts.{distance}
use Rattle.clock.specs.Numbers.{laser_on, laser_off, needed}
use Rattle.clock.specs.declared.Quanta.{Quanta}
use Rattle.box_grants.specs.Activation.{remove}
use Rattle.box_grants.specs.Listed.{list_of}
use Rattle.clock.specs.declared.Span.{Span}
use Rattle.box_light.specs.Light.{light_in, resting, laser_on_for, is_on, is_lit, remaining}
use Rattle.box_light.specs.declared.Light.{Light}
use Rattle.box_light.specs.declared.Phase.TheVariants.{Due, Lit}
use Rattle.box_telling.specs.Told.{no_notices, notices_of}
use Rattle.box_telling.specs.declared.Notice.{Notice}
use Rattle.box_telling.specs.declared.Notice.TheVariants.{Open, Close}
use Rattle.box_telling.specs.declared.Notices.{Notices}
use Rattle.box_calls.specs.Box.{tick_of}
use Rattle.box_calls.specs.declared.FloorBox.{FloorBox}
use Rattle.box_laws.specs.Stated.{Run}

-- k ticks of a box, one after the other
abbrev pub ticks_on : ℕ → FloorBox → FloorBox
ticks_on zero b = b
ticks_on (suc k) b = ticks_on k (tick_of b).next

abbrev pub light_at : ℕ → FloorBox → Light
light_at k b = (ticks_on k b).processes.light

-- d ticks dark; then on, but for the last 32 of n, with transmission enabled for all of that but the first 32 + sync; then it goes dark
pub record Lights (d n sync : ℕ) (b : FloorBox) : Type 0 where
  pub dark : (k : ℕ) → k < d → is_lit (light_at k b) ≡ false
  pub on : (k : ℕ) → d ≤ k → k < d + n - laser_off → is_on (light_at k b) ≡ true
  pub settles : (k : ℕ) → k < d + (laser_on + sync) → remaining (light_at k b) ≡ 0
  pub sends : (k : ℕ) → d + (laser_on + sync) ≤ k → k < d + n - laser_off → remaining (light_at k b) ≡ d + n - laser_off - k
  pub fades : (k : ℕ) → d + n - laser_off ≤ k → k < d + n
      → (is_on (light_at k b) ≡ false) × (is_lit (light_at k b) ≡ true) × (remaining (light_at k b) ≡ 0)

-- what the tick behind k others tells
abbrev pub told_at : ℕ → FloorBox → Notices
told_at k b = (tick_of (ticks_on k b)).notices

-- the tick that enables transmission tells the one notice, the tick that ends it the other, and the rest up to the end nothing
pub record Tells (begun ended : Notice) (d n sync : ℕ) (b : FloorBox) : Type 0 where
  pub opens : (k : ℕ) → suc k ≡ d + (laser_on + sync) → told_at k b ≡ notices_of (begun ∷ [])
  pub closes : (k : ℕ) → suc k ≡ d + n - laser_off → told_at k b ≡ notices_of (ended ∷ [])
  pub silent : (k : ℕ) → k < d + n → suc k ≢ d + (laser_on + sync) → suc k ≢ d + n - laser_off → told_at k b ≡ no_notices

-- a box that waits d ticks for the grant e, and whose watchdog lasts to its end
pub record Waits (d : ℕ) (e : Span) (sync : Quanta) (b : FloorBox) : Type 0 where
  pub reached : Run b
  pub due : b.processes.light ≡ light_in (Due e sync) (record { left = d })
  pub lasts : d + e.length.0 < b.processes.registration.watchdog.left

module _ (d : ℕ) (e : Span) (sync : Quanta) (b : FloorBox) where
  pub record Serves : Type 0 where
    -- whatever else it holds
    pub lights : Lights d e.length.0 sync.0 b
    pub tells : Tells Open Close d e.length.0 sync.0 b
    -- where it ends it is dark if the box holds no other
    pub ends : remove e (list_of b.processes.list) ≡ [] → light_at (d + e.length.0) b ≡ resting
    -- and if it holds one other, which starts there, that one is lit in the same call
    pub next : (x : Span) → remove e (list_of b.processes.list) ≡ x ∷ []
        → distance (ticks_on (d + e.length.0) b).processes.count.0 x.start.0 ≡ pos 0
        → needed b.processes.registration.sync.0 ≤ x.length.0
        → light_at (d + e.length.0) b ≡ light_in (Lit x.length b.processes.registration.sync) (laser_on_for b.processes.registration.sync)

unfoldable pub GrantServed : Type 0
GrantServed = (d : ℕ) (e : Span) (sync : Quanta) (b : FloorBox) → Waits d e sync b → Serves d e sync b
