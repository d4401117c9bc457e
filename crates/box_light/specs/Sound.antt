-- Rules R81 to R83, R85 to R87: a sound transmitter.
-- Assumes nothing.
use Rattle.std.specs.Prelude.{ℕ, ◌+◌, ◌-◌, ◌^◌, Bool, ◌&&◌, nat_le}
use Rattle.clock.specs.Numbers.{laser_on, laser_off, furthest, most, fits, quanta_of, needed}
use Rattle.clock.specs.Timers.{off, runs}
use Rattle.clock.specs.declared.Quanta.{Quanta}
use Rattle.clock.specs.declared.Timer.{Timer}
use Rattle.box_grants.specs.Activation.{holds}
use Rattle.box_grants.specs.Listed.{list_of}
use Rattle.box_grants.specs.declared.GrantList.{GrantList}
use Rattle.box_light.specs.Light.{laser_on_for}
use Rattle.box_light.specs.declared.Light.{Light}
use Rattle.box_light.specs.declared.Phase.{Phase}
use Rattle.box_light.specs.declared.Phase.TheVariants.{Rest, Before, Random, Warming, Asking, Due, Lit, Open, Fading}

-- R83: a random wait that a grant can hold beside what it needs
unfoldable pub wait_fits : ℕ → Quanta → Bool
wait_fits n sync = nat_le (needed sync.0 + n) most

-- R86, R87: a grant in range that serves
unfoldable pub served : Quanta → Quanta → Bool
served length sync = nat_le (needed sync.0) length.0 && fits length

-- R82, R83, R85, R86: a phase's timer, and the grant that it is about; R81: at rest none runs
abbrev pub sound_in : Phase → Timer → GrantList → Bool
sound_in Rest t s = off t
sound_in (Before random sync) t s = runs t furthest && wait_fits random.0 sync
sound_in (Random sync) t s = runs t most && wait_fits t.left sync
sound_in Warming t s = runs t (most - quanta_of 60 - laser_off)
sound_in Asking t s = runs t (quanta_of 60)
sound_in (Due entry sync) t s = runs t (2 ^ 31 - 1) && holds entry (list_of s) && served entry.length sync
sound_in (Lit length sync) t s = runs t (laser_on_for sync).left && served length sync
sound_in Open t s = runs t (most - laser_on - laser_off)
sound_in Fading t s = runs t laser_off

abbrev pub sound_of : Light → GrantList → Bool
sound_of l s = sound_in l.phase l.timer s
