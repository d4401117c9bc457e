-- Rules R108 to R112, R129 to R135, R143, R245: the phases of the transmitter, and their timers.
-- Assumes nothing.
use Rattle.std.specs.Prelude.{ℕ, ◌+◌, ◌-◌, ◌%◌, ◌^◌, Bool, true, false, cond, ◌==◌}
use Rattle.clock.specs.Numbers.{laser_on, laser_off}
use Rattle.clock.specs.Timers.{stopped}
use Rattle.clock.specs.declared.Quanta.{Quanta}
use Rattle.clock.specs.declared.Timer.{Timer}
use Rattle.box_light.specs.declared.Light.{Light}
use Rattle.box_light.specs.declared.Phase.{Phase}
use Rattle.box_light.specs.declared.Phase.TheVariants.{Rest, Before, Random, Warming, Asking, Due, Lit, Open, Fading}

abbrev pub light_in : Phase → Timer → Light
light_in p t = record { phase = p; timer = t }

abbrev pub resting : Light
resting = light_in Rest stopped

-- R245
abbrev pub fading : Light
fading = light_in Fading (record { left = laser_off })

-- R110, R133: the time before transmission; a sync time in range does not wrap
unfoldable pub laser_on_for : Quanta → Timer
laser_on_for sync = record { left = (laser_on + sync.0) % 2 ^ 32 }

-- R133: the time of transmission, which ends before the length does
unfoldable pub open_for : Quanta → Quanta → Timer
open_for length sync = record { left = length.0 - (laser_on + sync.0 + laser_off) }

-- R108
unfoldable pub randomly : Quanta → Quanta → Light
randomly random sync =
    cond (random.0 == 0) (light_in Warming (laser_on_for sync)) (light_in (Random sync) (record { left = random.0 }))

abbrev pub rests : Phase → Bool
rests Rest = true
rests (Before random sync) = false
rests (Random sync) = false
rests Warming = false
rests Asking = false
rests (Due entry sync) = false
rests (Lit length sync) = false
rests Open = false
rests Fading = false

abbrev pub is_at_rest : Light → Bool
is_at_rest l = rests l.phase

-- R135: the laser is ordered on
abbrev pub shines : Phase → Bool
shines Rest = false
shines (Before random sync) = false
shines (Random sync) = false
shines Warming = true
shines Asking = true
shines (Due entry sync) = false
shines (Lit length sync) = true
shines Open = true
shines Fading = false

abbrev pub is_on : Light → Bool
is_on l = shines l.phase

-- R245: there is light, also while it goes dark
abbrev pub glows : Phase → Bool
glows Rest = false
glows (Before random sync) = false
glows (Random sync) = false
glows Warming = true
glows Asking = true
glows (Due entry sync) = false
glows (Lit length sync) = true
glows Open = true
glows Fading = true

abbrev pub is_lit : Light → Bool
is_lit l = glows l.phase

-- R111, R133: transmission is enabled
abbrev pub sends : Phase → Bool
sends Rest = false
sends (Before random sync) = false
sends (Random sync) = false
sends Warming = false
sends Asking = true
sends (Due entry sync) = false
sends (Lit length sync) = false
sends Open = true
sends Fading = false

-- R143: the ticks that are left to it
abbrev pub remaining : Light → ℕ
remaining l = cond (sends l.phase) l.timer.left 0
