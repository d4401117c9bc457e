-- Rules R108 to R112, R129 to R134, R245: what follows in the transmitter when its timer has rung.
-- Assumes nothing.
use Rattle.std.specs.Prelude.{cond}
use Rattle.clock.specs.Numbers.{quanta_of}
use Rattle.clock.specs.Timers.{ticked}
use Rattle.box_light.specs.Light.{light_in, resting, fading, laser_on_for, open_for, randomly}
use Rattle.box_light.specs.declared.Light.{Light}
use Rattle.box_light.specs.declared.Phase.{Phase}
use Rattle.box_light.specs.declared.Phase.TheVariants.{Rest, Before, Random, Warming, Asking, Due, Lit, Open, Fading}
use Rattle.box_light.specs.declared.LightTicked.{LightTicked}
use Rattle.box_light.specs.declared.Beam.TheVariants.{Quiet, Window, Start, Opened, Closed}

abbrev pub after : Phase → LightTicked
after Rest = record { light = resting; beam = Quiet }
-- R108
after (Before random sync) = record { light = randomly random sync; beam = Quiet }
-- R110: the laser goes on
after (Random sync) = record { light = light_in Warming (laser_on_for sync); beam = Quiet }
-- R110, R111: transmission is enabled
after Warming = record { light = light_in Asking (record { left = quanta_of 60 }); beam = Window }
-- R112: the laser is ordered off
after Asking = record { light = fading; beam = Quiet }
-- R132
after (Due entry sync) = record { light = resting; beam = Start entry sync }
-- R133: open
after (Lit length sync) = record { light = light_in Open (open_for length sync); beam = Opened }
-- R133, R134: close, and the laser is ordered off
after Open = record { light = fading; beam = Closed }
-- R245
after Fading = record { light = resting; beam = Quiet }

unfoldable pub tick_of : Light → LightTicked
tick_of l =
    let t = ticked l.timer in
    cond t.rang (after l.phase) (record { light = light_in l.phase t.timer; beam = Quiet })
