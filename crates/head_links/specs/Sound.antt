-- Rules R75 to R77: a sound link, by itself.
-- Assumes nothing.
use Rattle.std.specs.Prelude.{Bool, ◌&&◌, eqb}
use Rattle.clock.specs.Numbers.{watchdog, periodic, wait}
use Rattle.clock.specs.Timers.{off, runs}
use Rattle.frame_range.specs.Fits.{is_individual}
use Rattle.head_links.specs.declared.State.{State}
use Rattle.head_links.specs.declared.State.TheVariants.{Idle, Waiting, Registered}
use Rattle.head_links.specs.declared.Link.{Link}

abbrev pub sound_in : State → Link → Bool
sound_in Idle l = eqb l.address.0 0 && off l.wait && off l.watchdog && off l.periodic
sound_in Waiting l = is_individual l.address && runs l.wait wait && off l.watchdog && off l.periodic
sound_in Registered l = is_individual l.address && off l.wait && runs l.watchdog watchdog && runs l.periodic periodic

unfoldable pub sound_of : Link → Bool
sound_of l = sound_in l.state l
