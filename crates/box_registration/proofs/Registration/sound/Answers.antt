-- `box_registration::Registration::sound` meets its promise.
-- Assumes nothing.
use Rattle.box_registration.specs.Sound.{sound_of}
use Rattle.box_registration.proofs.Registration.sound.Goals as goal

pub returns : goal.returns
unfolding sound_of
returns c = rw (c.fits.ensures, c.timed.ensures)
