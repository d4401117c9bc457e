-- `box_light::Light::wait_fits` meets its promise.
-- Assumes nothing.
use Rattle.box_light.specs.Sound.{wait_fits}
use Rattle.box_light.proofs.Light.wait_fits.Goals as goal

pub returns : goal.returns
unfolding wait_fits
returns c = rw (c.from-2.ensures, c.from.ensures, c.needed.ensures)
