-- `box_light::Light::served` meets its promise.
-- Assumes nothing.
use Rattle.box_light.specs.Sound.{served}
use Rattle.box_light.proofs.Light.served.Goals as goal

pub returns : goal.returns
unfolding served
returns c = rw (c.fits.ensures, c.from.ensures, c.needed.ensures)
