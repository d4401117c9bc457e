-- `box_light::Light::laser_on` meets its promise.
-- Assumes nothing.
use Rattle.box_light.specs.Light.{laser_on_for}
use Rattle.box_light.proofs.Light.laser_on.Goals as goal

pub returns : goal.returns
unfolding laser_on_for
returns c = rw c.start.ensures
