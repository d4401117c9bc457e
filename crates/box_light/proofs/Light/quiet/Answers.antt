-- `box_light::Light::quiet` meets its promise.
-- Assumes nothing.
use Rattle.box_light.specs.Pass.{quiet_of}
use Rattle.box_light.proofs.Light.quiet.Goals as goal

pub returns : goal.returns
unfolding quiet_of
returns c = c.quiet.ensures
