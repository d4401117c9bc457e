-- `box_light::Light::passed` meets its promise.
-- Assumes nothing.
use Rattle.box_light.specs.Pass.{passed_of}
use Rattle.box_light.proofs.Light.passed.Goals as goal

pub returns : goal.returns
unfolding passed_of
returns c = rw c.passed.ensures
