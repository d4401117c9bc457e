-- `box_activation::light_up` meets its promise.
-- Assumes nothing.
use Rattle.box_activation.specs.Activation.{light_up}
use Rattle.box_activation.proofs.light_up.Goals as goal

pub returns : goal.returns
unfolding light_up
returns c =
    rw (
      c.with_light.ensures,
      c.with_list.ensures,
      c.laser_on.ensures,
      c.without.ensures,
    )
