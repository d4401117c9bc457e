-- `box_calls::FloorBox::accepted` meets its promise.
-- Assumes nothing.
use mir.Syntax.{w64}
use mir.ValLaws.{to_z-of_z}
use Rattle.box_calls.specs.Answer.{accepted}
use Rattle.box_calls.proofs.FloorBox.accepted.Goals as goal

pub returns : goal.returns
unfolding accepted
returns c =
    rw (
      to_z-of_z w64 c.args.drift c.ranges.drift,
      c.activate.ensures,
      c.frame-frames.ensures,
      c.frame-first.ensures,
      c.none.ensures,
    )
