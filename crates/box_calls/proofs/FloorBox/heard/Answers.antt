-- `box_calls::FloorBox::heard` meets its promise.
-- Assumes nothing.
use Rattle.clock.proofs.Signed.{read_back}
use Rattle.box_calls.specs.Hear.{heard_of}
use Rattle.box_calls.proofs.FloorBox.heard.Goals as goal

pub returns : goal.returns
unfolding heard_of
returns c =
    rw (c.accepted.ensures, c.hear.ensures, c.with_count-timed.ensures, c.eq-own.ensures, c.drift-drift.ensures, read_back)
