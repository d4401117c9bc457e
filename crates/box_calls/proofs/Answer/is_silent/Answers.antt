-- `box_calls::Answer::is_silent` meets its promise.
-- Assumes nothing.
use Rattle.box_calls.specs.Advance.{is_silent}
use Rattle.box_calls.proofs.Answer.is_silent.Goals as goal

pub returns : goal.returns
unfolding is_silent
returns c = rw c.is_nothing.ensures
