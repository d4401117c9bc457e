-- `face_head_pass::runs` meets its promise.
-- Assumes nothing.
use borrow.Author.Rules.{rules}
use Rattle.clock.specs.Timers.{runs}
use Rattle.face_head_pass.proofs.runs.Goals as goal

pub returns : goal.returns
unfolding runs
returns c = search rules
