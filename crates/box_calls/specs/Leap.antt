-- Code: the answer of the last of several quiet ticks; `Quiet` shows that it is that of single ones.
-- Assumes nothing.
use Rattle.std.specs.Prelude.{ℕ, cond, eqb}
use Rattle.frame.specs.declared.Reply.TheVariants.{Done}
use Rattle.box_processes.specs.Pass.{passed_of as processes_passed}
use Rattle.box_calls.specs.Answer.{bare}
use Rattle.box_calls.specs.Pass.{quiet_of}
use Rattle.box_calls.specs.declared.FloorBox.{FloorBox}
use Rattle.box_calls.specs.declared.Answer.{Answer}

abbrev pub passed_of : FloorBox → ℕ → FloorBox
passed_of b k = record { address = b.address; processes = processes_passed b.processes k }

-- the answer of the last of k quiet ticks after the one that was answered so
unfoldable pub leap_of : ℕ → Answer → Answer
leap_of k r = cond (eqb k 0) r (bare (passed_of r.next k) Done)

abbrev pub quiet_after : Answer → ℕ
quiet_after r = quiet_of r.next
