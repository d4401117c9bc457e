-- Rule R193, of the box: how many ticks are sure to be done and to hand out nothing.
-- Assumes nothing.
use Rattle.std.specs.Prelude.{ℕ, cond}
use Rattle.box_processes.specs.Pass.{quiet_of as processes_quiet}
use Rattle.box_calls.specs.Box.{sound_of}
use Rattle.box_calls.specs.declared.FloorBox.{FloorBox}

unfoldable pub quiet_of : FloorBox → ℕ
quiet_of b = cond (sound_of b) (processes_quiet b.processes) 0
