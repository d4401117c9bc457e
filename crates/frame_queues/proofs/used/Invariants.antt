use Rattle.std.proofs.Common.{◌≡◌, ◌+◌, ◌-◌, ◌*◌, ◌≤◌}
use Rattle.frame_queues.specs.Queues.{ending, used_of}
use Rattle.frame_queues.proofs.used.Given as goal

abbrev pub invariant-loop : goal.invariant-loop
invariant-loop l = (l.at ≤ 1 + 17 * l.counter) × (ending l.s (l.n - l.counter) l.at ≡ used_of l.s)
