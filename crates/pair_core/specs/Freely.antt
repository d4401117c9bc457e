-- Statement: demand 3 where either end may be made fresh again in the middle of a run, while frames are on their way, and where a frame leaves
-- with any timestamp: senders stamp as a frame leaves (R203).
-- Assumes nothing.
use Rattle.std.specs.Prelude.{ℕ}
use Rattle.clock.specs.Numbers.{watchdog, wait}
use Rattle.frame.specs.declared.Address.{Address}
use Rattle.pair_wire.specs.Message.{restamped}
use Rattle.pair_demand.specs.Run.{NoHalfOpen}
use Rattle.pair_demand.specs.Freely.{Freely}
use Rattle.pair_box.specs.End.{BoxEnd}
use Rattle.pair_head.specs.End.{HeadEnd}

unfoldable pub Demand3Freely : Type 0
Demand3Freely = (A : Address) (D : ℕ) → NoHalfOpen (Freely (HeadEnd A) ℕ restamped) (Freely (BoxEnd A) ℕ restamped) D watchdog wait
