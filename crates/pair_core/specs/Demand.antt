-- Statement: demand 3 of the head and the floor box as they are. `NoHalfOpen` is on the page Run of pair_demand.
-- Assumes nothing.
use Rattle.std.specs.Prelude.{ℕ}
use Rattle.clock.specs.Numbers.{watchdog, wait}
use Rattle.frame.specs.declared.Address.{Address}
use Rattle.pair_demand.specs.Run.{NoHalfOpen}
use Rattle.pair_box.specs.End.{BoxEnd}
use Rattle.pair_head.specs.End.{HeadEnd}

-- R196 to R202, of the box whose own address is A and any head, for every delay D: D + 62,500,000 ticks without a link for A, and the box is
-- not registered; as many without a registered box, and no link for A is; a wait for REGISTER or REGISTER_ACK is over at its 3,125,000th tick.
unfoldable pub Demand3 : Type 0
Demand3 = (A : Address) (D : ℕ) → NoHalfOpen (HeadEnd A) (BoxEnd A) D watchdog wait
