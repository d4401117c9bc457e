-- Demand 3 is proved: the pair theorem at the laws of the head and of the box.
-- Assumes nothing.
use Rattle.clock.specs.Numbers.{watchdog, wait}
use Rattle.pair_wire.specs.Restarts.{down_restarts, up_restarts}
use Rattle.pair_demand.proofs.Pair.{pair}
use Rattle.pair_box.specs.End.{BoxEnd}
use Rattle.pair_box.proofs.Gauge as box
use Rattle.pair_box.proofs.Laws.{box_laws}
use Rattle.pair_head.specs.End.{HeadEnd}
use Rattle.pair_head.proofs.Head as head
use Rattle.pair_head.proofs.Head.{head-laws}
use Rattle.pair_core.specs.Demand.{Demand3}

pub demand-3 : Demand3
unfolding Demand3
demand-3 A D =
    pair (HeadEnd A) (BoxEnd A) D (head.gauge A) (box.gauge A) (down_restarts A) up_restarts watchdog wait (head-laws A) (box_laws A)
