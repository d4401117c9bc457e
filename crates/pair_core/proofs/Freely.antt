-- Demand 3 with fresh starts and new timestamps is proved: neither moves a law.
-- Assumes nothing.
use Prim.Native.Nat.{ℕ}
use Rattle.clock.specs.Numbers.{watchdog, wait}
use Rattle.pair_wire.specs.Restarts.{restarts_head, calls_box, down_restarts, up_restarts}
use Rattle.pair_wire.specs.Message.{restamped}
use Rattle.pair_wire.proofs.Stamped.{restamped-tested}
use Rattle.pair_demand.specs.Run.{Holds, HasRegistered}
use Rattle.pair_demand.specs.Freely.{Free, Freely}
use Rattle.pair_demand.proofs.Face.{gauge}
use Rattle.pair_demand.proofs.Freely.{free-laws}
use Rattle.pair_demand.proofs.Pair.{pair}
use Rattle.pair_box.specs.End.{BoxEnd}
use Rattle.pair_box.proofs.Gauge as box
use Rattle.pair_box.proofs.Laws.{box_laws}
use Rattle.pair_box.proofs.Off as box-off
use Rattle.pair_head.specs.End.{HeadEnd}
use Rattle.pair_head.proofs.Head as head
use Rattle.pair_head.proofs.Head.{head-laws}
use Rattle.pair_head.proofs.Off as head-off
use Rattle.pair_core.specs.Freely.{Demand3Freely}

pub demand-3-freely : Demand3Freely
unfolding Demand3Freely
demand-3-freely A D =
    let HE = HeadEnd A in
    let BE = BoxEnd A in
    pair (Freely HE ℕ restamped) (Freely BE ℕ restamped) D
    (gauge (Free HE ℕ restamped) (head.gauge A).Ok (head.gauge A) (Holds HE) (down_restarts A) up_restarts)
    (gauge (Free BE ℕ restamped) (box.gauge A).Ok (box.gauge A) (HasRegistered BE) up_restarts (down_restarts A))
    (down_restarts A) up_restarts watchdog wait
    (free-laws ℕ restamped (head.gauge A) (Holds HE) (down_restarts A) up_restarts (head-laws A) (head-off.fresh-off A)
    (restamped-tested (λ m. restarts_head m.body) (λ x y a. rw a.body)))
    (free-laws ℕ restamped (box.gauge A) (HasRegistered BE) up_restarts (down_restarts A) (box_laws A) (box-off.fresh-off A)
    (restamped-tested (calls_box A) (λ x y a. rw (a.destination, a.body))))
