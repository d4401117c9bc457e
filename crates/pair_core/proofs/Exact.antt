-- Demand 3's numbers are exact to the tick: its four claims hold, and with one tick less each is false.
-- Assumes nothing.
use Rattle.pair_core.specs.Demand.{Demand3}
use Rattle.pair_core.specs.Exact.{Exact}
use Rattle.pair_core.proofs.Demand.{demand-3}
use Rattle.pair_core.proofs.ExactBox.{exact-box-drops}
use Rattle.pair_core.proofs.ExactHead.{exact-head-drops}
use Rattle.pair_core.proofs.ExactWaits.{exact-box-wait, exact-head-wait}

pub exact : Exact
unfolding Exact Demand3
exact A i D =
    let d = demand-3 A D in
    record {
      box-drops = (d.box-drops, exact-box-drops A i D);
      head-drops = (d.head-drops, exact-head-drops A i D);
      box-wait = (d.box-wait, exact-box-wait A i D);
      head-wait = (d.head-wait, exact-head-wait A i D);
    }
