-- Demand 3 of the words is proved: the pair theorem at the laws of the core's head and box, carried to their words.
-- Assumes nothing.
use Rattle.clock.specs.Numbers.{watchdog, wait}
use Rattle.frame.specs.declared.Address.{Address}
use Rattle.pair_wire.specs.Restarts.{down_restarts, up_restarts}
use Rattle.pair_demand.specs.Run.{Holds, HasRegistered}
use Rattle.pair_demand.specs.Laws.{Gauge, Laws}
use Rattle.pair_demand.proofs.Face.{gauge, laws-through}
use Rattle.pair_demand.proofs.Pair.{pair}
use Rattle.pair_box.specs.End.{BoxEnd}
use Rattle.pair_box.proofs.Gauge as core-box
use Rattle.pair_box.proofs.Laws.{box_laws}
use Rattle.pair_box.proofs.Off as box-off
use Rattle.pair_head.specs.End.{HeadEnd}
use Rattle.pair_head.proofs.Head as core-head
use Rattle.pair_head.proofs.Head.{head-laws}
use Rattle.pair_head.proofs.Off as head-off
use Rattle.face_pair.specs.Box.{BoxFace, BoxWords}
use Rattle.face_pair.specs.Demand.{WordsDemand3}
use Rattle.face_pair.specs.Head.{HeadFace, HeadWords}
use Rattle.face_pair.proofs.Box as box
use Rattle.face_pair.proofs.Head as head
use Rattle.face_pair.proofs.Read.{box-tells, head-tells}

module _ (A : Address) where
  abbrev pub box-gauge : Gauge (BoxWords A)
  box-gauge = gauge (BoxFace A) (box.Good A) (core-box.gauge A) (HasRegistered (BoxEnd A)) up_restarts (down_restarts A)

  abbrev pub head-gauge : Gauge (HeadWords A)
  head-gauge = gauge (HeadFace A) head.Good (core-head.gauge A) (Holds (HeadEnd A)) (down_restarts A) up_restarts

  pub box-words-laws : Laws (BoxWords A) box-gauge (HasRegistered (BoxWords A)) up_restarts (down_restarts A) watchdog wait
  box-words-laws =
      laws-through (BoxFace A) (box.Good A) (core-box.gauge A) (HasRegistered (BoxEnd A)) up_restarts (down_restarts A)
      (HasRegistered (BoxWords A)) (λ block g a. (a.0, ((box-tells A).registered block g a.0).1 a.1)) (box-tells A)
      (box_laws A) (λ block g. g.ok) (box-off.fresh-off A) (box.box-faithful A)

  pub head-words-laws : Laws (HeadWords A) head-gauge (Holds (HeadWords A)) (down_restarts A) up_restarts watchdog wait
  head-words-laws =
      laws-through (HeadFace A) head.Good (core-head.gauge A) (Holds (HeadEnd A)) (down_restarts A) up_restarts
      (Holds (HeadWords A)) (λ w g a. (a.0, ((head-tells A).held w g a.0).1 a.1)) (head-tells A)
      (head-laws A) (λ w g. g.reached) (head-off.fresh-off A) (head.head-faithful A)

pub words-demand-3 : WordsDemand3
unfolding WordsDemand3
words-demand-3 A D =
    pair (HeadWords A) (BoxWords A) D (head-gauge A) (box-gauge A) (down_restarts A) up_restarts watchdog wait (head-words-laws A) (box-words-laws A)
