-- Demand 3's numbers are exact of the words: what fails of the core's head and box fails of theirs.
-- Assumes nothing.
use Prim.Native.Nat.{◌+◌}
use Rattle.pair_demand.proofs.Plays.{claims}
use Rattle.pair_core.specs.Exact.{Exact}
use Rattle.pair_core.proofs.Exact.{exact}
use Rattle.face_pair.specs.Box.{BoxFace}
use Rattle.face_pair.specs.Exact.{WordsExact}
use Rattle.face_pair.specs.Head.{HeadFace}
use Rattle.face_pair.proofs.Able.{box-able, head-able}
use Rattle.face_pair.proofs.Box as boxes
use Rattle.face_pair.proofs.Head as heads
use Rattle.face_pair.proofs.Read.{box-tells, head-tells}

pub words-exact : WordsExact
unfolding WordsExact Exact
words-exact A i D =
    let x = exact A i D in
    let k = claims (HeadFace A) (BoxFace A) heads.Good (boxes.Good A) (head-able A) (box-able A) D (head-tells A) (box-tells A) in
    record {
      box-drops = λ f. x.box-drops.1 ((k (D + 62_499_999)).box-drops f);
      head-drops = λ f. x.head-drops.1 ((k (D + 62_499_999)).head-drops f);
      box-wait = λ f. x.box-wait.1 ((k 3_124_999).box-wait f);
      head-wait = λ f. x.head-wait.1 ((k 3_124_999).head-wait f);
    }
