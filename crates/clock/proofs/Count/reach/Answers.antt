-- `clock::Count::reach` meets its promise: the distance's sign tells past from ahead, and ahead the cast changes nothing.
-- Assumes nothing.
use Rattle.std.proofs.Common.{sym}
use Rattle.clock.specs.Laws.{reach_near, reach_far}
use Rattle.clock.proofs.Signed.{near, far, near-gap, near-casts}
use Rattle.clock.proofs.Count.reach.Goals as goal

pub returns-then-d-lt0 : goal.returns-then-d-lt0
returns-then-d-lt0 c = sym (reach_far _ _ (far _ _ _ c.distance-d.ensures c.if-d-lt0.true))

pub overflow_cast-result : goal.overflow_cast-result
overflow_cast-result c = near-casts _ _ _ c.distance-d.ensures c.if-d-lt0.false

pub returns : goal.returns
returns c =
    let e = c.distance-d.ensures in
    rw (near-gap _ _ _ e c.if-d-lt0.false) (sym (reach_near _ _ (near _ _ _ e c.if-d-lt0.false)))
