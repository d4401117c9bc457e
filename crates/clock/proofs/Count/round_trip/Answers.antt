-- `clock::Count::round_trip` meets its promise: a distance, or below 0 a turn more than it, is the gap.
-- Assumes nothing.
use Rattle.clock.proofs.Signed.{near-gap, near-casts, far-gap, far-fits, far-casts}
use Rattle.clock.proofs.Count.round_trip.Goals as goal

pub overflow_cast-result : goal.overflow_cast-result
overflow_cast-result c = far-casts _ _ _ c.distance-since.ensures c.if-since-lt0.true

pub returns-then-since-lt0 : goal.returns-then-since-lt0
returns-then-since-lt0 c = rw (far-gap _ _ _ c.distance-since.ensures c.if-since-lt0.true)

pub overflow_cast-result-2 : goal.overflow_cast-result-2
overflow_cast-result-2 c = near-casts _ _ _ c.distance-since.ensures c.if-since-lt0.false

pub returns : goal.returns
returns c = rw (near-gap _ _ _ c.distance-since.ensures c.if-since-lt0.false)
