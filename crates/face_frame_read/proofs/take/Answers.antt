-- `face_frame_read::take` meets its promise.
-- Assumes nothing.
use mathlib.Core.Path.{◌≡◌}
use native.Mathlib.Omega.{arith}
use lib.ListN.{length}
use Rattle.frame.specs.Reading.{source_in_range}
use Rattle.face_frame_read.proofs.Words.{six}
use Rattle.face_frame_read.proofs.take.Goals as goal

pub returns-then-not-individual : goal.returns-then-not-individual
unfolding source_in_range
returns-then-not-individual c = rw (← c.field-source.ensures.value, ← c.individual.ensures, c.if-not-individual.true)

pub returns : goal.returns
unfolding source_in_range
returns c =
    let long : length c.args.body ≡ 6 = omega arith in
    rw (
      ← c.field-source.ensures.value,
      ← c.individual.ensures,
      c.if-not-individual.false,
      ← c.field-destination.ensures.value,
      ← c.field-timestamp.ensures.value,
      six c.args.body long,
    )
