-- `face_frame_read::read_grants` meets its promise.
-- Assumes nothing.
use Rattle.face_frame_read.specs.Steps.{grants_read}
use Rattle.face_frame_read.proofs.Words.{grants-words}
use Rattle.face_frame_read.proofs.read_grants.Goals as goal

pub returns-then-n-f : goal.returns-then-n-f
returns-then-n-f c =
    rw (
      c.take.ensures,
      c.grant-d.ensures,
      c.grant-c.ensures,
      c.grant-b.ensures,
      c.grant-a.ensures,
      c.field-f.ensures.value,
    )
    (grants-words c.args.s.now (rw (← c.field-f.ensures.value) c.if-n-f.true))

pub returns : goal.returns
unfolding grants_read
returns c = rw (← c.field-f.ensures.value, c.if-n-f.false)
