-- `face_frame_read::read_discovery` meets its promise.
-- Assumes nothing.
use Rattle.face_frame_read.specs.Steps.{discovery_read}
use Rattle.face_frame_read.proofs.Words.{discovery-words}
use Rattle.face_frame_read.proofs.read_discovery.Goals as goal

pub returns-then-n-f : goal.returns-then-n-f
returns-then-n-f c =
    rw (c.take.ensures, c.grant.ensures, c.field-sync.ensures.value, c.field-f.ensures.value)
    (discovery-words c.args.s.now (rw (← c.field-f.ensures.value) c.if-n-f.true))

pub returns : goal.returns
unfolding discovery_read
returns c = rw (← c.field-f.ensures.value, c.if-n-f.false)
