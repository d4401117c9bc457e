-- `face_head_calls::asked` meets its promise.
-- Assumes nothing.
use Rattle.face_head_calls.specs.Gate.{asked_of}
use Rattle.face_head_calls.proofs.asked.Goals as goal

pub returns : goal.returns
unfolding asked_of
returns c = rw (c.span_at-4.ensures, c.span_at-3.ensures, c.span_at-2.ensures, c.span_at.ensures)
