-- The promise settles the whole answer, and what then stands in the caller's memory.
-- Assumes nothing.
use mathlib.Core.Path.{sym, ap, ◌∙◌}
use Rattle.laws.specs.Settles.{SettlesLent}
use Rattle.face_frame_write.specs.Write.{WriteLeft}
use Rattle.face_frame_write.proofs.write.Kinds as write-kinds
use Rattle.face_frame_write.proofs.write.Reads as write

pub write-settles : SettlesLent 2 write-kinds.ps write-kinds.r (λ κs e. e.1.0.now) write.Post
write-settles κs a e f x y p q = (ap (λ (t : WriteLeft). t.number) (p ∙ sym q), ap (λ (t : WriteLeft). t.octets) (p ∙ sym q))
