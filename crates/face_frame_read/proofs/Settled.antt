-- The promise settles the whole answer, and what then stands in the caller's memory.
-- Assumes nothing.
use mathlib.Core.Path.{sym, ap, ◌∙◌}
use Rattle.laws.specs.Settles.{SettlesLent}
use Rattle.face_frame_read.specs.Read.{ReadLeft}
use Rattle.face_frame_read.proofs.read.Kinds as read-kinds
use Rattle.face_frame_read.proofs.read.Reads as read

pub read-settles : SettlesLent 2 read-kinds.ps read-kinds.r (λ κs e. e.1.0.now) read.Post
read-settles κs a e f x y p q = (ap (λ (t : ReadLeft). t.number) (p ∙ sym q), ap (λ (t : ReadLeft). t.message) (p ∙ sym q))
