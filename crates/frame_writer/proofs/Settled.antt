-- Every promise of this crate settles the whole answer.
-- Assumes nothing.
use mathlib.Core.Path.{sym, ◌∙◌}
use Rattle.laws.specs.Settles.{Settles}
use Rattle.frame_writer.proofs.write.Kinds as write-kinds
use Rattle.frame_writer.proofs.write.Reads as write

pub write-settles : Settles 0 write-kinds.ps write-kinds.r write.Post
write-settles κs a e x y p q = p ∙ sym q
