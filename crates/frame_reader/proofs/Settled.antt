-- Every promise of this crate settles the whole answer.
-- Assumes nothing.
use mathlib.Core.Path.{sym, ◌∙◌}
use Rattle.laws.specs.Settles.{Settles}
use Rattle.frame_reader.proofs.read.Kinds as read-kinds
use Rattle.frame_reader.proofs.read.Reads as read

pub read-settles : Settles 1 read-kinds.ps read-kinds.r read.Post
read-settles κs a e x y p q = p ∙ sym q
