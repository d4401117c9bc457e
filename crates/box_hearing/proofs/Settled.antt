-- Every promise of this crate settles the whole answer.
-- Assumes nothing.
use mathlib.Core.Path.{sym, ◌∙◌}
use Rattle.laws.specs.Settles.{Settles}
use Rattle.box_hearing.proofs.hear.Kinds as hear-kinds
use Rattle.box_hearing.proofs.hear.Reads as hear

pub hear-settles : Settles 0 hear-kinds.ps hear-kinds.r hear.Post
hear-settles κs a e x y p q = p ∙ sym q
