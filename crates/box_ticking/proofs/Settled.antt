-- Every promise of this crate settles the whole answer.
-- Assumes nothing.
use mathlib.Core.Path.{sym, ◌∙◌}
use Rattle.laws.specs.Settles.{Settles}
use Rattle.box_ticking.proofs.tick.Kinds as tick-kinds
use Rattle.box_ticking.proofs.tick.Reads as tick

pub tick-settles : Settles 0 tick-kinds.ps tick-kinds.r tick.Post
tick-settles κs a e x y p q = p ∙ sym q
