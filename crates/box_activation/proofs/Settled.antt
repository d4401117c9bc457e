-- Every promise of this crate settles the whole answer.
-- Assumes nothing.
use mathlib.Core.Path.{sym, ◌∙◌}
use Rattle.laws.specs.Settles.{Settles}
use Rattle.box_activation.proofs.light_up.Kinds as light-up-kinds
use Rattle.box_activation.proofs.light_up.Reads as light-up
use Rattle.box_activation.proofs.activate.Kinds as activate-kinds
use Rattle.box_activation.proofs.activate.Reads as activate

pub light-up-settles : Settles 0 light-up-kinds.ps light-up-kinds.r light-up.Post
light-up-settles κs a e x y p q = p ∙ sym q

pub activate-settles : Settles 0 activate-kinds.ps activate-kinds.r activate.Post
activate-settles κs a e x y p q = p ∙ sym q
