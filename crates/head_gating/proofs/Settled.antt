-- Every promise of this crate settles the whole answer.
-- Assumes nothing.
use mathlib.Core.Path.{sym, ◌∙◌}
use Rattle.laws.specs.Settles.{Settles}
use Rattle.head_gating.proofs.Asked.grants.Kinds as grants-kinds
use Rattle.head_gating.proofs.Asked.grants.Reads as grants
use Rattle.head_gating.proofs.Asked.fits.Kinds as fits-kinds
use Rattle.head_gating.proofs.Asked.fits.Reads as fits

pub grants-settles : Settles 0 grants-kinds.ps grants-kinds.r grants.Post
grants-settles κs a e x y p q = p ∙ sym q

pub fits-settles : Settles 0 fits-kinds.ps fits-kinds.r fits.Post
fits-settles κs a e x y p q = p ∙ sym q
