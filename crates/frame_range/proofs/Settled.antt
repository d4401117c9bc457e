-- Every promise of this crate settles the whole answer.
-- Assumes nothing.
use mathlib.Core.Path.{sym, ◌∙◌}
use Rattle.laws.specs.Settles.{Settles}
use Rattle.frame_range.proofs.address.Kinds as address-kinds
use Rattle.frame_range.proofs.address.Reads as address
use Rattle.frame_range.proofs.message.Kinds as message-kinds
use Rattle.frame_range.proofs.message.Reads as message
use Rattle.frame_range.proofs.individual.Kinds as individual-kinds
use Rattle.frame_range.proofs.individual.Reads as individual
use Rattle.frame_range.proofs.grants.Kinds as grants-kinds
use Rattle.frame_range.proofs.grants.Reads as grants

pub address-settles : Settles 0 address-kinds.ps address-kinds.r address.Post
address-settles κs a e x y p q = p ∙ sym q

pub message-settles : Settles 0 message-kinds.ps message-kinds.r message.Post
message-settles κs a e x y p q = p ∙ sym q

pub individual-settles : Settles 0 individual-kinds.ps individual-kinds.r individual.Post
individual-settles κs a e x y p q = p ∙ sym q

pub grants-settles : Settles 0 grants-kinds.ps grants-kinds.r grants.Post
grants-settles κs a e x y p q = p ∙ sym q
