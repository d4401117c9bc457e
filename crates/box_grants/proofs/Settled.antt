-- Every promise of this crate settles the whole answer.
-- Assumes nothing.
use mathlib.Core.Path.{sym, ◌∙◌}
use Rattle.laws.specs.Settles.{Settles}
use Rattle.box_grants.proofs.GrantList.empty.Kinds as empty-kinds
use Rattle.box_grants.proofs.GrantList.empty.Reads as empty
use Rattle.box_grants.proofs.GrantList.push.Kinds as push-kinds
use Rattle.box_grants.proofs.GrantList.push.Reads as push
use Rattle.box_grants.proofs.GrantList.holds.Kinds as holds-kinds
use Rattle.box_grants.proofs.GrantList.holds.Reads as holds
use Rattle.box_grants.proofs.GrantList.sound.Kinds as sound-kinds
use Rattle.box_grants.proofs.GrantList.sound.Reads as sound
use Rattle.box_grants.proofs.GrantList.without.Kinds as without-kinds
use Rattle.box_grants.proofs.GrantList.without.Reads as without
use Rattle.box_grants.proofs.GrantList.choose.Kinds as choose-kinds
use Rattle.box_grants.proofs.GrantList.choose.Reads as choose

pub empty-settles : Settles 0 empty-kinds.ps empty-kinds.r empty.Post
empty-settles κs a e x y p q = p ∙ sym q

pub push-settles : Settles 0 push-kinds.ps push-kinds.r push.Post
push-settles κs a e x y p q = p ∙ sym q

pub holds-settles : Settles 0 holds-kinds.ps holds-kinds.r holds.Post
holds-settles κs a e x y p q = p ∙ sym q

pub sound-settles : Settles 0 sound-kinds.ps sound-kinds.r sound.Post
sound-settles κs a e x y p q = p ∙ sym q

pub without-settles : Settles 0 without-kinds.ps without-kinds.r without.Post
without-settles κs a e x y p q = p ∙ sym q

pub choose-settles : Settles 0 choose-kinds.ps choose-kinds.r choose.Post
choose-settles κs a e x y p q = p ∙ sym q
