-- Every promise of this crate settles the whole answer.
-- Assumes nothing.
use mathlib.Core.Path.{sym, ◌∙◌}
use Rattle.laws.specs.Settles.{Settles}
use Rattle.head_links.proofs.Stepped.still.Kinds as still-kinds
use Rattle.head_links.proofs.Stepped.still.Reads as still
use Rattle.head_links.proofs.Link.idle.Kinds as idle-kinds
use Rattle.head_links.proofs.Link.idle.Reads as idle
use Rattle.head_links.proofs.Link.is_held.Kinds as is-held-kinds
use Rattle.head_links.proofs.Link.is_held.Reads as is_held_lem
use Rattle.head_links.proofs.Link.is_registered.Kinds as is-registered-kinds
use Rattle.head_links.proofs.Link.is_registered.Reads as is-registered
use Rattle.head_links.proofs.Link.sound.Kinds as sound-kinds
use Rattle.head_links.proofs.Link.sound.Reads as sound
use Rattle.head_links.proofs.Link.change.Kinds as change-kinds
use Rattle.head_links.proofs.Link.change.Reads as change
use Rattle.head_links.proofs.Link.tick.Kinds as tick-kinds
use Rattle.head_links.proofs.Link.tick.Reads as tick
use Rattle.head_links.proofs.Link.passed.Kinds as passed-kinds
use Rattle.head_links.proofs.Link.passed.Reads as Passed-reads
use Rattle.head_links.proofs.Link.quiet.Kinds as quiet-kinds
use Rattle.head_links.proofs.Link.quiet.Reads as quiet-reads

pub still-settles : Settles 0 still-kinds.ps still-kinds.r still.Post
still-settles κs a e x y p q = p ∙ sym q

pub idle-settles : Settles 0 idle-kinds.ps idle-kinds.r idle.Post
idle-settles κs a e x y p q = p ∙ sym q

pub is-held-settles : Settles 0 is-held-kinds.ps is-held-kinds.r is_held_lem.Post
is-held-settles κs a e x y p q = p ∙ sym q

pub is-registered-settles : Settles 0 is-registered-kinds.ps is-registered-kinds.r is-registered.Post
is-registered-settles κs a e x y p q = p ∙ sym q

pub sound-settles : Settles 0 sound-kinds.ps sound-kinds.r sound.Post
sound-settles κs a e x y p q = p ∙ sym q

pub change-settles : Settles 0 change-kinds.ps change-kinds.r change.Post
change-settles κs a e x y p q = p ∙ sym q

pub tick-settles : Settles 0 tick-kinds.ps tick-kinds.r tick.Post
tick-settles κs a e x y p q = p ∙ sym q

pub passed-settles : Settles 0 passed-kinds.ps passed-kinds.r Passed-reads.Post
passed-settles κs a e x y p q = p ∙ sym q

pub quiet-settles : Settles 0 quiet-kinds.ps quiet-kinds.r quiet-reads.Post
quiet-settles κs a e x y p q = p ∙ sym q
