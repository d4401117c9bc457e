-- Every promise of this crate settles the whole answer.
-- Assumes nothing.
use mathlib.Core.Path.{sym, ◌∙◌}
use Rattle.laws.specs.Settles.{Settles}
use Rattle.box_registration.proofs.Registration.fresh.Kinds as fresh-kinds
use Rattle.box_registration.proofs.Registration.fresh.Reads as fresh
use Rattle.box_registration.proofs.Registration.waiting.Kinds as waiting-kinds
use Rattle.box_registration.proofs.Registration.waiting.Reads as waiting
use Rattle.box_registration.proofs.Registration.registering.Kinds as registering-kinds
use Rattle.box_registration.proofs.Registration.registering.Reads as registering
use Rattle.box_registration.proofs.Registration.requesting.Kinds as requesting-kinds
use Rattle.box_registration.proofs.Registration.requesting.Reads as requesting
use Rattle.box_registration.proofs.Registration.registered.Kinds as registered-kinds
use Rattle.box_registration.proofs.Registration.registered.Reads as registered
use Rattle.box_registration.proofs.Registration.heard.Kinds as heard-kinds
use Rattle.box_registration.proofs.Registration.heard.Reads as heard
use Rattle.box_registration.proofs.Registration.reported.Kinds as reported-kinds
use Rattle.box_registration.proofs.Registration.reported.Reads as reported
use Rattle.box_registration.proofs.Registration.is_registered.Kinds as is-registered-kinds
use Rattle.box_registration.proofs.Registration.is_registered.Reads as is-registered
use Rattle.box_registration.proofs.Registration.is_registering.Kinds as is-registering-kinds
use Rattle.box_registration.proofs.Registration.is_registering.Reads as is-registering
use Rattle.box_registration.proofs.Registration.sound.Kinds as sound-kinds
use Rattle.box_registration.proofs.Registration.sound.Reads as sound
use Rattle.box_registration.proofs.Registration.tick.Kinds as tick-kinds
use Rattle.box_registration.proofs.Registration.tick.Reads as tick
use Rattle.box_registration.proofs.Registration.is_waiting.Kinds as is-waiting-kinds
use Rattle.box_registration.proofs.Registration.is_waiting.Reads as is-waiting
use Rattle.box_registration.proofs.Registration.passed.Kinds as passed-kinds
use Rattle.box_registration.proofs.Registration.passed.Reads as Passed-reads
use Rattle.box_registration.proofs.Registration.quiet.Kinds as quiet-kinds
use Rattle.box_registration.proofs.Registration.quiet.Reads as quiet-reads

pub fresh-settles : Settles 0 fresh-kinds.ps fresh-kinds.r fresh.Post
fresh-settles κs a e x y p q = p ∙ sym q

pub waiting-settles : Settles 0 waiting-kinds.ps waiting-kinds.r waiting.Post
waiting-settles κs a e x y p q = p ∙ sym q

pub registering-settles : Settles 0 registering-kinds.ps registering-kinds.r registering.Post
registering-settles κs a e x y p q = p ∙ sym q

pub requesting-settles : Settles 0 requesting-kinds.ps requesting-kinds.r requesting.Post
requesting-settles κs a e x y p q = p ∙ sym q

pub registered-settles : Settles 0 registered-kinds.ps registered-kinds.r registered.Post
registered-settles κs a e x y p q = p ∙ sym q

pub heard-settles : Settles 0 heard-kinds.ps heard-kinds.r heard.Post
heard-settles κs a e x y p q = p ∙ sym q

pub reported-settles : Settles 0 reported-kinds.ps reported-kinds.r reported.Post
reported-settles κs a e x y p q = p ∙ sym q

pub is-registered-settles : Settles 0 is-registered-kinds.ps is-registered-kinds.r is-registered.Post
is-registered-settles κs a e x y p q = p ∙ sym q

pub is-registering-settles : Settles 0 is-registering-kinds.ps is-registering-kinds.r is-registering.Post
is-registering-settles κs a e x y p q = p ∙ sym q

pub sound-settles : Settles 0 sound-kinds.ps sound-kinds.r sound.Post
sound-settles κs a e x y p q = p ∙ sym q

pub tick-settles : Settles 0 tick-kinds.ps tick-kinds.r tick.Post
tick-settles κs a e x y p q = p ∙ sym q

pub is-waiting-settles : Settles 0 is-waiting-kinds.ps is-waiting-kinds.r is-waiting.Post
is-waiting-settles κs a e x y p q = p ∙ sym q

pub passed-settles : Settles 0 passed-kinds.ps passed-kinds.r Passed-reads.Post
passed-settles κs a e x y p q = p ∙ sym q

pub quiet-settles : Settles 0 quiet-kinds.ps quiet-kinds.r quiet-reads.Post
quiet-settles κs a e x y p q = p ∙ sym q
