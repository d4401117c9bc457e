-- Every promise of this crate settles the whole answer.
-- Assumes nothing.
use Rattle.std.proofs.Common.{sym, ◌∙◌}
use Rattle.laws.specs.Settles.{Settles}
use Rattle.box_light.proofs.Light.resting.Kinds as resting-kinds
use Rattle.box_light.proofs.Light.resting.Reads as resting
use Rattle.box_light.proofs.Light.laser_on.Kinds as laser-on-kinds
use Rattle.box_light.proofs.Light.laser_on.Reads as laser-on
use Rattle.box_light.proofs.Light.randomly.Kinds as randomly-kinds
use Rattle.box_light.proofs.Light.randomly.Reads as randomly
use Rattle.box_light.proofs.Light.at_rest.Kinds as at-rest-kinds
use Rattle.box_light.proofs.Light.at_rest.Reads as at_rest
use Rattle.box_light.proofs.Light.sound.Kinds as sound-kinds
use Rattle.box_light.proofs.Light.sound.Reads as sound
use Rattle.box_light.proofs.Light.remaining.Kinds as remaining-kinds
use Rattle.box_light.proofs.Light.remaining.Reads as remaining-reads
use Rattle.box_light.proofs.Light.tick.Kinds as tick-kinds
use Rattle.box_light.proofs.Light.tick.Reads as tick
use Rattle.box_light.proofs.Light.passed.Kinds as passed-kinds
use Rattle.box_light.proofs.Light.passed.Reads as Passed-reads
use Rattle.box_light.proofs.Light.quiet.Kinds as quiet-kinds
use Rattle.box_light.proofs.Light.quiet.Reads as quiet-reads

pub resting-settles : Settles 0 resting-kinds.ps resting-kinds.r resting.Post
resting-settles κs a e x y p q = p ∙ sym q

pub laser-on-settles : Settles 0 laser-on-kinds.ps laser-on-kinds.r laser-on.Post
laser-on-settles κs a e x y p q = p ∙ sym q

pub randomly-settles : Settles 0 randomly-kinds.ps randomly-kinds.r randomly.Post
randomly-settles κs a e x y p q = p ∙ sym q

pub at-rest-settles : Settles 0 at-rest-kinds.ps at-rest-kinds.r at_rest.Post
at-rest-settles κs a e x y p q = p ∙ sym q

pub sound-settles : Settles 0 sound-kinds.ps sound-kinds.r sound.Post
sound-settles κs a e x y p q = p ∙ sym q

pub remaining-settles : Settles 0 remaining-kinds.ps remaining-kinds.r remaining-reads.Post
remaining-settles κs a e x y p q = p ∙ sym q

pub tick-settles : Settles 0 tick-kinds.ps tick-kinds.r tick.Post
tick-settles κs a e x y p q = p ∙ sym q

pub passed-settles : Settles 0 passed-kinds.ps passed-kinds.r Passed-reads.Post
passed-settles κs a e x y p q = p ∙ sym q

pub quiet-settles : Settles 0 quiet-kinds.ps quiet-kinds.r quiet-reads.Post
quiet-settles κs a e x y p q = p ∙ sym q
