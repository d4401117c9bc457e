-- Every promise of this crate settles the whole answer.
-- Assumes nothing.
use mathlib.Core.Path.{sym, ◌∙◌}
use Rattle.laws.specs.Settles.{Settles}
use Rattle.box_processes.proofs.Processes.fresh.Kinds as fresh-kinds
use Rattle.box_processes.proofs.Processes.fresh.Reads as fresh
use Rattle.box_processes.proofs.Processes.with_count.Kinds as with-count-kinds
use Rattle.box_processes.proofs.Processes.with_count.Reads as with-count
use Rattle.box_processes.proofs.Processes.with_registration.Kinds as with-registration-kinds
use Rattle.box_processes.proofs.Processes.with_registration.Reads as with-registration
use Rattle.box_processes.proofs.Processes.with_list.Kinds as with-list-kinds
use Rattle.box_processes.proofs.Processes.with_list.Reads as with-list
use Rattle.box_processes.proofs.Processes.with_light.Kinds as with-light-kinds
use Rattle.box_processes.proofs.Processes.with_light.Reads as with-light
use Rattle.box_processes.proofs.Processes.waiting.Kinds as waiting-kinds
use Rattle.box_processes.proofs.Processes.waiting.Reads as waiting
use Rattle.box_processes.proofs.Processes.sound.Kinds as sound-kinds
use Rattle.box_processes.proofs.Processes.sound.Reads as sound
use Rattle.box_processes.proofs.Step.still.Kinds as still-kinds
use Rattle.box_processes.proofs.Step.still.Reads as still
use Rattle.box_processes.proofs.Step.local_deregister.Kinds as local-deregister-kinds
use Rattle.box_processes.proofs.Step.local_deregister.Reads as local-deregister
use Rattle.box_processes.proofs.Step.reporting.Kinds as reporting-kinds
use Rattle.box_processes.proofs.Step.reporting.Reads as reporting
use Rattle.box_processes.proofs.farewell.Kinds as farewell-kinds
use Rattle.box_processes.proofs.farewell.Reads as farewell
use Rattle.box_processes.proofs.Processes.quiet.Kinds as quiet-kinds
use Rattle.box_processes.proofs.Processes.quiet.Reads as quiet-reads
use Rattle.box_processes.proofs.Processes.passed.Kinds as passed-kinds
use Rattle.box_processes.proofs.Processes.passed.Reads as Passed-reads

pub fresh-settles : Settles 0 fresh-kinds.ps fresh-kinds.r fresh.Post
fresh-settles κs a e x y p q = p ∙ sym q

pub with-count-settles : Settles 0 with-count-kinds.ps with-count-kinds.r with-count.Post
with-count-settles κs a e x y p q = p ∙ sym q

pub with-registration-settles : Settles 0 with-registration-kinds.ps with-registration-kinds.r with-registration.Post
with-registration-settles κs a e x y p q = p ∙ sym q

pub with-list-settles : Settles 0 with-list-kinds.ps with-list-kinds.r with-list.Post
with-list-settles κs a e x y p q = p ∙ sym q

pub with-light-settles : Settles 0 with-light-kinds.ps with-light-kinds.r with-light.Post
with-light-settles κs a e x y p q = p ∙ sym q

pub waiting-settles : Settles 0 waiting-kinds.ps waiting-kinds.r waiting.Post
waiting-settles κs a e x y p q = p ∙ sym q

pub sound-settles : Settles 0 sound-kinds.ps sound-kinds.r sound.Post
sound-settles κs a e x y p q = p ∙ sym q

pub still-settles : Settles 0 still-kinds.ps still-kinds.r still.Post
still-settles κs a e x y p q = p ∙ sym q

pub local-deregister-settles : Settles 0 local-deregister-kinds.ps local-deregister-kinds.r local-deregister.Post
local-deregister-settles κs a e x y p q = p ∙ sym q

pub reporting-settles : Settles 0 reporting-kinds.ps reporting-kinds.r reporting.Post
reporting-settles κs a e x y p q = p ∙ sym q

pub farewell-settles : Settles 0 farewell-kinds.ps farewell-kinds.r farewell.Post
farewell-settles κs a e x y p q = p ∙ sym q

pub quiet-settles : Settles 0 quiet-kinds.ps quiet-kinds.r quiet-reads.Post
quiet-settles κs a e x y p q = p ∙ sym q

pub passed-settles : Settles 0 passed-kinds.ps passed-kinds.r Passed-reads.Post
passed-settles κs a e x y p q = p ∙ sym q
