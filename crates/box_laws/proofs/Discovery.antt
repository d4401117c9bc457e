-- A discovery GATE leaves the registration as it was: its step does, and activation moves no registration.
-- Assumes nothing.
use Prim.Native.Nat.{ℕ}
use mathlib.Core.Path.{◌≡◌, ◌∙◌}
use mathlib.Core.Bool.{Bool, true, false≢true}
use lib.Dec.{eqb}
use Rattle.frame.specs.declared.Body.{Body}
use Rattle.frame.specs.declared.Body.TheVariants.{Gate, Discovery, Report, RegisterReq, Register, RegisterAck}
use Rattle.frame.specs.declared.Message.{Message}
use Rattle.box_processes.specs.Parts.{with_count}
use Rattle.box_processes.specs.declared.Processes.{Processes}
use Rattle.box_hearing.specs.Hear.{hear_of as processes_hear}
use Rattle.box_calls.specs.Answer.{accepted}
use Rattle.box_calls.specs.Hear.{is_discovery, hear_of}
use Rattle.box_calls.specs.declared.Answer.{Answer}
use Rattle.box_calls.specs.declared.FloorBox.{FloorBox}
use Rattle.box_laws.specs.Calls.{step, Outcome, unsound, refuses, accepts, outcome}
use Rattle.box_laws.specs.Stated.{hear}
use Rattle.box_laws.specs.Discovery.{DiscoveryKeeps}
use Rattle.box_laws.specs.Watchdog.{discovery-keeps}
use Rattle.box_laws.proofs.Activated.{activate-leaves}

step_keeps : (body : Body) (p : Processes) (own : Bool) (random : ℕ) → is_discovery body ≡ true
    → (processes_hear body p own random).next.registration ≡ p.registration
step_keeps (Discovery grant sync) p own random h = discovery-keeps p grant sync own random
step_keeps (Gate grants) p own random h = absurd (false≢true h)
step_keeps (Report sets) p own random h = absurd (false≢true h)
step_keeps (RegisterReq flag pending) p own random h = absurd (false≢true h)
step_keeps (Register port flag sync pending) p own random h = absurd (false≢true h)
step_keeps (RegisterAck flag port sync) p own random h = absurd (false≢true h)

answer_keeps : (b : FloorBox) (m : Message) (random : ℕ) (x : Answer) → is_discovery m.body ≡ true → Outcome (hear m random) b x
    → x.next.processes.registration ≡ b.processes.registration
unfolding accepted
answer_keeps b m random x h (unsound s e) = rw e
answer_keeps b m random x h (refuses s r n u e) = rw e
answer_keeps b m random x h (accepts s t e) =
    rw e
    ((activate-leaves (step (hear m random) b).next).1
    ∙ step_keeps m.body (with_count b.processes m.timestamp) (eqb m.destination.0 b.address.0) random h)

pub discovery-call-keeps : DiscoveryKeeps
unfolding DiscoveryKeeps
discovery-call-keeps b m random h = answer_keeps b m random (hear_of b m random) h (outcome (hear m random) b)
