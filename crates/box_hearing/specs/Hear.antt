-- Rules R102, R106, R119, R121: what each kind of message does, once it is accepted.
-- Assumes nothing.
use Rattle.std.specs.Prelude.{ℕ, Bool}
use Rattle.frame.specs.Layout.{listed}
use Rattle.frame.specs.declared.Body.{Body}
use Rattle.frame.specs.declared.Body.TheVariants.{Gate, Discovery, Report, RegisterReq, Register, RegisterAck}
use Rattle.box_processes.specs.Parts.{still}
use Rattle.box_processes.specs.declared.Processes.{Processes}
use Rattle.box_processes.specs.declared.Step.{Step}
use Rattle.box_hearing.specs.Discovery.{discover}
use Rattle.box_hearing.specs.Gate.{gated}
use Rattle.box_hearing.specs.Register.{register_of}

abbrev pub hear_of : Body → Processes → Bool → ℕ → Step
hear_of (Gate grants) p own random = gated p (listed grants)
hear_of (Discovery grant sync) p own random = still (discover p grant sync own random)
hear_of (Register port flag sync pending) p own random = register_of p.registration.state flag p port sync
-- R102: never accepted
hear_of (Report sets) p own random = still p
hear_of (RegisterReq flag pending) p own random = still p
hear_of (RegisterAck flag port sync) p own random = still p
