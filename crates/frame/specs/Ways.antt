-- Rules R57, R102, R176: which way each message goes.
-- Assumes nothing.
use Rattle.std.specs.Prelude.{Bool, true, false}
use Rattle.frame.specs.declared.Body.{Body}
use Rattle.frame.specs.declared.Body.TheVariants.{Gate, Discovery, Report, RegisterReq, Register, RegisterAck}

abbrev pub goes_to_head : Body → Bool
goes_to_head (Gate grants) = false
goes_to_head (Discovery grant sync) = false
goes_to_head (Register port flag sync pending) = false
goes_to_head (Report sets) = true
goes_to_head (RegisterReq flag pending) = true
goes_to_head (RegisterAck flag port sync) = true
