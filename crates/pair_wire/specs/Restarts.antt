-- Lemmas: which frames restart a watchdog: the head's at the box of an address, the box's at the head.
-- Assumes nothing.
use Rattle.std.specs.Prelude.{ℕ, Bool, true, false, ◌&&◌, List, eqb}
use Rattle.std.proofs.Math.Option.{Option, none, some}
use Rattle.frame.specs.declared.Address.{Address}
use Rattle.frame.specs.declared.Body.{Body}
use Rattle.frame.specs.declared.Body.TheVariants.{Gate, Discovery, Report, RegisterReq, Register, RegisterAck}
use Rattle.frame.specs.declared.Message.{Message}
use Rattle.frame.specs.declared.RegisterAckFlag.{RegisterAckFlag}
use Rattle.frame.specs.declared.RegisterFlag.{RegisterFlag}
use Rattle.pair_wire.specs.Message.{message_in}

-- REGISTER acted on by ack or reregister
abbrev pub registers : RegisterFlag → Bool
registers RegisterFlag.Reregister = true
registers RegisterFlag.Deregister = false
registers RegisterFlag.Ack = true
registers RegisterFlag.Nack = false

-- at the box: only a normal GATE, and such a REGISTER
abbrev pub restarts_box : Body → Bool
restarts_box (Gate grants) = true
restarts_box (Discovery grant sync) = false
restarts_box (Report sets) = false
restarts_box (RegisterReq flag pending) = false
restarts_box (Register port flag sync pending) = registers flag
restarts_box (RegisterAck flag port sync) = false

abbrev pub confirms : RegisterAckFlag → Bool
confirms RegisterAckFlag.Ack = true
confirms RegisterAckFlag.Nack = false

-- at the head: REPORT, and REGISTER_ACK 1
abbrev pub restarts_head : Body → Bool
restarts_head (Gate grants) = false
restarts_head (Discovery grant sync) = false
restarts_head (Report sets) = true
restarts_head (RegisterReq flag pending) = false
restarts_head (Register port flag sync pending) = false
restarts_head (RegisterAck flag port sync) = confirms flag

abbrev pub tested : (Message → Bool) → Option Message → Bool
tested t none = false
tested t (some m) = t m

-- a frame of the head to this address that restarts the box's watchdog
abbrev pub calls_box : Address → Message → Bool
calls_box a m = eqb m.destination.0 a.0 && restarts_box m.body

abbrev pub down_restarts : Address → List ℕ → Bool
down_restarts a os = tested (calls_box a) (message_in os)

-- a frame of the box that restarts a link's watchdog, whoever it comes from
abbrev pub up_restarts : List ℕ → Bool
up_restarts os = tested (λ m. restarts_head m.body) (message_in os)
