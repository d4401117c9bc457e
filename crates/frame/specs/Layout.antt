-- Rules R30 to R44: the sixty octets of each message.
-- Assumes nothing.
use Rattle.std.specs.Prelude.{ℕ, ◌+◌, ◌-◌, ◌*◌, Bool, true, false, cond, List, [], ◌∷◌, ◌++◌, length, take, replicate}
use Rattle.octets.specs.Octets.{bytes}
use Rattle.frame_queues.specs.Queues.{used_of, forty_of}
use Rattle.frame.specs.declared.Grant.{Grant}
use Rattle.frame.specs.declared.Grants.{Grants}
use Rattle.frame.specs.declared.Grants.TheVariants.{None, One, Two, Three, Four}
use Rattle.frame.specs.declared.RegisterReqFlag.{RegisterReqFlag}
use Rattle.frame.specs.declared.RegisterFlag.{RegisterFlag}
use Rattle.frame.specs.declared.RegisterAckFlag.{RegisterAckFlag}
use Rattle.frame.specs.declared.Body.{Body}
use Rattle.frame.specs.declared.Body.TheVariants.{Gate, Discovery, Report, RegisterReq, Register, RegisterAck}
use Rattle.frame.specs.declared.Message.{Message}

-- R30: the first twenty
abbrev pub header_of : ℕ → ℕ → ℕ → ℕ → List ℕ
header_of destination source opcode timestamp =
    bytes 6 destination ++ bytes 6 source ++ bytes 2 0x8808 ++ bytes 2 opcode ++ bytes 4 timestamp

-- R30, R36: a body of forty, the pad zeros
abbrev pub frame_of : ℕ → ℕ → ℕ → ℕ → List ℕ → List ℕ
frame_of destination source opcode timestamp body =
    header_of destination source opcode timestamp ++ (body ++ replicate (40 - length body) 0)

-- R31 to R35
abbrev pub opcode_of : Body → ℕ
opcode_of (Gate grants) = 0x0002
opcode_of (Discovery grant sync) = 0x0002
opcode_of (Report sets) = 0x0003
opcode_of (RegisterReq flag pending) = 0x0004
opcode_of (Register port flag sync pending) = 0x0005
opcode_of (RegisterAck flag port sync) = 0x0006

-- R37: none to four grants
abbrev pub listed : Grants → List Grant
listed None = []
listed (One a) = a ∷ []
listed (Two a b) = a ∷ b ∷ []
listed (Three a b c) = a ∷ b ∷ c ∷ []
listed (Four a b c d) = a ∷ b ∷ c ∷ d ∷ []

-- R39: a bit for each grant, the first one's lowest
abbrev pub force_bits : List Grant → ℕ
force_bits [] = 0
force_bits (g ∷ gs) = cond g.force 1 0 + 2 * force_bits gs

-- R37 to R39
unfoldable pub first_octet : Bool → List Grant → ℕ
first_octet discovery gs = length gs + 8 * cond discovery 1 0 + 16 * force_bits gs

-- R31: for each grant
abbrev pub grant_octets : Grant → List ℕ
grant_octets g = bytes 4 g.start.0 ++ bytes 2 g.length.0

abbrev pub per_grant : List Grant → List ℕ
per_grant [] = []
per_grant (g ∷ gs) = grant_octets g ++ per_grant gs

abbrev pub gate_octets : Bool → List Grant → List ℕ
gate_octets discovery gs = bytes 1 (first_octet discovery gs) ++ per_grant gs

-- R42
abbrev pub register_req_flag : RegisterReqFlag → ℕ
register_req_flag RegisterReqFlag.Register = 1
register_req_flag RegisterReqFlag.Deregister = 3

-- R43
abbrev pub register_flag : RegisterFlag → ℕ
register_flag RegisterFlag.Reregister = 1
register_flag RegisterFlag.Deregister = 2
register_flag RegisterFlag.Ack = 3
register_flag RegisterFlag.Nack = 4

-- R44
abbrev pub register_ack_flag : RegisterAckFlag → ℕ
register_ack_flag RegisterAckFlag.Nack = 0
register_ack_flag RegisterAckFlag.Ack = 1

-- the body's octets before its pad
unfoldable pub body_octets : Body → List ℕ
-- R31, R38
body_octets (Gate grants) = gate_octets false (listed grants)
body_octets (Discovery grant sync) = gate_octets true (grant ∷ []) ++ bytes 2 sync.0
-- R32
body_octets (Report sets) = take (used_of (forty_of sets)) (forty_of sets)
-- R33
body_octets (RegisterReq flag pending) = bytes 1 (register_req_flag flag) ++ bytes 1 pending
-- R34
body_octets (Register port flag sync pending) =
    bytes 2 port ++ bytes 1 (register_flag flag) ++ bytes 2 sync.0 ++ bytes 1 pending
-- R35
body_octets (RegisterAck flag port sync) = bytes 1 (register_ack_flag flag) ++ bytes 2 port ++ bytes 2 sync.0

unfoldable pub encode : Message → List ℕ
encode m =
    frame_of m.destination.0 m.source.0 (opcode_of m.body) m.timestamp.0 (body_octets m.body)

-- R51: a frame with its pad zeroed, where k octets stand before the pad
abbrev pub zero_pad : ℕ → List ℕ → List ℕ
zero_pad k l = take k l ++ replicate (length l - k) 0
