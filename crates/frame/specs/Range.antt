-- Rules R45 to R48, R237, R241: which messages are in range, those that have a frame. A number is as long as its field.
-- Assumes nothing.
use Rattle.std.specs.Prelude.{ℕ, ◌/◌, ◌%◌, ◌^◌, ◌<◌, ◌≡◌, Bool, true, ◌&&◌, List, [], ◌∷◌, eqb, leb, ltb}
use Rattle.frame_queues.specs.Queues.{SetsTyped, SetsFit}
use Rattle.frame.specs.Layout.{listed}
use Rattle.frame.specs.declared.Grant.{Grant}
use Rattle.frame.specs.declared.Body.{Body}
use Rattle.frame.specs.declared.Body.TheVariants.{Gate, Discovery, Report, RegisterReq, Register, RegisterAck}
use Rattle.frame.specs.declared.Message.{Message}

-- R45, R46: an individual address, and not zero; the lowest bit of the first octet, bit 40 of the number, is set in a group's
abbrev pub individual_in : ℕ → Bool
individual_in a = leb a 0xFFFFFFFFFFFF && ltb 0 a && eqb (a / 2 ^ 40 % 2) 0

abbrev pub GrantFits : Grant → Type 0
GrantFits g = (g.start.0 < 2 ^ 32) × (g.length.0 < 2 ^ 16)

abbrev pub GrantsFit : List Grant → Type 0
GrantsFit [] = Unit {0}
GrantsFit (g ∷ gs) = GrantFits g × GrantsFit gs

abbrev pub BodyFits : Body → Type 0
BodyFits (Gate grants) = GrantsFit (listed grants)
BodyFits (Discovery grant sync) = GrantFits grant × (sync.0 < 2 ^ 16)
BodyFits (Report sets) = SetsFit sets
BodyFits (RegisterReq flag pending) = pending < 2 ^ 8
BodyFits (Register port flag sync pending) = (port < 2 ^ 16) × (sync.0 < 2 ^ 16) × (pending < 2 ^ 8)
BodyFits (RegisterAck flag port sync) = (port < 2 ^ 16) × (sync.0 < 2 ^ 16)

-- a message that has a frame
pub record Valid (m : Message) : Type 0 where
  -- R48
  pub destination : m.destination.0 < 2 ^ 48
  -- R237
  pub source : individual_in m.source.0 ≡ true
  pub timestamp : m.timestamp.0 < 2 ^ 32
  pub body : BodyFits m.body

-- what the types of the fields see to by themselves: all but the addresses, the lengths, the sync times and where queue sets end
abbrev pub GrantTyped : Grant → Type 0
GrantTyped g = g.start.0 < 2 ^ 32

abbrev pub GrantsTyped : List Grant → Type 0
GrantsTyped [] = Unit {0}
GrantsTyped (g ∷ gs) = GrantTyped g × GrantsTyped gs

abbrev pub BodyTyped : Body → Type 0
BodyTyped (Gate grants) = GrantsTyped (listed grants)
BodyTyped (Discovery grant sync) = GrantTyped grant
BodyTyped (Report sets) = SetsTyped sets
BodyTyped (RegisterReq flag pending) = pending < 2 ^ 8
BodyTyped (Register port flag sync pending) = (port < 2 ^ 16) × (pending < 2 ^ 8)
BodyTyped (RegisterAck flag port sync) = port < 2 ^ 16

abbrev pub Typed : Message → Type 0
Typed m = (m.timestamp.0 < 2 ^ 32) × BodyTyped m.body
