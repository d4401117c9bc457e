-- Face: a message as ten words of 64 bits: which word holds what.
-- Assumes nothing.
use Rattle.std.specs.Prelude.{ℕ, ◌-◌, List, [], ◌∷◌, ◌++◌, map, length, replicate}
use Rattle.frame_queues.specs.Words.{sets_words}
use Rattle.frame.specs.Layout.{listed, force_bits, register_req_flag, register_flag, register_ack_flag}
use Rattle.frame.specs.declared.Body.{Body}
use Rattle.frame.specs.declared.Body.TheVariants.{Gate, Discovery, Report, RegisterReq, Register, RegisterAck}
use Rattle.frame.specs.declared.Grant.{Grant}
use Rattle.frame.specs.declared.Message.{Message}
use Rattle.face_words.specs.Words.{joined, bit}

abbrev pub kind_of : Body → ℕ
kind_of (Gate grants) = 0
kind_of (Discovery grant sync) = 1
kind_of (Report sets) = 2
kind_of (RegisterReq flag pending) = 3
kind_of (Register port flag sync pending) = 4
kind_of (RegisterAck flag port sync) = 5

-- a grant's start above its length, as in the box's list; its force bit stands elsewhere
abbrev pub grant_word : Grant → ℕ
grant_word g = joined g.start.0 g.length.0

-- what a body holds, the flags by their numbers on the wire
abbrev pub fields_of : Body → List ℕ
-- how many grants, their force bits as on the wire, and the grants
fields_of (Gate grants) = length (listed grants) ∷ force_bits (listed grants) ∷ map grant_word (listed grants)
fields_of (Discovery grant sync) = sync.0 ∷ bit grant.force ∷ grant_word grant ∷ []
-- the forty octets of the body
fields_of (Report sets) = sets_words sets
fields_of (RegisterReq flag pending) = register_req_flag flag ∷ pending ∷ []
fields_of (Register port flag sync pending) = register_flag flag ∷ port ∷ sync.0 ∷ pending ∷ []
fields_of (RegisterAck flag port sync) = register_ack_flag flag ∷ port ∷ sync.0 ∷ []

-- the ten words: both addresses, the timestamp, the kind, and six of body, which are 0 behind what it holds
unfoldable pub message_words : Message → List ℕ
message_words m =
    m.destination.0
    ∷ m.source.0
    ∷ m.timestamp.0
    ∷ kind_of m.body
    ∷ (fields_of m.body ++ replicate (6 - length (fields_of m.body)) 0)
