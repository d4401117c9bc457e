-- Code: what the reader makes of sixty octets: what stands where, and the tests in their order. `proofs/Table.antt` shows that this is what
-- the page `Reading` of the crate `frame` answers.
-- Assumes nothing.
use Rattle.std.specs.Prelude.{ℕ, ◌+◌, ◌/◌, ◌%◌, Bool, cond, ◌&&◌, List, [], ◌∷◌, eqb, leb, length, take, drop}
use Rattle.octets.specs.Octets.{field_of}
use Rattle.frame_queues.specs.Queues.{cut_of, sets_of}
use Rattle.frame.specs.Reading.{body_in_range, source_in_range, refusal}
use Rattle.clock.specs.declared.Quanta.{Quanta}
use Rattle.frame.specs.declared.Grant.{Grant}
use Rattle.frame.specs.declared.Body.{Body}
use Rattle.frame.specs.declared.Body.TheVariants.{Gate, Discovery, Report, RegisterReq, Register, RegisterAck}
use Rattle.frame.specs.declared.Message.{Message}
use Rattle.frame.specs.declared.Reading.{Reading}
use Rattle.frame.specs.declared.Reply.TheVariants.{Done, Size, Kind, Opcode, Range}
use Rattle.frame_reader.specs.Flags.{few, register_req_flag_of, register_flag_of, register_ack_flag_of}

-- the bit of the octet f that counts p
abbrev pub bit : ℕ → ℕ → Bool
bit f p = eqb (f / p % 2) 1

-- a length or a sync time
abbrev pub quanta_at : List ℕ → ℕ → Quanta
quanta_at l a = record { 0 = field_of l a 2 }

unfoldable pub grant_at : List ℕ → ℕ → Bool → Grant
grant_at l a force = record { start = record { 0 = field_of l a 4 }; length = quanta_at l (a + 4); force = force }

-- a GATE whose first octet is f: a, b, c and d stand where its grants may, and sync where its sync time may
unfoldable pub gate_of : ℕ → Grant → Grant → Grant → Grant → Quanta → Body
gate_of f a b c d sync = cond (bit f 8) (Discovery a sync) (Gate (few (take (f % 8) (a ∷ b ∷ c ∷ d ∷ []))))

unfoldable pub gate_at : List ℕ → Body
gate_at l =
    let f = field_of l 20 1 in
    gate_of f
    (grant_at l 21 (bit f 16))
    (grant_at l 27 (bit f 32))
    (grant_at l 33 (bit f 64))
    (grant_at l 39 (bit f 128))
    (quanta_at l 27)

-- the sets of a REPORT: the octets that they take, and zeros
unfoldable pub report_at : List ℕ → Body
report_at l = Report (sets_of (cut_of (drop 20 l)))

unfoldable pub register_req_at : List ℕ → Body
register_req_at l = RegisterReq (register_req_flag_of (field_of l 20 1)) (field_of l 21 1)

unfoldable pub register_at : List ℕ → Body
register_at l = Register (field_of l 20 2) (register_flag_of (field_of l 22 1)) (quanta_at l 23) (field_of l 25 1)

unfoldable pub register_ack_at : List ℕ → Body
register_ack_at l = RegisterAck (register_ack_flag_of (field_of l 20 1)) (field_of l 21 2) (quanta_at l 23)

-- the body of a frame with a known opcode
unfoldable pub body_at : ℕ → List ℕ → Body
body_at opcode l =
    cond (eqb opcode 2) (gate_at l)
    (cond (eqb opcode 3) (report_at l)
    (cond (eqb opcode 4) (register_req_at l)
    (cond (eqb opcode 5) (register_at l)
    (register_ack_at l))))

unfoldable pub message_at : List ℕ → Message
message_at l =
    record {
      destination = record { 0 = field_of l 0 6 };
      source = record { 0 = field_of l 6 6 };
      timestamp = record { 0 = field_of l 16 4 };
      body = body_at (field_of l 14 2) l;
    }

unfoldable pub read_control : List ℕ → Reading
read_control l =
    cond (leb 2 (field_of l 14 2) && leb (field_of l 14 2) 6)
    (cond (source_in_range l && body_in_range (field_of l 14 2) l) (record { reply = Done; message = message_at l }) (refusal Range))
    (refusal Opcode)

unfoldable pub read_of : List ℕ → Reading
read_of l =
    cond (eqb (length l) 60)
    (cond (eqb (field_of l 12 2) 0x8808) (read_control l) (refusal Kind))
    (refusal Size)
