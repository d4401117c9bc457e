-- Face: the message that any ten words of 64 bits tell, and whether they are just its words.
-- Assumes nothing.
use Rattle.std.specs.Prelude.{ℕ, ◌-◌, ◌/◌, ◌%◌, ◌^◌, min, Bool, cond, List, [], ◌∷◌, eqb, take, drop, get_or}
use Rattle.frame_queues.specs.declared.Sets.{Sets}
use Rattle.frame_reader.specs.Flags.{few, register_req_flag_of, register_flag_of, register_ack_flag_of}
use Rattle.frame.specs.declared.Body.{Body}
use Rattle.frame.specs.declared.Body.TheVariants.{Gate, Discovery, Report, RegisterReq, Register, RegisterAck}
use Rattle.frame.specs.declared.Grant.{Grant}
use Rattle.frame.specs.declared.Message.{Message}
use Rattle.face_frame.specs.Message.{message_words}
use Rattle.face_words.specs.Words.{same, upper, lower}

abbrev pub at : List ℕ → ℕ → ℕ
at w i = get_or w i 0

-- a word as a number of so many bits; one that is too large as the largest
abbrev pub within : ℕ → ℕ → ℕ
within bits w = min w (2 ^ bits - 1)

abbrev pub grant_of : ℕ → Bool → Grant
grant_of w force = record { start = record { 0 = upper w }; length = record { 0 = lower w }; force = force }

-- grants of words; the first one's force bit is the lowest
abbrev pub grants_of : ℕ → List ℕ → List Grant
grants_of force [] = []
grants_of force (w ∷ ws) = grant_of w (eqb (force % 2) 1) ∷ grants_of (force / 2) ws

-- the body of a REPORT
abbrev pub sets_at : List ℕ → Sets
sets_at w = record { first = at w 4; second = at w 5; third = at w 6; fourth = at w 7; fifth = at w 8 }

-- a kind or a flag that there isn't is taken as the last
unfoldable pub body_of : List ℕ → Body
body_of w =
    cond (eqb (at w 3) 0) (Gate (few (grants_of (at w 5) (take (at w 4) (drop 6 w)))))
    (cond (eqb (at w 3) 1) (Discovery (grant_of (at w 6) (eqb (at w 5) 1)) (record { 0 = within 32 (at w 4) }))
    (cond (eqb (at w 3) 2) (Report (sets_at w))
    (cond (eqb (at w 3) 3) (RegisterReq (register_req_flag_of (at w 4)) (within 8 (at w 5)))
    (cond (eqb (at w 3) 4) (Register (within 16 (at w 5)) (register_flag_of (at w 4)) (record { 0 = within 32 (at w 6) }) (within 8 (at w 7)))
    (RegisterAck (register_ack_flag_of (at w 4)) (within 16 (at w 5)) (record { 0 = within 32 (at w 6) }))))))

unfoldable pub message_of : List ℕ → Message
message_of w =
    record {
      destination = record { 0 = at w 0 };
      source = record { 0 = at w 1 };
      timestamp = record { 0 = within 32 (at w 2) };
      body = body_of w;
    }

-- the words are those of a message: of the one that they tell
unfoldable pub is_message : List ℕ → Bool
is_message w = same (message_words (message_of w)) w
