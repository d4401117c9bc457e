-- Code: the steps in which a frame is read into words, each as what the reader makes of it.
-- Assumes nothing.
use Rattle.std.specs.Prelude.{ℕ, ◌+◌, ◌-◌, ◌/◌, ◌%◌, ◌^◌, Bool, cond, ◌&&◌, List, [], ◌∷◌, ◌++◌, eqb, leb, length, take, drop, replicate}
use Rattle.std.specs.Prelude.{Result, Ok, Err}
use Rattle.octets.specs.Octets.{field_of}
use Rattle.frame_reader.specs.Decode.{bit, quanta_at, grant_at, message_at}
use Rattle.frame_reader.specs.Flags.{few}
use Rattle.frame.specs.Reading.{source_in_range, body_in_range, refusal}
use Rattle.frame.specs.declared.Body.{Body}
use Rattle.frame.specs.declared.Body.TheVariants.{Gate, Discovery}
use Rattle.frame.specs.declared.Reply.{Reply}
use Rattle.frame.specs.declared.Reply.TheVariants.{Size, Kind, Opcode, Range}
use Rattle.face_frame.specs.Message.{kind_of, fields_of}
use Rattle.face_words.specs.Words.{joined}
use Rattle.face_frame_read.specs.Read.{ReadLeft, read_left, told}

-- a step's answer, and with a good one the words that it leaves
abbrev pub answered : Result (Unit {0}) Reply → List ℕ → Result (List ℕ) Reply
answered (Ok _) words = Ok words
answered (Err reply) words = Err reply

-- what is left of it: the message's words, or the blank one's
abbrev pub left : Result (List ℕ) Reply → List ℕ → ReadLeft
left (Ok words) m = read_left 0 (words ++ drop 10 m)
left (Err reply) m = told (refusal reply) m

-- both addresses and the timestamp stand before the words of the body
abbrev pub headed : List ℕ → List ℕ → List ℕ
headed l body = field_of l 0 6 ∷ field_of l 6 6 ∷ field_of l 16 4 ∷ body

-- the kind, and the six words of a body
abbrev pub body_words : Body → List ℕ
body_words body = kind_of body ∷ (fields_of body ++ replicate (6 - length (fields_of body)) 0)

abbrev pub in_range : Bool → List ℕ → Result (List ℕ) Reply
in_range t words = cond t (Ok words) (Err Range)

-- the message with this body, where the body's fields and the source are in range
abbrev pub ranged : Bool → List ℕ → Body → Result (List ℕ) Reply
ranged t l body = in_range (t && source_in_range l) (headed l (body_words body))

abbrev pub word_at : List ℕ → ℕ → Bool → ℕ
word_at l a there = cond there (joined (field_of l a 4) (field_of l (a + 4) 2)) 0

-- no force bit of an absent grant
abbrev pub clear : ℕ → Bool
clear f = eqb (f / 2 ^ (f % 8 + 4)) 0

unfoldable pub discovery_read : List ℕ → Result (List ℕ) Reply
discovery_read l =
    let f = field_of l 20 1 in
    ranged (eqb (f % 8) 1 && clear f) l (Discovery (grant_at l 21 (bit f 16)) (quanta_at l 27))

unfoldable pub grants_read : List ℕ → Result (List ℕ) Reply
grants_read l =
    let f = field_of l 20 1 in
    ranged (leb (f % 8) 4 && clear f) l
    (Gate (few (take (f % 8) (grant_at l 21 (bit f 16) ∷ grant_at l 27 (bit f 32) ∷ grant_at l 33 (bit f 64) ∷ grant_at l 39 (bit f 128) ∷ []))))

-- sixty octets of the right type
unfoldable pub control_read : List ℕ → Result (List ℕ) Reply
control_read l =
    let opcode = field_of l 14 2 in
    cond (leb 2 opcode && leb opcode 6) (ranged (body_in_range opcode l) l (message_at l).body) (Err Opcode)

unfoldable pub frame_read : List ℕ → Result (List ℕ) Reply
frame_read l = cond (eqb (length l) 60) (cond (eqb (field_of l 12 2) 0x8808) (control_read l) (Err Kind)) (Err Size)
