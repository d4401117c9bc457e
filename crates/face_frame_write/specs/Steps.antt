-- Code: the steps in which words are written into a frame: what each kind asks of them, and what it lays out. `proofs/Page.antt` shows that
-- this is what `Write` answers.
-- Assumes nothing.
use Rattle.std.specs.Prelude.{ℕ, ◌+◌, ◌*◌, ◌/◌, ◌%◌, ◌^◌, Bool, true, false, cond, ◌&&◌, List, [], ◌∷◌, ◌++◌, eqb, leb, ltb, drop, replicate, Result, Ok, Err}
use Rattle.octets.specs.Octets.{bytes}
use Rattle.octets.specs.Over.{over}
use Rattle.frame_queues.specs.Queues.{forty_of, fits_sets}
use Rattle.frame_queues.specs.declared.Sets.{Sets}
use Rattle.frame.specs.Card.{number_of}
use Rattle.frame.specs.Layout.{frame_of}
use Rattle.frame.specs.Range.{individual_in}
use Rattle.frame.specs.Reading.{one_of}
use Rattle.frame.specs.declared.Reply.{Reply}
use Rattle.frame.specs.declared.Reply.TheVariants.{Range}
use Rattle.face_frame.specs.Tells.{at}
use Rattle.face_words.specs.Words.{upper, lower}
use Rattle.face_frame_write.specs.Write.{WriteLeft, write_left}
use Rattle.face_frame_write.specs.declared.Header.{Header}

-- a step's answer, and with a good one the frame that it leaves
abbrev pub answered : Result (Unit {0}) Reply → List ℕ → Result (List ℕ) Reply
answered (Ok _) frame = Ok frame
answered (Err reply) frame = Err reply

-- what is left of it: the frame, or zeros
abbrev pub left : Result (List ℕ) Reply → List ℕ → WriteLeft
left (Ok frame) o = write_left 0 (frame ++ drop 60 o)
left (Err reply) o = write_left (number_of reply) (replicate 60 0 ++ drop 60 o)

-- a frame where the test is passed
abbrev pub laid_out : Bool → List ℕ → Result (List ℕ) Reply
laid_out t frame = cond t (Ok frame) (Err Range)

abbrev pub header_in : Header → Bool
header_in h = leb h.destination 0xFFFFFFFFFFFF && individual_in h.source && leb h.timestamp 0xFFFFFFFF

-- a grant's word, whose length has two octets; one that isn't there is 0
abbrev pub grant_in : ℕ → Bool → Bool
grant_in g there = cond there (leb (lower g) 0xFFFF) (eqb g 0)

-- no force bit of an absent grant
abbrev pub force_in : ℕ → ℕ → Bool
force_in force n = cond (leb n 4) (eqb (force / 2 ^ n) 0) false

abbrev pub gate_in : List ℕ → Bool
gate_in w =
    force_in (at w 1) (at w 0)
    && grant_in (at w 2) (ltb 0 (at w 0))
    && grant_in (at w 3) (ltb 1 (at w 0))
    && grant_in (at w 4) (ltb 2 (at w 0))
    && grant_in (at w 5) (ltb 3 (at w 0))

abbrev pub discovery_in : List ℕ → Bool
discovery_in w = leb (at w 0) 0xFFFF && leb (at w 1) 1 && grant_in (at w 2) true && eqb (at w 3) 0 && eqb (at w 4) 0 && eqb (at w 5) 0

abbrev pub register_req_in : List ℕ → Bool
register_req_in w =
    one_of (at w 0) (1 ∷ 3 ∷ []) && leb (at w 1) 0xFF && eqb (at w 2) 0 && eqb (at w 3) 0 && eqb (at w 4) 0 && eqb (at w 5) 0

abbrev pub register_in : List ℕ → Bool
register_in w =
    one_of (at w 0) (1 ∷ 2 ∷ 3 ∷ 4 ∷ [])
    && leb (at w 1) 0xFFFF
    && leb (at w 2) 0xFFFF
    && leb (at w 3) 0xFF
    && eqb (at w 4) 0
    && eqb (at w 5) 0

abbrev pub register_ack_in : List ℕ → Bool
register_ack_in w =
    one_of (at w 0) (0 ∷ 1 ∷ []) && leb (at w 1) 0xFFFF && leb (at w 2) 0xFFFF && eqb (at w 3) 0 && eqb (at w 4) 0 && eqb (at w 5) 0

abbrev pub grant_bytes : ℕ → List ℕ
grant_bytes g = bytes 4 (upper g) ++ bytes 2 (lower g)

abbrev pub grant_over : ℕ → List ℕ → ℕ → List ℕ
grant_over a l g = over (a + 4) (over a l (bytes 4 (upper g))) (bytes 2 (lower g))

abbrev pub sets_over : List ℕ → Sets → List ℕ
sets_over l s =
    over 52 (over 44 (over 36 (over 28 (over 20 l (bytes 8 s.first)) (bytes 8 s.second)) (bytes 8 s.third)) (bytes 8 s.fourth)) (bytes 8 s.fifth)

abbrev pub sets_in : List ℕ → Sets
sets_in w = record { first = at w 0; second = at w 1; third = at w 2; fourth = at w 3; fifth = at w 4 }

-- of a header, and the six words of a body
module _ (h : Header) where
  abbrev pub framed : ℕ → List ℕ → List ℕ
  framed opcode body = frame_of h.destination h.source opcode h.timestamp body

  abbrev pub gate_laid : List ℕ → Result (List ℕ) Reply
  gate_laid w =
      laid_out (gate_in w)
      (framed 2
      (bytes 1 (at w 0 % 8 + 16 * (at w 1 % 16)) ++ grant_bytes (at w 2) ++ grant_bytes (at w 3) ++ grant_bytes (at w 4) ++ grant_bytes (at w 5)))

  abbrev pub discovery_laid : List ℕ → Result (List ℕ) Reply
  discovery_laid w =
      laid_out (discovery_in w) (framed 2 (bytes 1 (cond (eqb (at w 1) 1) 25 9) ++ grant_bytes (at w 2) ++ bytes 2 (at w 0)))

  abbrev pub report_laid : List ℕ → Result (List ℕ) Reply
  report_laid w = laid_out (eqb (at w 5) 0 && fits_sets (sets_in w)) (framed 3 (forty_of (sets_in w)))

  abbrev pub register_req_laid : List ℕ → Result (List ℕ) Reply
  register_req_laid w = laid_out (register_req_in w) (framed 4 (bytes 1 (at w 0) ++ bytes 1 (at w 1)))

  abbrev pub register_laid : List ℕ → Result (List ℕ) Reply
  register_laid w =
      laid_out (register_in w) (framed 5 (bytes 2 (at w 1) ++ bytes 1 (at w 0) ++ bytes 2 (at w 2) ++ bytes 1 (at w 3)))

  abbrev pub register_ack_laid : List ℕ → Result (List ℕ) Reply
  register_ack_laid w = laid_out (register_ack_in w) (framed 6 (bytes 1 (at w 0) ++ bytes 2 (at w 1) ++ bytes 2 (at w 2)))

  -- by the kind of message
  abbrev pub body_laid : ℕ → List ℕ → Result (List ℕ) Reply
  body_laid kind w =
      cond (eqb kind 0) (gate_laid w)
      (cond (eqb kind 1) (discovery_laid w)
      (cond (eqb kind 2) (report_laid w)
      (cond (eqb kind 3) (register_req_laid w)
      (cond (eqb kind 4) (register_laid w)
      (cond (eqb kind 5) (register_ack_laid w)
      (Err Range))))))

-- all ten words
abbrev pub message_laid : List ℕ → Result (List ℕ) Reply
message_laid w =
    let h : Header = record { destination = at w 0; source = at w 1; timestamp = at w 2 } in
    cond (header_in h) (body_laid h (at w 3) (at w 4 ∷ at w 5 ∷ at w 6 ∷ at w 7 ∷ at w 8 ∷ at w 9 ∷ [])) (Err Range)
