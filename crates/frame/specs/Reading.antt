-- Rules R37 to R44, R48, R50, R51, R67, R237: what reading answers.
-- Assumes nothing.
use Rattle.std.specs.Prelude.{ℕ, ◌+◌, ◌/◌, ◌%◌, ◌^◌, ◌≡◌, Bool, false, cond, ◌&&◌, ◌||◌, List, [], ◌∷◌, eqb, leb, length, drop}
use Rattle.octets.specs.Octets.{field_of}
use Rattle.frame_queues.specs.Queues.{used_of, no_sets}
use Rattle.frame.specs.Card.{Test, ◌unless◌, answer_of}
use Rattle.frame.specs.Layout.{body_octets, encode, zero_pad}
use Rattle.frame.specs.Range.{individual_in, Valid}
use Rattle.frame.specs.declared.Body.TheVariants.{Report}
use Rattle.frame.specs.declared.Message.{Message}
use Rattle.frame.specs.declared.Reading.{Reading}
use Rattle.frame.specs.declared.Reply.{Reply}
use Rattle.frame.specs.declared.Reply.TheVariants.{Done, Size, Kind, Opcode, Range}

abbrev pub one_of : ℕ → List ℕ → Bool
one_of f [] = false
one_of f (x ∷ xs) = eqb f x || one_of f xs

-- R37 to R39, of the first octet f: with n grants no bit from bit n + 4 on is set
unfoldable pub gate_in_range : ℕ → Bool
gate_in_range f =
    let clear = eqb (f / 2 ^ (f % 8 + 4)) 0 in
    cond (eqb (f / 8 % 2) 1) (eqb (f % 8) 1 && clear) (leb (f % 8) 4 && clear)

-- a body: the fields that not every value suits
unfoldable pub body_in_range : ℕ → List ℕ → Bool
body_in_range opcode l =
    -- GATE
    cond (eqb opcode 2) (gate_in_range (field_of l 20 1))
    -- R41
    (cond (eqb opcode 3) (leb (used_of (drop 20 l)) 40)
    -- R42
    (cond (eqb opcode 4) (one_of (field_of l 20 1) (1 ∷ 3 ∷ []))
    -- R43: after the port
    (cond (eqb opcode 5) (one_of (field_of l 22 1) (1 ∷ 2 ∷ 3 ∷ 4 ∷ []))
    -- R44
    (one_of (field_of l 20 1) (0 ∷ 1 ∷ [])))))

-- R237: the source; a destination may be any (R48)
unfoldable pub source_in_range : List ℕ → Bool
source_in_range l = individual_in (field_of l 6 6)

-- R67, with R53 to R56
abbrev pub reading_tests : List ℕ → List Test
reading_tests l =
    Size unless eqb (length l) 60
    ∷ Kind unless eqb (field_of l 12 2) 0x8808
    ∷ Opcode unless (leb 2 (field_of l 14 2) && leb (field_of l 14 2) 6)
    ∷ Range unless (source_in_range l && body_in_range (field_of l 14 2) l)
    ∷ []

-- R51: a frame carries a message if, with its pad zeroed, it is what the layout has for the message
pub record Carries (l : List ℕ) (m : Message) : Type 0 where
  pub valid : Valid m
  pub octets : zero_pad (20 + length (body_octets m.body)) l ≡ encode m

-- R50: refused, the message is blank
abbrev pub refusal : Reply → Reading
refusal r =
    record {
      reply = r;
      message = record { destination = record { 0 = 0 }; source = record { 0 = 0 }; timestamp = record { 0 = 0 }; body = Report no_sets };
    }

-- r is the answer to l
pub data Reads (l : List ℕ) (r : Reading) : Type 0 where
  taken : answer_of (reading_tests l) ≡ Done → r.reply ≡ Done → Carries l r.message → Reads l r
  refused : (answer_of (reading_tests l) ≡ Done → ⊥) → r ≡ refusal (answer_of (reading_tests l)) → Reads l r
