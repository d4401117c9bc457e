-- Code: what the reader's parts answer, each on its own: what was decoded, or the reply of the first test that is not passed.
-- Assumes nothing.
use Rattle.std.specs.Prelude.{ℕ, Bool, cond, ◌&&◌, List, eqb, leb, Result, Ok, Err}
use Rattle.octets.specs.Octets.{field_of}
use Rattle.frame.specs.Reading.{body_in_range, refusal}
use Rattle.frame.specs.declared.Body.{Body}
use Rattle.frame.specs.declared.Message.{Message}
use Rattle.frame.specs.declared.Reading.{Reading}
use Rattle.frame.specs.declared.Reply.{Reply}
use Rattle.frame.specs.declared.Reply.TheVariants.{Done, Kind, Opcode, Range}
use Rattle.frame_reader.specs.Decode.{body_at, read_control}

-- what the test judges, if it is in range
abbrev pub ranged : {A : Type 0} → Bool → A → Result A Reply
ranged t x = cond t (Ok x) (Err Range)

abbrev pub body_read : ℕ → List ℕ → Result Body Reply
body_read opcode l = cond (leb 2 opcode && leb opcode 6) (ranged (body_in_range opcode l) (body_at opcode l)) (Err Opcode)

-- sixty octets, of any type
abbrev pub control_read : List ℕ → Reading
control_read l = cond (eqb (field_of l 12 2) 0x8808) (read_control l) (refusal Kind)

abbrev pub reading_of : Result Message Reply → Reading
reading_of (Ok m) = record { reply = Done; message = m }
reading_of (Err r) = refusal r
