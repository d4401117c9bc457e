-- Face: what writing a message leaves in the caller's memory.
-- Assumes nothing.
use Rattle.std.specs.Prelude.{ℕ, cond, ◌&&◌, List, ◌++◌, leb, length, take, drop, replicate}
use Rattle.frame.specs.Card.{number_of}
use Rattle.frame.specs.declared.Reply.TheVariants.{Range}
use Rattle.frame.specs.declared.Writing.{Writing}
use Rattle.face_frame.specs.Tells.{message_of, is_message}
use Rattle.frame_writer.specs.Write.{write_of}
use Rattle.face_words.specs.Words.{short}

-- the number that the call returns, and what then stands in the octets
pub record WriteLeft : Type 0 where
  pub number : ℕ
  pub octets : List ℕ

abbrev pub write_left : ℕ → List ℕ → WriteLeft
write_left n octets = record { number = n; octets = octets }

-- words that are no message's are refused as a field out of range is
unfoldable pub writing_of : List ℕ → Writing
writing_of words =
    cond (is_message words) (write_of (message_of words)) (record { reply = Range; octets = replicate 60 0 })

-- the frame over the beginning; what stands behind it stays
abbrev pub written : Writing → List ℕ → WriteLeft
written w octets = write_left (number_of w.reply) (w.octets ++ drop 60 octets)

-- the writer's answer to the first ten words; where fewer, or fewer than sixty octets, are lent it is 100, and nothing is touched
unfoldable pub write_call : List ℕ → List ℕ → WriteLeft
write_call message octets =
    cond (leb 10 (length message) && leb 60 (length octets)) (written (writing_of (take 10 message)) octets) (write_left short octets)
