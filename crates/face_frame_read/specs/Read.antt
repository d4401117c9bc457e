-- Face: what reading a frame leaves in the caller's memory.
-- Assumes nothing.
use Rattle.std.specs.Prelude.{ℕ, cond, List, ◌++◌, ltb, length, drop}
use Rattle.frame.specs.Card.{number_of}
use Rattle.frame.specs.declared.Reading.{Reading}
use Rattle.frame_reader.specs.Decode.{read_of}
use Rattle.face_frame.specs.Message.{message_words}
use Rattle.face_words.specs.Words.{short}

-- the number that the call returns, and what then stands in the message's words
pub record ReadLeft : Type 0 where
  pub number : ℕ
  pub message : List ℕ

abbrev pub read_left : ℕ → List ℕ → ReadLeft
read_left n message = record { number = n; message = message }

-- the words of the message over the beginning; what stands behind them stays
abbrev pub told : Reading → List ℕ → ReadLeft
told r message = read_left (number_of r.reply) (message_words r.message ++ drop 10 message)

-- the reader's answer; where fewer than ten words are lent it is 100, and nothing is touched
unfoldable pub read_call : List ℕ → List ℕ → ReadLeft
read_call octets message = cond (ltb (length message) 10) (read_left short message) (told (read_of octets) message)
