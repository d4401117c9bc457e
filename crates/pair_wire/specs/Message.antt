-- Rule R198: the message that octets carry to the end that hears them, if the reader takes them.
-- Assumes nothing.
use Rattle.std.specs.Prelude.{ℕ, Bool, true, cond, ◌&&◌, List, [], ◌∷◌, ◌++◌, eqb, ltb, take, drop}
use Rattle.std.proofs.Math.Option.{Option, none, some}
use Rattle.frame.specs.Card.{number_of}
use Rattle.frame.specs.declared.Message.{Message}
use Rattle.frame_reader.specs.Decode.{read_of}
use Rattle.octets.specs.Octets.{bytes}

abbrev pub are_octets : List ℕ → Bool
are_octets [] = true
are_octets (x ∷ xs) = ltb x 256 && are_octets xs

-- what the reader refuses, and what isn't octets, carries nothing
unfoldable pub message_in : List ℕ → Option Message
message_in os = cond (are_octets os && eqb (number_of (read_of os).reply) 0) (some (read_of os).message) none

-- octets 16 to 19 of a frame are its timestamp; whoever sends it may put another there
unfoldable pub stamped : ℕ → List ℕ → List ℕ
stamped n os = take 16 os ++ bytes 4 n ++ drop 20 os

-- what isn't octets has no timestamp
unfoldable pub restamped : ℕ → List ℕ → List ℕ
restamped n os = cond (are_octets os) (stamped n os) os
