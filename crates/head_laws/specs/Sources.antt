-- Statement: what a head accepts, and what it hands out, has a source that is individual and not zero (R238).
-- Assumes nothing.
use Rattle.std.specs.Prelude.{ℕ, ◌*◌, ◌^◌, ◌<◌, ◌≡◌, true, List, [], ◌∷◌, ◌++◌, length, drop}
use Rattle.frame.specs.declared.Message.{Message}
use Rattle.frame.specs.declared.Reply.TheVariants.{Done}
use Rattle.frame_range.specs.Fits.{is_individual}
use Rattle.head_state.specs.declared.Head.{Head}
use Rattle.head_links.specs.declared.Link.{Link}
use Rattle.head_judging.specs.declared.Call.{Call}
use Rattle.head_calls.specs.Serve.{Served, serve_of}
use Rattle.head_laws.specs.Stated.{encoded, call_frames, RequestTyped}

-- of every head, table and output
unfoldable pub HeardSource : Type 0
HeardSource =
    (h : Head) (xs : List Link) (link : ℕ) (m : Message) (os : List ℕ) → (serve_of h xs (Call.Hear link m) os).answer.reply ≡ Done
    → is_individual m.source ≡ true

abbrev pub AllIndividual : List Message → Type 0
AllIndividual [] = Unit {0}
AllIndividual (m ∷ ms) = (is_individual m.source ≡ true) × AllIndividual ms

-- what is handed out are the frames of these messages, from the output's start, and each has such a source
pub record Sourced (ms : List Message) (os : List ℕ) (s : Served) : Type 0 where
  pub sources : AllIndividual ms
  pub number : s.answer.frames ≡ length ms
  pub octets : s.octets ≡ encoded ms ++ drop (60 * length ms) os

-- of every head, table, output and call, done or refused
unfoldable pub SentSource : Type 0
SentSource =
    (h : Head) (xs : List Link) (r : Call) (os : List ℕ) → RequestTyped r → h.count.0 < 2 ^ 32
    → Sourced (call_frames h xs r os) os (serve_of h xs r os)
