-- Statement: the head as a C program holds it, five words and five for each link, as the other end of the box at an address: over the
-- definitions that the promises of the C face cite. It may be made fresh again at any time, in any memory, and lent in other memory as it is.
-- Assumes nothing.
use Rattle.std.specs.Prelude.{ℕ, suc, ◌+◌, ◌*◌, ◌<◌, ◌≡◌, true, cond, List, [], ◌++◌, ◌≢◌, eqb, length, take, get_or}
use Rattle.frame.specs.declared.Address.{Address}
use Rattle.frame_range.specs.Fits.{is_individual}
use Rattle.head_judging.specs.declared.Call.{Call}
use Rattle.head_laws.specs.Stated.{RequestTyped, NotTick}
use Rattle.pair_wire.specs.Message.{are_octets, message_in, stamped}
use Rattle.pair_demand.specs.Run.{Answer, End}
use Rattle.pair_demand.specs.Face.{Face, through}
use Rattle.pair_head.specs.End.{HeadState, frames_in, handed_in, Foreign, HeadEnd}
use Rattle.face_head.specs.Table.{links_in, links_at}
use Rattle.face_head_calls.specs.Calls.{Left, BegunLeft, head_at, served_of, heard_of, begun_of}

-- the head's block, and the words of its links
pub record Words : Type 0 where
  pub head : List ℕ
  pub links : List ℕ

abbrev pub state_at : Words → HeadState
state_at w = record { head = head_at w.head; table = links_at w.links }

-- what a call lends beside them
pub record Lent : Type 0 where
  pub output : List ℕ
  pub reply : List ℕ

-- five words of the head and five for each link are as they were; what was lent behind them is gone
abbrev pub moved : Words → List ℕ → List ℕ → Words
moved w behind beyond =
    record { head = take 5 w.head ++ behind; links = take (5 * links_in (length w.links)) w.links ++ beyond }

-- what goes with a frame of the box: the link number, the timestamp that it left with, and what the call lends
pub record Heard : Type 0 where
  pub link : ℕ
  pub stamp : ℕ
  pub lent : Lent

-- a call that is done hands out as many frames as word 0 of its reply says, sixty octets each, from the start of the output
abbrev pub sent_in : Left → List (List ℕ)
sent_in l = cond (eqb l.number 0) (frames_in (get_or l.reply 0 0) l.output) []

abbrev pub answered : Left → Answer Words (List ℕ)
answered l = record { reply = l.number; next = record { head = l.head; links = l.links }; sent = sent_in l }

-- a fresh start hands out nothing
abbrev pub begun : BegunLeft → Answer Words (List ℕ)
begun l = record { reply = l.number; next = record { head = l.head; links = l.links }; sent = [] }

-- whatever stood in the words before
abbrev pub Fresh : Words → Type 0
Fresh w =
    (a : Address) × (old : Words) × (reply : List ℕ)
    × ((begun_of a old.head old.links reply).number ≡ 0)
    × (w ≡ (begun (begun_of a old.head old.links reply)).next)

-- a client's request, octets of another box under a link number, or a fresh start over the same words. The last two are more than a call.
-- `again`: the memory was lost, and the head was made fresh, there or elsewhere, with as many links as it likes. `moves`: from then on the calls
-- lend the words of the head and of its links with something else behind each, or with nothing
pub data Asked : Type 0 where
  asks : Call → Lent → Asked
  hears : ℕ → List ℕ → Lent → Asked
  fresh : Address → List ℕ → Asked
  again : (w : Words) → Fresh w → Asked
  moves : List ℕ → List ℕ → Asked

abbrev pub served : Words → Call → Lent → Left
served w r l = served_of r w.head w.links l.output l.reply

-- what isn't octets is in no slice of them
abbrev pub heard : Words → ℕ → List ℕ → Lent → Answer Words (List ℕ)
heard w link os l =
    cond (are_octets os) (answered (heard_of link os w.head w.links l.output l.reply)) (record { reply = 1; next = w; sent = [] })

abbrev pub asked : Words → Asked → Answer Words (List ℕ)
asked w (asks r l) = answered (served w r l)
asked w (hears link os l) = heard w link os l
asked w (fresh a reply) = begun (begun_of a w.head w.links reply)
asked w (again made f) = record { reply = 0; next = made; sent = [] }
asked w (moves behind beyond) = record { reply = 0; next = moved w behind beyond; sent = [] }

-- links are numbered from 1, and have five words each: the address, the state (0 idle, 1 waiting, 2 registered), and their timers
abbrev pub link_with : Words → ℕ → (ℕ → ℕ → Type 0) → Type 0
link_with w n P =
    (i : ℕ) × (n ≡ suc i) × (i < links_in (length w.links)) × P (get_or w.links (5 * i) 0) (get_or w.links (5 * i + 1) 0)

module _ (A : Address) where
  -- numbers fit their types; a tick is one of both ends; under A the head hears only the box; a head is given an address that it may have;
  -- five words more behind the links would be one link more
  abbrev pub Fair : Asked → Type 0
  Fair (asks r l) = RequestTyped r × NotTick r × Foreign A (handed_in r)
  Fair (hears link os l) = Foreign A (message_in os)
  Fair (fresh a reply) = is_individual a ≡ true
  Fair (again w f) = Unit {0}
  Fair (moves behind beyond) = length beyond < 5

  abbrev pub HeadFace : Face (HeadEnd A)
  HeadFace =
      record {
        State = Words;
        Call = Asked;
        Via = Heard;
        Lent = Lent;
        stands = state_at;
        Fresh = Fresh;
        Fair = Fair;
        call = asked;
        hear = λ w v os. cond (are_octets os) (heard w v.link (stamped v.stamp os) v.lent) (record { reply = 1; next = w; sent = [] });
        tick = λ w l. answered (served w Call.Tick l);
        Held = λ w n. link_with w n (λ address state. (state ≢ 0) × (address ≡ A.0));
        Registered = λ w n. link_with w n (λ address state. (state ≡ 2) × (address ≡ A.0));
        Waiting = λ w n. link_with w n (λ address state. state ≡ 1);
      }

  abbrev pub HeadWords : End (List ℕ) (List ℕ)
  HeadWords = through HeadFace
