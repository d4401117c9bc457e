-- Statement: the head, with the table and the outputs that it is lent, as the other end of the box at an address.
-- Assumes nothing.
use Rattle.std.specs.Prelude.{ℕ, zero, suc, ◌≡◌, true, List, [], ◌∷◌, take, drop}
use Rattle.std.proofs.Math.Option.{Option, none, some}
use Rattle.frame.specs.Card.{number_of}
use Rattle.frame.specs.declared.Address.{Address}
use Rattle.frame.specs.declared.Message.{Message}
use Rattle.frame.specs.declared.Reply.TheVariants.{Done}
use Rattle.head_state.specs.declared.Head.{Head}
use Rattle.head_links.specs.Link.{is_held}
use Rattle.head_links.specs.declared.Link.{Link}
use Rattle.head_links.specs.declared.State.TheVariants.{Waiting, Registered}
use Rattle.head_survey.specs.Facts.{link_from}
use Rattle.head_judging.specs.declared.Call.{Call}
use Rattle.head_calls.specs.Fresh.{fresh_of}
use Rattle.head_calls.specs.Serve.{Served, serve_of}
use Rattle.head_laws.specs.Stated.{RequestTyped, NotTick}
use Rattle.pair_wire.specs.Message.{message_in}
use Rattle.pair_demand.specs.Run.{Answer, End}

-- a head and its table
pub record HeadState : Type 0 where
  pub head : Head
  pub table : List Link

-- link numbers are places, from 1; a number that no link has finds an idle one
abbrev pub link_at : HeadState → ℕ → Link
link_at s n = link_from n 1 s.table

-- a request, or octets under a link number, each with the output that it lends
pub data HeadCall : Type 0 where
  asks : Call → List ℕ → HeadCall
  hears : ℕ → List ℕ → List ℕ → HeadCall

-- what goes with a frame of the box
pub record HeadVia : Type 0 where
  pub link : ℕ
  pub output : List ℕ

-- the frames that stand in an output, packed from its start, sixty octets each
abbrev pub frames_in : ℕ → List ℕ → List (List ℕ)
frames_in zero os = []
frames_in (suc n) os = take 60 os ∷ frames_in n (drop 60 os)

abbrev pub answered : Served → Answer HeadState (List ℕ)
answered a =
    record {
      reply = number_of a.answer.reply;
      next = record { head = a.answer.next; table = a.table };
      sent = frames_in a.answer.frames a.octets;
    }

-- what `serve` promises
abbrev pub asked : HeadState → Call → List ℕ → Answer HeadState (List ℕ)
asked s r out = answered (serve_of s.head s.table r out)

-- octets that carry no message are the reader's to refuse, and reach nothing
abbrev pub heard : HeadState → ℕ → List ℕ → Option Message → Answer HeadState (List ℕ)
heard s link out none = record { reply = 1; next = s; sent = [] }
heard s link out (some m) = asked s (Call.Hear link m) out

abbrev pub call_of : HeadState → HeadCall → Answer HeadState (List ℕ)
call_of s (asks r out) = asked s r out
call_of s (hears link os out) = heard s link out (message_in os)

-- the message that a request hands in
abbrev pub handed_in : Call → Option Message
handed_in (Call.Open start length sync window) = none
handed_in (Call.Admit a pending sync) = none
handed_in (Call.Reject a pending sync) = none
handed_in (Call.Reregister link sync) = none
handed_in (Call.Deregister link) = none
handed_in (Call.Gate link grants) = none
handed_in (Call.Hear link m) = some m
handed_in Call.Tick = none
handed_in (Call.Advance n) = none

-- what `fresh` promises of 1 to 64 links
abbrev pub Fresh : HeadState → Type 0
Fresh s =
    (a : Address) × (xs : List Link)
    × ((fresh_of a xs).answer.reply ≡ Done)
    × (s ≡ record { head = (fresh_of a xs).answer.next; table = (fresh_of a xs).table })

module _ (A : Address) where
  -- under A the head hears only the box's frames, and these are no calls
  abbrev pub Foreign : Option Message → Type 0
  Foreign none = Unit {0}
  Foreign (some m) = ¬ (m.source ≡ A)

  -- numbers fit their types; a tick, and so an advance, is one of both ends
  abbrev pub Fair : HeadCall → Type 0
  Fair (asks r out) = RequestTyped r × NotTick r × Foreign (handed_in r)
  Fair (hears link os out) = Foreign (message_in os)

  -- a link that only waits counts as held
  abbrev pub HeldLink : Link → Type 0
  HeldLink l = (is_held l.state ≡ true) × (l.address ≡ A)

  abbrev pub RegisteredLink : Link → Type 0
  RegisteredLink l = (l.state ≡ Registered) × (l.address ≡ A)

  -- the head, as the other end of the box at A
  abbrev pub HeadEnd : End (List ℕ) (List ℕ)
  HeadEnd =
      record {
        State = HeadState;
        Call = HeadCall;
        Via = HeadVia;
        Lent = List ℕ;
        Place = ℕ;
        Fresh = Fresh;
        Fair = Fair;
        call = call_of;
        hear = λ s v os. heard s v.link v.output (message_in os);
        tick = λ s out. asked s Call.Tick out;
        Held = λ s n. HeldLink (link_at s n);
        Registered = λ s n. RegisteredLink (link_at s n);
        Waiting = λ s n. (link_at s n).state ≡ Waiting;
      }
