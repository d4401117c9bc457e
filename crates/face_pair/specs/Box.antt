-- Statement: the floor box with the address A as a C program holds it, a block of words: an end of the pair, over the definitions that the
-- promises of the C face cite. It may be made fresh again at any time, in any memory, and lent in other memory as it is.
-- Assumes nothing.
use Rattle.std.specs.Prelude.{ℕ, ◌≡◌, true, cond, List, [], ◌∷◌, ◌++◌, eqb, take, get_or}
use Rattle.frame.specs.declared.Address.{Address}
use Rattle.frame_queues.specs.Asked.{asked_of}
use Rattle.box_calls.specs.Box.{register_of, deregister_of, report_of, tick_of}
use Rattle.pair_wire.specs.Message.{are_octets, stamped}
use Rattle.pair_demand.specs.Run.{Answer, End}
use Rattle.pair_demand.specs.Face.{Face, through}
use Rattle.pair_box.specs.End.{BoxEnd}
use Rattle.pair_head.specs.End.{frames_in}
use Rattle.face_box_calls.specs.Calls.{Left, box_at, heard_of, fresh_call, box_call}

-- what a call lends beside the block
pub record Lent : Type 0 where
  pub frames : List ℕ
  pub reply : List ℕ

-- what goes with a frame that is heard: the random number, the timestamp that it left with, and what the call lends
pub record Heard : Type 0 where
  pub random : ℕ
  pub stamp : ℕ
  pub lent : Lent

-- a call that is done hands out as many frames as word 1 of its reply says, sixty octets each, from the start of the frames
abbrev pub sent_in : Left → List (List ℕ)
sent_in l = cond (eqb l.number 0) (frames_in (get_or l.reply 1 0) l.frames) []

abbrev pub answered : Left → Answer (List ℕ) (List ℕ)
answered l = record { reply = l.number; next = l.block; sent = sent_in l }

-- the 29 words of the box are as they were; what was lent behind them is gone
abbrev pub moved : List ℕ → List ℕ → List ℕ
moved block behind = take 29 block ++ behind

module _ (A : Address) where
  -- whatever stood in the block before
  abbrev pub Fresh : List ℕ → Type 0
  Fresh block =
      (old : List ℕ) × (l : Lent)
      × ((fresh_call A.0 old l.frames l.reply).number ≡ 0)
      × (block ≡ (fresh_call A.0 old l.frames l.reply).block)

  -- the last two are more than a call. `again`: the memory was lost, and the box was made fresh, there or elsewhere. `moves`: from then on the
  -- calls lend the box's words with something else behind them, or with nothing
  pub data Asked : Type 0 where
    register deregister fresh : Lent → Asked
    -- how many queue sets, and their octets
    report : ℕ → List ℕ → Lent → Asked
    again : (block : List ℕ) → Fresh block → Asked
    moves : List ℕ → Asked

  abbrev pub asked : List ℕ → Asked → Answer (List ℕ) (List ℕ)
  asked block (register l) = answered (box_call register_of block l.frames l.reply)
  asked block (deregister l) = answered (box_call deregister_of block l.frames l.reply)
  asked block (report number sets l) = answered (box_call (report_of (asked_of number sets)) block l.frames l.reply)
  asked block (fresh l) = answered (fresh_call A.0 block l.frames l.reply)
  asked block (again made f) = record { reply = 0; next = made; sent = [] }
  asked block (moves behind) = record { reply = 0; next = moved block behind; sent = [] }

  -- a slice of octets holds octets
  abbrev pub Fair : Asked → Type 0
  Fair (register l) = Unit {0}
  Fair (deregister l) = Unit {0}
  Fair (report number sets l) = are_octets (number ∷ sets) ≡ true
  Fair (fresh l) = Unit {0}
  Fair (again block f) = Unit {0}
  Fair (moves behind) = Unit {0}

  -- what isn't octets is in no slice of them
  abbrev pub heard : List ℕ → Heard → List ℕ → Answer (List ℕ) (List ℕ)
  heard block v os =
      cond (are_octets os)
      (answered (box_call (heard_of (stamped v.stamp os) v.random) block v.lent.frames v.lent.reply))
      (record { reply = 1; next = block; sent = [] })

  abbrev pub BoxFace : Face (BoxEnd A)
  BoxFace =
      record {
        State = List ℕ;
        Call = Asked;
        Via = Heard;
        Lent = Lent;
        stands = box_at;
        Fresh = Fresh;
        Fair = Fair;
        call = asked;
        hear = heard;
        tick = λ block l. answered (box_call tick_of block l.frames l.reply);
        -- word 2 of the block is its state: 3 in REGISTERED, 2 in REGISTER_REQ
        Held = λ block p. get_or block 2 0 ≡ 3;
        Registered = λ block p. get_or block 2 0 ≡ 3;
        Waiting = λ block p. get_or block 2 0 ≡ 2;
      }

  abbrev pub BoxWords : End (List ℕ) (List ℕ)
  BoxWords = through BoxFace
