-- Statement: a C program's calls on one box, or on one head, by themselves: any calls, in any order, each over the words that the last one
-- left, in the same memory or in other, with anything heard and anything lent.
-- Assumes nothing.
use Rattle.std.specs.Prelude.{ℕ, ◌*◌, ◌≤◌, ◌<◌, ◌≡◌, true, List, ◌∷◌, ◌≢◌, length, take, replicate}
use Rattle.frame_queues.specs.Asked.{asked_of}
use Rattle.frame.specs.Card.{number_of}
use Rattle.frame.specs.declared.Address.{Address}
use Rattle.frame_range.specs.Fits.{is_individual}
use Rattle.box_calls.specs.Advance.{advance_of}
use Rattle.box_calls.specs.Box.{fresh_of, register_of, deregister_of, report_of, tick_of}
use Rattle.box_calls.specs.declared.Answer.{Answer}
use Rattle.box_calls.specs.declared.FloorBox.{FloorBox}
use Rattle.box_laws.specs.Stated as core
use Rattle.face_box.specs.Box.{box_words}
use Rattle.head_judging.specs.declared.Call.{Call}
use Rattle.frame_reader.specs.Decode.{read_of}
use Rattle.head_calls.specs.Serve.{serve_of}
use Rattle.head_laws.specs.Stated as core-head
use Rattle.face_head.specs.Head.{head_words}
use Rattle.face_head.specs.Table.{table_words, links_in, links_at}
use Rattle.face_head_calls.specs.Calls as headface
use Rattle.face_head_calls.specs.Calls.{head_at, begun_of}
use Rattle.pair_head.specs.End as end
use Rattle.face_box_calls.specs.Calls.{Left, words_at, box_at, is_lent, heard_of, fresh_call, box_call, advance_call}
use Rattle.pair_wire.specs.Message.{are_octets}
use Rattle.face_words.specs.Words.{laid}
use Rattle.face_pair.specs.Box as box
use Rattle.face_pair.specs.Head as head

-- THE BOX
pub data BoxCall : Type 0 where
  fresh register deregister tick : box.Lent → BoxCall
  -- how many queue sets, and their octets
  report : ℕ → List ℕ → box.Lent → BoxCall
  hear : List ℕ → ℕ → box.Lent → BoxCall
  -- by so many ticks, with the memory for the number made
  advance : ℕ → List ℕ → box.Lent → BoxCall

abbrev pub lent_box : BoxCall → box.Lent
lent_box (fresh l) = l
lent_box (register l) = l
lent_box (deregister l) = l
lent_box (tick l) = l
lent_box (report number sets l) = l
lent_box (hear os random l) = l
lent_box (advance n made l) = l

-- a slice of octets holds octets, and there is a word for the number made
abbrev pub Handed : BoxCall → Type 0
Handed (fresh l) = Unit {0}
Handed (register l) = Unit {0}
Handed (deregister l) = Unit {0}
Handed (tick l) = Unit {0}
Handed (report number sets l) = are_octets (number ∷ sets) ≡ true
Handed (hear os random l) = are_octets os ≡ true
Handed (advance n made l) = 1 ≤ length made

module _ (A : Address) where
  -- the core's call
  abbrev pub core_of : BoxCall → FloorBox → Answer
  core_of (fresh l) b = fresh_of A
  core_of (register l) b = register_of b
  core_of (deregister l) b = deregister_of b
  core_of (tick l) b = tick_of b
  core_of (report number sets l) b = report_of (asked_of number sets) b
  core_of (hear os random l) b = heard_of os random b
  core_of (advance n made l) b = (advance_of b n).answer

  -- what the C face's functions promise to leave
  abbrev pub box_left : List ℕ → BoxCall → Left
  box_left block (fresh l) = fresh_call A.0 block l.frames l.reply
  box_left block (register l) = box_call register_of block l.frames l.reply
  box_left block (deregister l) = box_call deregister_of block l.frames l.reply
  box_left block (tick l) = box_call tick_of block l.frames l.reply
  box_left block (report number sets l) = box_call (report_of (asked_of number sets)) block l.frames l.reply
  box_left block (hear os random l) = box_call (heard_of os random) block l.frames l.reply
  box_left block (advance n made l) = (advance_call n block l.frames l.reply made).call

  -- the blocks that a program's calls leave: a fresh one that was answered 0, whatever stood there before; what any call makes of one; and the
  -- same words with something else behind them
  pub data Block : List ℕ → Type 0 where
    begun : (old : List ℕ) (l : box.Lent) → (fresh_call A.0 old l.frames l.reply).number ≡ 0
        → Block (fresh_call A.0 old l.frames l.reply).block
    calls : (block : List ℕ) → Block block → (c : BoxCall) → Handed c → Block (box_left block c).block
    moves : (block : List ℕ) → Block block → (behind : List ℕ) → Block (box.moved block behind)

  -- what is promised of each
  pub record BoxPromise (block : List ℕ) : Type 0 where
    -- the words are those of a box that a run of the core reaches
    pub words : words_at block ≡ box_words (box_at block)
    pub reached : core.Run (box_at block)
    -- a call that is lent enough is the core's: its number, and the box that is then in the block
    pub call : (c : BoxCall) → Handed c → is_lent (length block) (length (lent_box c).frames) (length (lent_box c).reply) ≡ true
        → ((box_left block c).number ≡ number_of (core_of c (box_at block)).reply) × (box_at (box_left block c).block ≡ (core_of c (box_at block)).next)
    -- one that is not is 100, and the block is as it was
    pub short : (c : BoxCall) → ¬ (is_lent (length block) (length (lent_box c).frames) (length (lent_box c).reply) ≡ true)
        → ((box_left block c).number ≡ 100) × ((box_left block c).block ≡ block)
    pub never : (c : BoxCall) → (box_left block c).number ≢ 13
    pub ticks : (l : box.Lent) → 120 ≤ length l.frames → 19 ≤ length l.reply → (box_left block (tick l)).number ≡ 0

  unfoldable pub BoxRuns : Type 0
  BoxRuns = (block : List ℕ) → Block block → BoxPromise block

-- THE HEAD
abbrev pub HeadHanded : head.Asked → Type 0
HeadHanded (head.asks r l) = Unit {0}
HeadHanded (head.hears link os l) = are_octets os ≡ true
HeadHanded (head.fresh a reply) = is_individual a ≡ true
HeadHanded (head.again w f) = Unit {0}
HeadHanded (head.moves behind beyond) = length beyond < 5

-- the words that a program's calls leave: a fresh head that was answered 0, and what any call makes of one; a tick is a request here, and so is
-- an advance (`request` of facelaws' specs/Advance.antt)
pub data HeadWordsLeft : head.Words → Type 0 where
  begun : (a : Address) (old : head.Words) (reply : List ℕ) → (begun_of a old.head old.links reply).number ≡ 0
      → HeadWordsLeft (head.begun (begun_of a old.head old.links reply)).next
  calls : (w : head.Words) → HeadWordsLeft w → (c : head.Asked) → HeadHanded c → HeadWordsLeft (head.asked w c).next

pub record HeadPromise (w : head.Words) : Type 0 where
  -- the words are those of a head and a table that a run of the core reaches
  pub head-words : laid w.head (replicate 5 0) ≡ head_words (head_at w.head)
  pub links-words : take (5 * links_in (length w.links)) w.links ≡ table_words (links_at w.links)
  pub reached : core-head.Run (head_at w.head) (links_at w.links)
  -- a request that is lent enough is the core's: its number, the head and the table that are then in the words, the frames handed out
  pub request : (r : Call) (l : head.Lent) → headface.is_lent (length w.head) (length l.reply) ≡ true
      → ((head.served w r l).number ≡ number_of (serve_of (head_at w.head) (links_at w.links) r l.output).answer.reply)
      × (head.state_at (head.answered (head.served w r l)).next ≡ (end.asked (head.state_at w) r l.output).next)
      × (head.sent_in (head.served w r l) ≡ (end.asked (head.state_at w) r l.output).sent)
  -- one that is not is 100, and changes nothing
  pub short : (r : Call) (l : head.Lent) → ¬ (headface.is_lent (length w.head) (length l.reply) ≡ true)
      → head.served w r l ≡ headface.left 100 w.head w.links l.output l.reply
  -- octets that the reader takes are the request to hear their message, and others change nothing
  pub octets : (link : ℕ) (os : List ℕ) (l : head.Lent) → number_of (read_of os).reply ≡ 0
      → headface.heard_of link os w.head w.links l.output l.reply ≡ head.served w (Call.Hear link (read_of os).message) l
  pub noise : (link : ℕ) (os : List ℕ) (l : head.Lent) → number_of (read_of os).reply ≢ 0
      → (head.answered (headface.heard_of link os w.head w.links l.output l.reply)).next ≡ w
  pub never : (c : head.Asked) → (head.asked w c).reply ≢ 13
  pub ticks : (l : head.Lent) → 10 ≤ length l.reply → 60 * links_in (length w.links) ≤ length l.output
      → (head.served w Call.Tick l).number ≡ 0

unfoldable pub HeadRuns : Type 0
HeadRuns = (w : head.Words) → HeadWordsLeft w → HeadPromise w
