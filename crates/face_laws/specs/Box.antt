-- Statement: which words the calls of the box take: those of a sound box, word for word, and no others. And what a fresh box leaves in the
-- caller's memory. What the calls leave is on the page Calls of face_box_calls.
-- Assumes nothing.
use Rattle.std.specs.Prelude.{ℕ, ◌-◌, ◌^◌, ◌<◌, ◌≤◌, ◌≡◌, true, false, List, [], ◌∷◌, ◌≢◌, length, take, drop, replicate}
use Rattle.std.specs.Borrow.{Bor}
use Rattle.clock.specs.declared.Quanta.{Quanta}
use Rattle.clock.specs.declared.Timer.{Timer}
use Rattle.clock.specs.Spans.{none}
use Rattle.clock.specs.declared.Span.{Span}
use Rattle.frame.specs.Card.{number_of}
use Rattle.frame_range.specs.Fits.{is_individual}
use Rattle.frame_reader.specs.Decode.{read_of}
use Rattle.box_light.specs.declared.Light.{Light}
use Rattle.box_light.specs.declared.Phase.{Phase}
use Rattle.box_light.specs.declared.Phase.TheVariants.{Rest, Before, Random, Warming, Asking, Due, Lit, Open, Fading}
use Rattle.frame_queues.specs.declared.Sets.{Sets}
use Rattle.box_calls.specs.Box.{sound_of, register_of, deregister_of, report_of, tick_of}
use Rattle.box_calls.specs.declared.Answer.{Answer}
use Rattle.box_calls.specs.declared.FloorBox.{FloorBox}
use Rattle.face_words.specs.Words.{laid}
use Rattle.face_box.specs.Box.{box_words}
use Rattle.face_box_calls.specs.Calls.{Left, left, box_at, is_lent, heard_of, fresh_call, box_call, next_call}

abbrev pub TimerFits : Timer → Type 0
TimerFits t = t.left < 2 ^ 32

abbrev pub QuantaFit : Quanta → Type 0
QuantaFit q = q.0 < 2 ^ 32

-- a start stands above the length in their word, so the length is what must fit
abbrev pub EntryFits : Span → Type 0
EntryFits e = QuantaFit e.length

abbrev pub EntriesFit : List Span → Type 0
EntriesFit [] = Unit {0}
EntriesFit (e ∷ es) = EntryFits e × EntriesFit es

abbrev pub PhaseFits : Phase → Type 0
PhaseFits Rest = Unit {0}
PhaseFits (Before random sync) = QuantaFit random × QuantaFit sync
PhaseFits (Random sync) = QuantaFit sync
PhaseFits Warming = Unit {0}
PhaseFits Asking = Unit {0}
PhaseFits (Due entry sync) = EntryFits entry × QuantaFit sync
PhaseFits (Lit n sync) = QuantaFit n × QuantaFit sync
PhaseFits Open = Unit {0}
PhaseFits Fading = Unit {0}

abbrev pub LightFits : Light → Type 0
LightFits l = TimerFits l.timer × PhaseFits l.phase

-- what the types of the fields see to by themselves, and that nothing stands behind the list in its sixteen places
pub record Fits (b : FloorBox) : Type 0 where
  pub count : b.processes.count.0 < 2 ^ 32
  pub wait : TimerFits b.processes.registration.wait
  pub watchdog : TimerFits b.processes.registration.watchdog
  pub report : TimerFits b.processes.registration.report
  pub port : b.processes.registration.port < 2 ^ 16
  pub sync : QuantaFit b.processes.registration.sync
  pub entries : EntriesFit b.processes.list.entries
  pub light : LightFits b.processes.light
  pub places : length b.processes.list.entries ≡ 16
  pub behind : drop b.processes.list.number b.processes.list.entries ≡ replicate (16 - b.processes.list.number) none

-- the block's first 29 words are those of this box
pub record Words (block : List ℕ) (b : FloorBox) : Type 0 where
  pub fits : Fits b
  pub words : take 29 block ≡ box_words b

-- they are those of a sound box
pub record Stand (block : List ℕ) : Type 0 where
  pub its : FloorBox
  pub has : Words block its
  pub sound : sound_of its ≡ true

-- the calls that judge the block: a hearing is one if the reader takes the frame
pub data Judging : (FloorBox → Answer) → Type 0 where
  register : Judging register_of
  deregister : Judging deregister_of
  report : (sets : Sets) → Judging (report_of sets)
  hear : (octets : List ℕ) (random : ℕ) → number_of (read_of octets).reply ≡ 0 → Judging (heard_of octets random)
  tick : Judging tick_of

-- one that lends enough is answered otherwise than 13 just where a sound box stands
unfoldable pub BoxJudged : Type 0
BoxJudged =
    (f : FloorBox → Answer) → Judging f → (block frames reply : List ℕ) → 29 ≤ length block → 120 ≤ length frames → 19 ≤ length reply
    → (Stand block → (box_call f block frames reply).number ≢ 13)
    × ((box_call f block frames reply).number ≢ 13 → Stand block)

-- a number, and that there is no drift, no frame and no notice
abbrev pub bare : ℕ → List ℕ → List ℕ → List ℕ → Left
bare n block frames reply = left n block frames (laid (0 ∷ 0 ∷ 0 ∷ []) reply)

-- is all that a refusal tells; it leaves block and frames
unfoldable pub BoxRefused : Type 0
BoxRefused =
    (f : FloorBox → Answer) → Judging f → (block frames reply : List ℕ) → 29 ≤ length block → 120 ≤ length frames → 19 ≤ length reply
    → (box_call f block frames reply).number ≢ 0
    → box_call f block frames reply ≡ bare (box_call f block frames reply).number block frames reply

-- a frame that the reader refuses is refused by the reader's number, whatever the words
unfoldable pub BoxReads : Type 0
BoxReads =
    (octets : List ℕ) (random : ℕ) (block frames reply : List ℕ) → 29 ≤ length block → 120 ≤ length frames → 19 ≤ length reply
    → number_of (read_of octets).reply ≢ 0
    → box_call (heard_of octets random) block frames reply ≡ bare (number_of (read_of octets).reply) block frames reply

-- a box that has the words is the one that a call unpacks, and packing that gives the very words
unfoldable pub BoxRepacked : Type 0
BoxRepacked = (block : List ℕ) (b : FloorBox) → 29 ≤ length block → Words block b → (box_at block ≡ b) × (box_words (box_at block) ≡ take 29 block)

-- where no box has them, nothing is sent
unfoldable pub NobodySends : Type 0
NobodySends =
    (block : List ℕ) (control frame : Bor (List ℕ)) → 29 ≤ length block → ((b : FloorBox) → ¬ (Words block b))
    → next_call block control frame ≡ 0

-- a fresh box, word for word: too little lent, an address that is none of a box's, and done; nothing but the last two writes a word
pub record Fresh (address : ℕ) (block frames reply : List ℕ) : Type 0 where
  pub short : is_lent (length block) (length frames) (length reply) ≡ false → fresh_call address block frames reply ≡ left 100 block frames reply
  pub range : is_lent (length block) (length frames) (length reply) ≡ true → is_individual (record { 0 = address }) ≡ false
      → fresh_call address block frames reply ≡ bare 4 (laid (replicate 29 0) block) frames reply
  pub done : is_lent (length block) (length frames) (length reply) ≡ true → is_individual (record { 0 = address }) ≡ true
      → fresh_call address block frames reply ≡ bare 0 (laid (address ∷ replicate 28 0) block) frames reply

unfoldable pub BoxFresh : Type 0
BoxFresh = (address : ℕ) (block frames reply : List ℕ) → Fresh address block frames reply
