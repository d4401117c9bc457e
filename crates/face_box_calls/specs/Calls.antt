-- Face: what a call of the box leaves in the caller's memory: that of the box in the block, and nothing where too little is lent.
-- Assumes nothing.
use Rattle.std.specs.Prelude.{ℕ, Bool, cond, ◌&&◌, List, [], ◌∷◌, ◌++◌, eqb, leb, ltb, length, drop}
use Rattle.std.specs.Borrow.{Bor}
use Rattle.face_box.specs.Box.{box_words}
use Rattle.face_box.specs.Told.{told_words}
use Rattle.box_calls.specs.Advance.{advance_of}
use Rattle.box_calls.specs.Answer.{refused}
use Rattle.box_calls.specs.Box.{fresh_of}
use Rattle.box_calls.specs.Hear.{hear_of}
use Rattle.box_calls.specs.Send.{send_of}
use Rattle.box_calls.specs.declared.Answer.{Answer}
use Rattle.box_calls.specs.declared.FloorBox.{FloorBox}
use Rattle.frame.specs.Card.{number_of}
use Rattle.frame_reader.specs.Decode.{read_of}
use Rattle.box_telling.specs.declared.Frames.{Frames}
use Rattle.face_words.specs.Words.{short, laid}
unfoldable pub use Rattle.face_box_pass.specs.Block.{words_at, box_at, until_call}

-- the number that a call returns, and what then stands in the block and in what was lent
pub record Left : Type 0 where
  pub number : ℕ
  pub block : List ℕ
  pub frames : List ℕ
  pub reply : List ℕ

abbrev pub left : ℕ → List ℕ → List ℕ → List ℕ → Left
left n block frames reply = record { number = n; block = block; frames = frames; reply = reply }

-- the number, and what then stands in what was lent beside the block
pub record Told : Type 0 where
  pub number : ℕ
  pub frames : List ℕ
  pub reply : List ℕ

abbrev pub told : ℕ → List ℕ → List ℕ → Told
told n frames reply = record { number = n; frames = frames; reply = reply }

-- 29 words for the box, 120 octets for two frames, 19 words for what is told with four notices
unfoldable pub is_lent : ℕ → ℕ → ℕ → Bool
is_lent block frames reply = leb 29 block && leb 120 frames && leb 19 reply

-- the octets are read, and the message heard
unfoldable pub heard_of : List ℕ → ℕ → FloorBox → Answer
heard_of octets random b =
    let r = read_of octets in
    cond (eqb (number_of r.reply) 0) (hear_of b r.message random) (refused b r.reply)

-- one frame of 60 octets over the beginning, or two
abbrev pub laid_one : List ℕ → List ℕ → List ℕ
laid_one first frames = first ++ drop 60 frames

abbrev pub laid_both : List ℕ → List ℕ → List ℕ → List ℕ
laid_both first second frames = first ++ second ++ drop 120 frames

-- octets that no frame takes stay
abbrev pub laid_frames : Frames → List ℕ → List ℕ
laid_frames sent frames =
    cond (eqb sent.number 0) frames
    (cond (eqb sent.number 1) (laid_one sent.first frames) (laid_both sent.first sent.second frames))

unfoldable pub told_of : Answer → List ℕ → List ℕ → Told
told_of a frames reply = told (number_of a.reply) (laid_frames a.frames frames) (laid (told_words a.drift a.frames.number a.notices) reply)

-- what a call tells, with these words in the block
abbrev pub with : List ℕ → Told → Left
with block t = left t.number block t.frames t.reply

unfoldable pub handed : Answer → List ℕ → List ℕ → List ℕ → Left
handed a block frames reply = with (laid (box_words a.next) block) (told_of a frames reply)

-- a refusal leaves the block as it was
unfoldable pub settled : Answer → List ℕ → List ℕ → List ℕ → Left
settled a block frames reply =
    cond (eqb (number_of a.reply) 0) (handed a block frames reply) (with block (told_of a frames reply))

-- a fresh box stands in the block even where it is refused: it then holds address zero
unfoldable pub fresh_call : ℕ → List ℕ → List ℕ → List ℕ → Left
fresh_call address block frames reply =
    cond (is_lent (length block) (length frames) (length reply))
    (handed (fresh_of (record { 0 = address })) block frames reply)
    (left short block frames reply)

-- a call is that of the box in the block; where too little is lent it is 100, and nothing is touched
unfoldable pub box_call : (FloorBox → Answer) → List ℕ → List ℕ → List ℕ → Left
box_call f block frames reply =
    cond (is_lent (length block) (length frames) (length reply)) (settled (f (box_at block)) block frames reply)
    (left short block frames reply)

-- what an advance leaves: what a call does, and how many ticks were made
pub record AdvanceLeft : Type 0 where
  pub call : Left
  pub made : List ℕ

abbrev pub advance_left : Left → List ℕ → AdvanceLeft
advance_left l made = record { call = l; made = made }

-- an advance is that of the box in the block, and the first word of `made` the number of ticks made; where too little is lent it is 100, and
-- nothing is touched
unfoldable pub advance_call : ℕ → List ℕ → List ℕ → List ℕ → List ℕ → AdvanceLeft
advance_call n block frames reply made =
    let a = advance_of (box_at block) n in
    cond (is_lent (length block) (length frames) (length reply) && leb 1 (length made))
    (advance_left (settled a.answer block frames reply) (laid (a.made ∷ []) made))
    (advance_left (left short block frames reply) made)

-- none where what goes next is empty; the control frame, or where there is none the data frame
unfoldable pub next_call : List ℕ → Bor (List ℕ) → Bor (List ℕ) → ℕ
next_call block control frame =
    cond (ltb (length block) 29) short
    (cond (eqb (length (send_of (box_at block) control frame).now) 0) 0 (cond (ltb 0 (length control.now)) 1 2))
