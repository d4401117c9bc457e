-- Face: the box that stands in a block of the caller's memory, and how many of its ticks are quiet.
-- Assumes nothing.
use Rattle.std.specs.Prelude.{ℕ, cond, List, leb, length, replicate}
use Rattle.face_box.specs.Box.{box_in}
use Rattle.box_calls.specs.Pass.{quiet_of}
use Rattle.box_calls.specs.declared.FloorBox.{FloorBox}
use Rattle.face_words.specs.Words.{laid}

-- the words of the box that stands in a block, and the box
unfoldable pub words_at : List ℕ → List ℕ
words_at block = laid block (replicate 29 0)

unfoldable pub box_at : List ℕ → FloorBox
box_at block = box_in (words_at block)

-- how many ticks of the box in the block are sure to be done and to hand out nothing; none where the block is too short
unfoldable pub until_call : List ℕ → ℕ
until_call block = cond (leb 29 (length block)) (quiet_of (box_at block)) 0
