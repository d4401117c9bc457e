-- Face: how many ticks of a head hand out nothing, told of what stands in the caller's memory.
-- Assumes nothing.
use Rattle.std.specs.Prelude.{ℕ, cond, ◌&&◌, List, leb, length, replicate}
use Rattle.head_state.specs.Head.{sound_of}
use Rattle.head_state.specs.declared.Head.{Head}
use Rattle.face_head.specs.Head.{head_in}
use Rattle.face_head.specs.Table.{links_at}
use Rattle.head_links.specs.declared.Link.{Link}
use Rattle.head_survey.specs.Facts.{sound_table, quiet_all}
use Rattle.face_words.specs.Words.{laid}

-- the head that stands in a block
unfoldable pub head_at : List ℕ → Head
head_at block = head_in (laid block (replicate 5 0))

-- how many ticks of a head hand out nothing: those before the first link rings, of what is sound
unfoldable pub quiet_of : Head → List Link → ℕ
quiet_of h xs = cond (sound_of h && sound_table xs) (quiet_all xs) 0

-- of the head in the block and the links in the words; none where the block is too short
unfoldable pub until_call : List ℕ → List ℕ → ℕ
until_call head links = cond (leb 5 (length head)) (quiet_of (head_at head) (links_at links)) 0
