-- Lemmas: the words of the box that stands in a block, where there are enough, are the first of the block.
-- Assumes nothing.
use Rattle.std.specs.Prelude.{ℕ, ◌≤◌, ◌≡◌, List, length, take, replicate}
use Rattle.face_words.specs.Laws.{laid-whole}
use Rattle.face_box_pass.specs.Block.{words_at}

pub whole : (block : List ℕ) → 29 ≤ length block → words_at block ≡ take 29 block
unfolding words_at
whole block h = laid-whole block (replicate 29 0) h
