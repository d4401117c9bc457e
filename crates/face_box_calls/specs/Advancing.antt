-- Code: an advance where enough is lent.
-- Assumes nothing.
use Rattle.std.specs.Prelude.{ℕ, List, [], ◌∷◌}
use Rattle.face_box_pass.specs.Block.{box_at}
use Rattle.box_calls.specs.Advance.{advance_of}
use Rattle.face_words.specs.Words.{laid}
use Rattle.face_box_calls.specs.Calls.{settled, AdvanceLeft, advance_left}

unfoldable pub advanced_of : ℕ → List ℕ → List ℕ → List ℕ → List ℕ → AdvanceLeft
advanced_of n block frames reply made =
    let a = advance_of (box_at block) n in
    advance_left (settled a.answer block frames reply) (laid (a.made ∷ []) made)
