-- Statement: demand 3's numbers are exact to the tick of the words too: with one tick less each of its four claims is false.
-- Assumes nothing.
use Rattle.std.specs.Prelude.{ℕ, ◌+◌, ◌≡◌, true}
use Rattle.frame.specs.declared.Address.{Address}
use Rattle.frame_range.specs.Fits.{is_individual}
use Rattle.pair_demand.specs.Run.{BoxDrops, HeadDrops, BoxWaits, HeadWaits}
use Rattle.face_pair.specs.Box.{BoxWords}
use Rattle.face_pair.specs.Head.{HeadWords}

pub record OneTickLess (A : Address) (D : ℕ) : Type 0 where
  pub box-drops : ¬ BoxDrops (HeadWords A) (BoxWords A) D (D + 62_499_999)
  pub head-drops : ¬ HeadDrops (HeadWords A) (BoxWords A) D (D + 62_499_999)
  pub box-wait : ¬ BoxWaits (HeadWords A) (BoxWords A) D 3_124_999
  pub head-wait : ¬ HeadWaits (HeadWords A) (BoxWords A) D 3_124_999

-- for every address that a box may have, and however long frames may take
unfoldable pub WordsExact : Type 0
WordsExact = (A : Address) → is_individual A ≡ true → (D : ℕ) → OneTickLess A D
