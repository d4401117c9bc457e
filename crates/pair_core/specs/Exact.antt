-- Statement: demand 3's numbers are exact to the tick: each of its four claims holds at its number, and not at one less.
-- Assumes nothing.
use Rattle.std.specs.Prelude.{ℕ, ◌+◌, ◌≡◌, true}
use Rattle.frame.specs.declared.Address.{Address}
use Rattle.frame_range.specs.Fits.{is_individual}
use Rattle.pair_demand.specs.Run.{BoxDrops, HeadDrops, BoxWaits, HeadWaits}
use Rattle.pair_box.specs.End.{BoxEnd}
use Rattle.pair_core.specs.Ends.{ends}

module _ (A : Address) (D : ℕ) where
  open ends A BoxEnd use {HE, BE}

  pub record Exactly : Type 0 where
    pub box-drops : BoxDrops HE BE D (D + 62_500_000) × (¬ BoxDrops HE BE D (D + 62_499_999))
    pub head-drops : HeadDrops HE BE D (D + 62_500_000) × (¬ HeadDrops HE BE D (D + 62_499_999))
    pub box-wait : BoxWaits HE BE D 3_125_000 × (¬ BoxWaits HE BE D 3_124_999)
    pub head-wait : HeadWaits HE BE D 3_125_000 × (¬ HeadWaits HE BE D 3_124_999)

-- for every address that a box may have, and however long frames may take
unfoldable pub Exact : Type 0
Exact = (A : Address) → is_individual A ≡ true → (D : ℕ) → Exactly A D
