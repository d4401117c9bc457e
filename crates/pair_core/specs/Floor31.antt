-- Statement: the night that demand 3 remembers: of the box of floor 31 (R219) it is false.
-- Assumes nothing.
use Rattle.std.specs.Prelude.{ℕ, ◌≡◌, true}
use Rattle.clock.specs.Numbers.{watchdog, wait}
use Rattle.frame.specs.declared.Address.{Address}
use Rattle.frame_range.specs.Fits.{is_individual}
use Rattle.pair_demand.specs.Run.{NoHalfOpen}
use Rattle.pair_box.specs.Spoiled.{SpoiledEnd}
use Rattle.pair_head.specs.End.{HeadEnd}

-- at every address that a box may have, and however long frames may take
unfoldable pub Floor31 : Type 0
Floor31 = (A : Address) → is_individual A ≡ true → (D : ℕ) → ¬ NoHalfOpen (HeadEnd A) (SpoiledEnd A) D watchdog wait
