-- Statement: short names for the head at an address, a box at the same address, and a moment of the two.
-- Assumes nothing.
use Rattle.std.specs.Prelude.{ℕ, List}
use Rattle.frame.specs.declared.Address.{Address}
use Rattle.pair_demand.specs.Run.{End, Moment}
use Rattle.pair_head.specs.End.{HeadEnd}

pub record Ends : Type 1 where
  pub HE : End (List ℕ) (List ℕ)
  pub BE : End (List ℕ) (List ℕ)
  pub M : Type 0

abbrev pub ends : Address → (Address → End (List ℕ) (List ℕ)) → Ends
ends A Box = record { HE = HeadEnd A; BE = Box A; M = Moment (HeadEnd A) (Box A) }
