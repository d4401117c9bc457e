-- The box's end of demand 3 is exact: the head holds no link for A through D + 62,499,999 ticks, and the box is registered at their end.
-- Assumes nothing.
use Prim.Native.Nat.{ℕ, ◌+◌}
use mathlib.Core.Path.{◌≡◌}
use mathlib.Core.Bool.{true}
use native.Mathlib.Omega.{arith}
use Rattle.frame.specs.declared.Address.{Address}
use Rattle.frame_range.specs.Fits.{is_individual}
use Rattle.box_calls.specs.Hear.{hear_of}
use Rattle.pair_demand.specs.Run.{BoxDrops}
use Rattle.pair_box.specs.End.{BoxEnd}
use Rattle.pair_core.specs.Ends.{ends}
use Rattle.pair_core.proofs.Alike.{floor-alike}
use Rattle.pair_core.proofs.Lingers.{Silent, Lingers, Echoes, lingers, echoes}
use Rattle.pair_core.proofs.Pairs.{Dropped, to-dropped}
use Rattle.pair_core.proofs.Reach.{Reach, next, shown}
use Rattle.pair_core.proofs.Way.{start-fresh}

module _ (A : Address) (i : is_individual A ≡ true) (D : ℕ) where
  open ends A BoxEnd use {HE, BE, M}

  abbrev P : M → Type 0
  P = Silent A i hear_of floor-alike D

  abbrev Q : M → Type 0
  Q = Dropped A i hear_of floor-alike D

  abbrev R : M → Type 0
  R = Lingers A i hear_of floor-alike D 0

  stays : (m : M) → Q m → Reach HE BE D P m (D + 62_499_999) R
  stays m q =
      next HE BE D P D 62_499_999 (Echoes A i hear_of floor-alike D 0) R (echoes A i hear_of floor-alike D m q)
      (λ y e. lingers A i hear_of floor-alike D 62_499_999 y e.full)

  pub exact-box-drops : ¬ BoxDrops HE BE D (D + 62_499_999)
  exact-box-drops f =
      let fresh = start-fresh A i hear_of floor-alike D in
      let x = shown HE BE D fresh 32 (D + 62_499_999) P Q R (to-dropped A i hear_of floor-alike D) stays in
      f x.span (omega (arith, x.length)) x.through (tt, x.ends.box.state)
