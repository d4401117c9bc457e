use Prim.Native.Nat.{◌≤◌}
use mathlib.Core.Path.{◌≡◌}
use mathlib.Core.Bool.{false}
use mathlib.Core.List.{foldl}
use lib.Dec.{ltb}
use lib.ListN.{drop}
use Rattle.box_grants.specs.Walk.{walked}
use Rattle.box_grants.proofs.GrantList.sift.Given as goal

abbrev pub invariant-loop-i : goal.invariant-loop-i
invariant-loop-i l =
    (l.k ≤ l.i)
    × (foldl (walked l.leaving) (record { list = record { entries = l.stay; number = l.k }; gone = ltb l.k l.i }) (drop l.i l.e-items)
    ≡ foldl (walked l.leaving) (record { list = record { entries = l.initial.stay; number = l.initial.k }; gone = false }) l.e-items)
