use mathlib.Core.Path.{◌≡◌}
use lib.ListN.{length}
use Rattle.box_grants.specs.Activation.{settle}
use Rattle.box_grants.specs.Listed.{list_of}
use Rattle.box_grants.specs.Laws.{Packs}
use Rattle.box_grants.proofs.GrantList.choose.Given as goal

abbrev pub invariant-loop-list : goal.invariant-loop-list
invariant-loop-list l =
    (p : Packs l.list) × (settle (length p.list) l.now.0 l.need p.list ≡ settle (length (list_of l.initial.list)) l.now.0 l.need (list_of l.initial.list))

abbrev pub decreases-loop-list : goal.decreases-loop-list
decreases-loop-list l = l.list.number
