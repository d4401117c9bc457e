-- Before link i, the first i links have had the event.
use Rattle.std.proofs.Common.{◌≡◌}
use Rattle.head_table.specs.Events.{reacted}
use Rattle.lent.proofs.Folds.{up_to}
use Rattle.head_table.proofs.offer.Given as goal

abbrev pub invariant-loop-i : goal.invariant-loop-i
invariant-loop-i l = l.links ≡ up_to (reacted l.event) 1 l.initial.links l.i
