-- Before link i, the first i links have had the event, and what they send stands in the output.
use Rattle.std.proofs.Common.{◌≡◌}
use Rattle.head_table.specs.Events.{reacted}
use Rattle.head_table.specs.Output.{output, note_link}
use Rattle.lent.proofs.Folds.{up_to, fold_to}
use Rattle.head_table.proofs.drive.Given as goal

abbrev pub invariant-loop-i : goal.invariant-loop-i
invariant-loop-i l =
    record {
      table : l.links ≡ up_to (reacted l.event) 1 l.initial.links l.i;
      sent : output l.out l.frames ≡ fold_to (note_link l.event l.sender) 1 l.initial.links l.i (output l.initial.out l.n);
    }
