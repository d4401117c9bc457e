-- What is found before link i, and the marks that the first i links have left.
use Rattle.std.proofs.Common.{◌≡◌, length}
use Rattle.lent.proofs.Folds.{fold_to}
use Rattle.head_survey.specs.Pass.{begun, passed, unmarked}
use Rattle.head_survey.proofs.Marks.{marked}
use Rattle.head_survey.proofs.survey.Given as goal

abbrev pub invariant-loop-i : goal.invariant-loop-i
invariant-loop-i l =
    record {
      found : l.f ≡ fold_to (passed l.links l.look) 1 l.links l.i (begun (length l.links));
      left : l.marks ≡ fold_to marked 1 l.links l.i unmarked;
    }
