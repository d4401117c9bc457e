-- `box_processes::Processes::passed` meets its promise.
-- Assumes nothing.
use Rattle.box_processes.specs.Pass.{passed_of}
use Rattle.box_processes.proofs.Processes.passed.Goals as goal
use Rattle.box_processes.proofs.Processes.passed.Goals.{then-activates, else-activates}

pub returns : goal.returns
unfolding passed_of
returns c =
    elim c.if-activates.branch [
      | then-activates w ↦ rw (w.list-is, w.empty-list.ensures, ← c.activates.ensures, w.if-activates.true, c.passed-2.ensures, c.passed.ensures, c.later.ensures)
      | else-activates w ↦ rw (w.list-is, ← c.activates.ensures, w.if-activates.false, c.passed-2.ensures, c.passed.ensures, c.later.ensures)
    ]
