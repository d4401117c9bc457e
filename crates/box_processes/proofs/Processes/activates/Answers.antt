-- `box_processes::Processes::activates` meets its promise.
-- Assumes nothing.
use Rattle.box_processes.specs.Pass.{activates}
use Rattle.box_processes.proofs.Processes.activates.Goals as goal

pub returns : goal.returns
unfolding activates
returns c = rw (c.is_registered.ensures, c.at_rest.ensures)
