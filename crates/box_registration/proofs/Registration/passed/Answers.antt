-- `box_registration::Registration::passed` meets its promise.
-- Assumes nothing.
use Rattle.box_registration.specs.Pass.{passed_of}
use Rattle.box_registration.proofs.Registration.passed.Goals as goal

pub returns : goal.returns
unfolding passed_of
returns c = rw (c.passed-3.ensures, c.passed-2.ensures, c.passed.ensures)
