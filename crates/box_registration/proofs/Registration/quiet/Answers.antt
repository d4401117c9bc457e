-- `box_registration::Registration::quiet` meets its promise.
-- Assumes nothing.
use Rattle.box_registration.specs.Pass.{quiet_of}
use Rattle.box_registration.proofs.Registration.quiet.Goals as goal

pub returns : goal.returns
unfolding quiet_of
returns c = rw (c.min.ensures, c.min-later.ensures, c.quiet-3.ensures, c.quiet-2.ensures, c.quiet.ensures)
