-- `frame_queues::Sets::fits` meets its promise.
-- Assumes nothing.
use Rattle.frame_queues.specs.Queues.{fits_sets, ends_at}
use Rattle.frame_queues.proofs.Sets.fits.Goals as goal

pub returns : goal.returns
unfolding fits_sets ends_at
returns c = rw (c.ends.ensures, c.used.ensures, c.octets.ensures)
