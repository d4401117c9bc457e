-- Every promise of this crate settles the whole answer.
-- Assumes nothing.
use mathlib.Core.Path.{sym, ◌∙◌}
use Rattle.laws.specs.Settles.{Settles}
use Rattle.frame_queues.proofs.used.Kinds as used-kinds
use Rattle.frame_queues.proofs.used.Reads as used
use Rattle.frame_queues.proofs.Sets.asked.Kinds as asked-kinds
use Rattle.frame_queues.proofs.Sets.asked.Reads as asked
use Rattle.frame_queues.proofs.Sets.octets.Kinds as octets-kinds
use Rattle.frame_queues.proofs.Sets.octets.Reads as octets
use Rattle.frame_queues.proofs.Sets.of.Kinds as of-kinds
use Rattle.frame_queues.proofs.Sets.of.Reads as of
use Rattle.frame_queues.proofs.Sets.cut.Kinds as cut-kinds
use Rattle.frame_queues.proofs.Sets.cut.Reads as cut
use Rattle.frame_queues.proofs.Sets.ends.Kinds as ends-kinds
use Rattle.frame_queues.proofs.Sets.ends.Reads as ends
use Rattle.frame_queues.proofs.Sets.fits.Kinds as fits-kinds
use Rattle.frame_queues.proofs.Sets.fits.Reads as fits

pub used-settles : Settles 1 used-kinds.ps used-kinds.r used.Post
used-settles κs a e x y p q = p ∙ sym q

pub asked-settles : Settles 1 asked-kinds.ps asked-kinds.r asked.Post
asked-settles κs a e x y p q = p ∙ sym q

pub octets-settles : Settles 0 octets-kinds.ps octets-kinds.r octets.Post
octets-settles κs a e x y p q = p ∙ sym q

pub of-settles : Settles 1 of-kinds.ps of-kinds.r of.Post
of-settles κs a e x y p q = p ∙ sym q

pub cut-settles : Settles 0 cut-kinds.ps cut-kinds.r cut.Post
cut-settles κs a e x y p q = p ∙ sym q

pub ends-settles : Settles 0 ends-kinds.ps ends-kinds.r ends.Post
ends-settles κs a e x y p q = p ∙ sym q

pub fits-settles : Settles 0 fits-kinds.ps fits-kinds.r fits.Post
fits-settles κs a e x y p q = p ∙ sym q
