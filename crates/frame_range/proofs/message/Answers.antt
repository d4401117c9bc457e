-- `frame_range::message` meets its promise.
-- Assumes nothing.
use Rattle.std.proofs.Common.{rules}
use Rattle.frame_range.specs.Fits.{fits_message}
use Rattle.frame_range.proofs.message.Goals as goal

pub returns-then-individual : goal.returns-then-individual
unfolding fits_message
returns-then-individual c = search rules

pub returns-else-individual : goal.returns-else-individual
unfolding fits_message
returns-else-individual c = search rules
