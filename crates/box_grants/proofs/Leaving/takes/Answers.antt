-- `box_grants::Leaving::takes` meets its promise.
-- Assumes nothing.
use Rattle.box_grants.proofs.Leaving.takes.Goals as goal

pub returns-in-Past : goal.returns-in-Past
returns-in-Past c = rw (c.is_past.ensures, c.in-Past.is)

pub returns-in-Equal : goal.returns-in-Equal
returns-in-Equal c = rw (c.eq.ensures, c.in-Equal.is)
