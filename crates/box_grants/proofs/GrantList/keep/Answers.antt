-- `box_grants::GrantList::keep` meets its promise.
-- Assumes nothing.
use Rattle.box_grants.specs.Sifting.{kept}
use Rattle.box_grants.proofs.GrantList.keep.Goals as goal

pub returns-then-is_past : goal.returns-then-is_past
unfolding kept
returns-then-is_past c = rw (← c.is_past.ensures, c.if-is_past.true)

pub returns : goal.returns
unfolding kept
returns c = rw (c.push.ensures, ← c.is_past.ensures, c.if-is_past.false)
