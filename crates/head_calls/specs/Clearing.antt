-- Code: what a fresh head offers to the links.
-- Assumes nothing.
use Rattle.std.specs.Prelude.{Bool, cond}
use Rattle.head_table.specs.declared.Event.{Event}

-- R153, R155: an accepted head clears the links, a refused one offers them nothing
unfoldable pub clearing : Bool → Event
clearing done = cond done Event.Clear Event.Nothing
