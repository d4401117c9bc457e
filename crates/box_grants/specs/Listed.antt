-- Rules R24, R124, R126 to R128: the list in its array of sixteen, and the choice over it.
-- Assumes nothing.
use Rattle.std.specs.Prelude.{ℕ, ◌+◌, ◌-◌, min, cond, List, ◌++◌, ltb, length, take, set, replicate}
use Rattle.clock.specs.Spans.{none}
use Rattle.clock.specs.declared.Span.{Span}
use Rattle.box_grants.specs.Activation.{room, ahead, Left, settle}
use Rattle.box_grants.specs.declared.GrantList.{GrantList}
use Rattle.box_grants.specs.declared.Choice.{Choice}

-- the list that stands in the array
abbrev pub list_of : GrantList → List Span
list_of s = take (min s.number room) s.entries

-- the array with a list in it, and nothing behind it
abbrev pub packed : List Span → GrantList
packed l = record { entries = l ++ replicate (room - length l) none; number = length l }

unfoldable pub pushed : GrantList → Span → GrantList
pushed s e = cond (ltb s.number room) (record { entries = set s.entries s.number e; number = s.number + 1 }) s

abbrev pub choice_of : Left → Choice
choice_of c = record { list = packed c.list; chosen = c.chosen }

unfoldable pub choose_of : ℕ → ℕ → GrantList → Choice
choose_of now need s = let l = ahead now (list_of s) in choice_of (settle (length l) now need l)
