-- Rules R80, R87: a sound list.
-- Assumes nothing.
use Rattle.std.specs.Prelude.{Bool, true, ◌&&◌, List, [], ◌∷◌, leb}
use Rattle.clock.specs.Numbers.{fits}
use Rattle.clock.specs.declared.Span.{Span}
use Rattle.box_grants.specs.Activation.{room}
use Rattle.box_grants.specs.Listed.{list_of}
use Rattle.box_grants.specs.declared.GrantList.{GrantList}

abbrev pub in_range : List Span → Bool
in_range [] = true
in_range (e ∷ l) = fits e.length && in_range l

unfoldable pub sound_of : GrantList → Bool
sound_of s = leb s.number room && in_range (list_of s)
