-- Code: the one walk by which grants leave the list: which leave, what stays, and a turn of its loop. `sift-past` and `sift-equal` of `Laws` tie it to R126 and R132.
-- Assumes nothing.
use Rattle.std.specs.Prelude.{Bool, true, not, cond, ◌&&◌, List, [], ◌∷◌}
use Rattle.clock.specs.Counts.{is_past}
use Rattle.clock.specs.Spans.{same}
use Rattle.clock.specs.declared.Span.{Span}
use Rattle.box_grants.specs.Listed.{pushed}
use Rattle.box_grants.specs.declared.GrantList.{GrantList}
use Rattle.box_grants.specs.declared.Leaving.{Leaving}
use Rattle.box_grants.specs.declared.Leaving.TheVariants.{Past, Equal}

-- whether an entry leaves, behind others of which one is gone or none
abbrev pub leaves : Leaving → Bool → Span → Bool
leaves (Past now) gone e = is_past now.0 e.start.0
leaves (Equal entry) gone e = not gone && same entry e

abbrev pub sift : Leaving → Bool → List Span → List Span
sift w gone [] = []
sift w gone (e ∷ l) = cond (leaves w gone e) (sift w true l) (e ∷ sift w gone l)

-- the array on its way, and whether one is gone
pub record Walked : Type 0 where
  pub list : GrantList
  pub gone : Bool

unfoldable pub walked : Leaving → Walked → Span → Walked
walked w s e =
    cond (leaves w s.gone e) (record { list = s.list; gone = true }) (record { list = pushed s.list e; gone = s.gone })
