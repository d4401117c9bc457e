-- `box_grants::GrantList::ahead` meets its promise.
-- Assumes nothing.
use mathlib.Core.Path.{ap, ◌∙◌}
use mathlib.Core.Bool.{false}
use Rattle.box_grants.specs.Listed.{list_of, packed}
use Rattle.box_grants.specs.Laws.{sift-past}
use Rattle.box_grants.proofs.GrantList.ahead.Goals as goal

pub returns : goal.returns
returns c = c.sift.ensures ∙ ap packed (sift-past c.args.now false (list_of c.args.self))
