-- `box_grants::GrantList::without` meets its promise.
-- Assumes nothing.
use mathlib.Core.Path.{ap, ◌∙◌}
use Rattle.box_grants.specs.Listed.{list_of, packed}
use Rattle.box_grants.specs.Laws.{sift-equal}
use Rattle.box_grants.proofs.GrantList.without.Goals as goal

pub returns : goal.returns
returns c = c.sift.ensures ∙ ap packed (sift-equal c.args.out (list_of c.args.self))
