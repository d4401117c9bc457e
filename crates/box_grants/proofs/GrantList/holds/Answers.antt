-- `box_grants::GrantList::holds` meets its promise.
-- Assumes nothing.
use Rattle.std.proofs.Common.{◌≡◌, rules, ◌∙◌}
use Rattle.std.specs.List.{list_any}
use Rattle.clock.specs.Spans.{same}
use Rattle.clock.specs.declared.Span.{Span}
use Rattle.box_grants.specs.Listed.{list_of}
use Rattle.box_grants.specs.Laws.{holds-any}
use Rattle.box_grants.proofs.GrantList.holds.Goals as goal

pub returns : goal.returns
returns c =
    let h : c.contains.result ≡ list_any (λ (x : Span). same x c.args.e) (list_of c.args.self) = search rules in
    h ∙ holds-any c.args.e (list_of c.args.self)
