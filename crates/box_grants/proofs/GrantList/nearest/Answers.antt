-- `box_grants::GrantList::nearest` meets its promise.
-- Assumes nothing.
use Rattle.std.proofs.Common.{◌≡◌, rules, ◌∙◌, get_or, List, [], ◌∷◌, ◌++◌, refl, sym, ap}
use Rattle.std.specs.List.{fold}
use Rattle.std.proofs.lemmas.Fn.{fold_over, slice_gives, fronts}
use Rattle.std.proofs.lemmas.List.Sums.{fold_push}
use Rattle.clock.specs.Spans.{none, nearer_of}
use Rattle.clock.specs.declared.Span.{Span}
use Rattle.box_grants.specs.Listed.{list_of}
use Rattle.box_grants.specs.Laws.{nearest-fold}
use Rattle.box_grants.proofs.GrantList.nearest.Goals as goal

pub returns : goal.returns
returns c =
    let now = c.args.now.0 in
    let first = get_or c.args.self.entries 0 none in
    let h : c.fold.result ≡ fold (nearer_of now) first c.iter.result.rest.now =
    fold_over fronts (λ y. y.now) _ (λ (ys : List Span) (best : Span). best ≡ fold (nearer_of now) first ys) _
    (λ ys a x b f' j k.
    let more : fold (nearer_of now) first (ys ++ (x.now ∷ [])) ≡ nearer_of now a x.now = fold_push (nearer_of now) first ys x.now ∙ ap (λ (e : Span). nearer_of now e x.now) (sym j) in
    search rules) _ _ _ _ (slice_gives c.iter.result) refl c.fold.ensures.ran in
    h ∙ ap (fold (nearer_of now) first) c.iter.ensures.rest ∙ rw c.held.ensures (nearest-fold now first (list_of c.args.self))
