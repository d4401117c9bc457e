-- `face_head_pass::pass_links` meets its promise.
-- Assumes nothing.
use Rattle.std.proofs.Common.{◌≡◌, ◌*◌, ℕ, List, length, refl, ap, ◌∙◌, add-one, arith}
use Rattle.face_head.specs.Table.{links_in}
use Rattle.face_head.proofs.Laws.{links-few}
use Rattle.face_head_pass.specs.Passed.{passed_at, passed_to, passed_links}
use Rattle.face_head_pass.proofs.pass_links.Goals as goal

pub loop-i-init : goal.loop-i-init
unfolding passed_to
loop-i-init c = refl

pub overflow_mul-i : goal.overflow_mul-i
overflow_mul-i c = omega (arith, c.links_in-i-end.ensures, (links-few (length c.args.links.now)).0)

pub pass_at-requires : goal.pass_at-requires
pass_at-requires c = omega (arith, c.links_in-i-end.ensures, (links-few (length c.args.links.now)).1, c.loop-i.auto.links)

pub loop-i-preserved : goal.loop-i-preserved
unfolding passed_to
loop-i-preserved c =
    rw add-one (c.pass_at.ensures ∙ ap (λ (us : List ℕ). passed_at (5 * c.loop-i.i) us c.args.k) c.loop-i.invariant)

pub returns : goal.returns
unfolding passed_links
returns c =
    let a = c.args in
    let e : c.loop-i.i ≡ links_in (length a.links.now) = omega (arith, c.links_in-i-end.ensures) in
    c.loop-i.invariant ∙ ap (λ (j : ℕ). passed_to j a.links.now a.k) e
