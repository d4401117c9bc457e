-- `face_head_pass::differ` meets its promise.
-- Assumes nothing.
use Rattle.std.proofs.Common.{◌≡◌, ℕ, suc, List, length, false, refl, sym, ap, subst, ◌∙◌, add-one, arith, length-set}
use Rattle.face_head_pass.specs.Judge.{address_at, place_of, repeats_at, differ_to}
use Rattle.face_head_pass.proofs.Turns.{Covered, differ-stop, spared, place-lt, covered_more}
use Rattle.face_head_pass.proofs.differ.Goals as goal

pub loop-i-init : goal.loop-i-init
unfolding differ_to
loop-i-init c = (refl, λ j l. absurd (omega (arith, l)), refl)

pub returns-then-repeats : goal.returns-then-repeats
returns-then-repeats c =
    let at = c.loop-i in
    let ls = c.args.links.now in
    sym (differ-stop ls _ at.i c.loop-i-test.true (sym (c.repeats.ensures.0 ∙ spared at.marks ls at.i at.invariant.1) ∙ c.if-repeats.true))

pub loop-i-preserved : goal.loop-i-preserved
unfolding differ_to
loop-i-preserved c =
    let r = c.repeats in
    let at = c.loop-i in
    let ls = c.args.links.now in
    let e : repeats_at at.i ls ≡ false = sym (r.ensures.0 ∙ spared at.marks ls at.i at.invariant.1) ∙ c.if-repeats.false in
    let more = covered_more at.marks ls at.i (place-lt (address_at at.i ls) (length at.marks) (omega (arith, at.invariant.0, c.requires.0))) at.invariant.1 in (
      ap length r.ensures.1 ∙ length-set at.marks (place_of (address_at at.i ls) (length at.marks)) 1 ∙ at.invariant.0,
      rw (add-one at.i) (subst (λ (ms : List ℕ). Covered ms ls (suc at.i)) (sym r.ensures.1) more),
      rw (add-one at.i, at.invariant.2, e),
    )
