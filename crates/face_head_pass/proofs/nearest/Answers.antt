-- `face_head_pass::nearest` meets its promise.
-- Assumes nothing.
use Rattle.std.proofs.Common.{refl, sym, ap, ◌∙◌, add-one}
use Rattle.face_head_pass.specs.Judge.{fits, nearest_to}
use Rattle.face_head_pass.proofs.Turns.{nearest-stop}
use Rattle.face_head_pass.proofs.nearest.Goals as goal

pub loop-words-init : goal.loop-words-init
unfolding nearest_to
loop-words-init c = refl

pub returns-then-not-fits : goal.returns-then-not-fits
returns-then-not-fits c =
    sym (nearest-stop c.args.links.now _ c.loop-words.words-index c.loop-words-test.true (sym (c.fits.ensures ∙ ap fits c.of-w.ensures) ∙ c.if-not-fits.true))

pub loop-words-preserved : goal.loop-words-preserved
unfolding nearest_to
loop-words-preserved c =
    let e = sym (c.fits.ensures ∙ ap fits c.of-w.ensures) ∙ c.if-not-fits.false in
    rw (add-one c.loop-words.words-index, e) (c.near-m.ensures ∙ rw (c.of-w.ensures, c.loop-words.invariant))
