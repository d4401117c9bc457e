-- `face_head_pass::quiet` meets its promise.
-- Assumes nothing.
use Rattle.std.proofs.Common.{sym, ap, ◌∙◌}
use Rattle.face_head_pass.specs.Judge.{head_fits, quiet_links}
use Rattle.face_head_pass.proofs.Heads.{fits-front}
use Rattle.face_head_pass.proofs.Passing.{until-short, until-fits, until-misfits}
use Rattle.face_head_pass.proofs.quiet.Goals as goal

pub returns-in_default : goal.returns-in_default
returns-in_default c = sym (until-short c.args.head.now c.args.links.now c.in_default.ensures.cases)

pub returns-then-head_fits : goal.returns-then-head_fits
returns-then-head_fits c =
    let a = c.args in
    let h = c.in-Some.ensures.cases in
    c.quiet_links.ensures
    ∙ ap quiet_links c.table.ensures
    ∙ sym (until-fits a.head.now a.links.now h.enough (sym (c.head_fits.ensures ∙ ap head_fits h.same ∙ fits-front a.head.now) ∙ c.if-head_fits.true))

pub returns : goal.returns
returns c =
    let a = c.args in
    let h = c.in-Some.ensures.cases in
    sym (until-misfits a.head.now a.links.now h.enough (sym (c.head_fits.ensures ∙ ap head_fits h.same ∙ fits-front a.head.now) ∙ c.if-head_fits.false))
