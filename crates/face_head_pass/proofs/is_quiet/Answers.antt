-- `face_head_pass::is_quiet` meets its promise.
-- Assumes nothing.
use Rattle.std.proofs.Common.{sym, ap, ◌∙◌}
use Rattle.face_head_pass.specs.Judge.{head_fits}
use Rattle.face_head_pass.proofs.Heads.{fits-front}
use Rattle.face_head_pass.proofs.Page.{none-quiet, next-rings, next-quiet}
use Rattle.face_head_pass.proofs.Passing.{until-short, until-fits, until-misfits}
use Rattle.face_head_pass.proofs.is_quiet.Goals as goal

pub returns-in_default : goal.returns-in_default
returns-in_default c = rw (until-short c.args.head.now c.args.links.now c.in_default.ensures.cases)

pub returns-then-not-head_fits : goal.returns-then-not-head_fits
returns-then-not-head_fits c =
    let a = c.args in
    let h = c.in-Some.ensures.cases in
    rw (until-misfits a.head.now a.links.now h.enough (sym (c.head_fits.ensures ∙ ap head_fits h.same ∙ fits-front a.head.now) ∙ c.if-not-head_fits.true))

pub returns-then-is_empty : goal.returns-then-is_empty
returns-then-is_empty c =
    let a = c.args in
    let h = c.in-Some.ensures.cases in
    rw (
      until-fits a.head.now a.links.now h.enough (sym (c.head_fits.ensures ∙ ap head_fits h.same ∙ fits-front a.head.now) ∙ c.if-not-head_fits.false),
      ← c.table-links.ensures,
      none-quiet c.table-links.result.now (sym c.is_empty.ensures ∙ c.if-is_empty.true),
    )

pub returns-then-not-all_still : goal.returns-then-not-all_still
returns-then-not-all_still c =
    let a = c.args in
    let h = c.in-Some.ensures.cases in
    rw (
      until-fits a.head.now a.links.now h.enough (sym (c.head_fits.ensures ∙ ap head_fits h.same ∙ fits-front a.head.now) ∙ c.if-not-head_fits.false),
      ← c.table-links.ensures,
      next-rings c.table-links.result.now (sym c.all_still.ensures ∙ c.if-not-all_still.true),
    )

pub returns : goal.returns
returns c =
    let a = c.args in
    let h = c.in-Some.ensures.cases in
    rw (
      until-fits a.head.now a.links.now h.enough (sym (c.head_fits.ensures ∙ ap head_fits h.same ∙ fits-front a.head.now) ∙ c.if-not-head_fits.false),
      ← c.table-links.ensures,
      next-quiet c.table-links.result.now (sym c.is_empty.ensures ∙ c.if-is_empty.false) (sym c.all_still.ensures ∙ c.if-not-all_still.false),
    )
    c.all_differ.ensures
