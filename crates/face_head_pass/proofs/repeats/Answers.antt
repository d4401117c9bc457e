-- `face_head_pass::repeats` meets its promise.
-- Assumes nothing.
use Rattle.std.proofs.Common.{◌≡◌, false, length, sym, ◌∙◌, arith}
use Rattle.face_head_pass.specs.Judge.{address_at, spotted}
use Rattle.face_head_pass.proofs.Turns.{place-lt, holds-any, spotted-unmet, spotted-idle, spotted-met}
use Rattle.face_head_pass.proofs.repeats.Goals.{then-met-eq0-via-then-met-eq0, then-met-eq0-via-else-met-eq0+then-a-eq0}
use Rattle.face_head_pass.proofs.repeats.Goals as goal

pub bounds-marks-p : goal.bounds-marks-p
bounds-marks-p c = omega (arith, c.place-p.ensures, place-lt (address_at c.args.i c.args.links.now) (length c.args.marks.now) c.requires.0)

pub bounds-marks-p-2 : goal.bounds-marks-p-2
bounds-marks-p-2 c = omega (arith, c.place-p.ensures, place-lt (address_at c.args.i c.args.links.now) (length c.args.marks.now) c.requires.0)

pub returns-then-met-eq0 : goal.returns-then-met-eq0
returns-then-met-eq0 c =
    let ms = c.args.marks.now in
    let ls = c.args.links.now in (
      sym (elim c.then-met-eq0.branch as (λ _. spotted ms ls c.args.i ≡ false) [
        | then-met-eq0-via-then-met-eq0 w ↦ spotted-unmet ms ls c.args.i (rw (← c.place-p.ensures) w.if-met-eq0.true)
        | then-met-eq0-via-else-met-eq0+then-a-eq0 w ↦ spotted-idle ms ls c.args.i w.if-a-eq0.true
      ]),
      rw c.place-p.ensures,
    )

pub returns : goal.returns
returns c =
    let ms = c.args.marks.now in
    let ls = c.args.links.now in
    let i = c.args.i in (
      c.holds.ensures
          ∙ holds-any ls i (address_at i ls) (omega arith)
          ∙ sym (spotted-met ms ls i (rw (← c.place-p.ensures) c.if-met-eq0.false) c.if-a-eq0.false),
      rw c.place-p.ensures,
    )
