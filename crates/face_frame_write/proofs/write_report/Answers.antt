-- `face_frame_write::write_report` meets its promise.
-- Assumes nothing.
use Prim.Native.Nat.{ℕ}
use mathlib.Core.Path.{◌≡◌, ap, sym, ◌∙◌}
use mathlib.Core.Bool.{true}
use mathlib.Core.List.{List}
use native.Mathlib.Omega.{arith}
use Rattle.frame_queues.proofs.Fitting.{fit-sets}
use Rattle.frame_queues.specs.Laws.{none-fit}
use Rattle.frame_queues.specs.Queues.{no_sets}
use Rattle.face_frame.specs.Tells.{at}
use Rattle.face_frame_write.specs.Steps.{sets_in, laid_out}
use Rattle.face_frame_write.proofs.Sets.{no-words, empty, laid-tested}
use Rattle.face_frame_write.proofs.write_report.Goals as goal

pub returns-then-eq : goal.returns-then-eq
returns-then-eq c =
    let w = c.args.body in
    let sixth : at w 5 ≡ 0 = omega arith in
    let none : sets_in w ≡ no_sets = no-words (at w 0) (at w 1) (at w 2) (at w 3) (at w 4) (sym c.eq.ensures ∙ c.if-eq.true) in
    rw (c.begin.ensures, sixth, none, fit-sets no_sets none-fit) (ap (λ (f : List ℕ). laid_out true f) (empty c.args.h))

pub returns-then-not-ends : goal.returns-then-not-ends
returns-then-not-ends c =
    let sixth : at c.args.body 5 ≡ 0 = omega arith in
    let p = laid-tested c.args.h (sets_in c.args.body) _ _ _ (rw c.begin.ensures at c.lay_sets.ensures) c.used-used.ensures c.ends.ensures in
    rw (sixth, ← p.1, c.if-not-ends.true)

pub returns : goal.returns
returns c =
    let sixth : at c.args.body 5 ≡ 0 = omega arith in
    let p = laid-tested c.args.h (sets_in c.args.body) _ _ _ (rw c.begin.ensures at c.lay_sets.ensures) c.used-used.ensures c.ends.ensures in
    rw (p.0, sixth, ← p.1, c.if-not-ends.false)
