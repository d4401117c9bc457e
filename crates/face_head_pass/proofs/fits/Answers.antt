-- `face_head_pass::fits` meets its promise.
-- Assumes nothing.
use Rattle.std.proofs.Common.{arith}
use borrow.Author.Tests.{ne_eqb}
use Rattle.face_head_pass.specs.Judge.{fits}
use Rattle.face_head_pass.proofs.fits.Goals as goal

pub returns-in-1 : goal.returns-in-1
unfolding fits
returns-in-1 c = rw (c.individual.ensures, c.in-1.is)

pub returns-in-2 : goal.returns-in-2
unfolding fits
returns-in-2 c = rw (c.individual-in-2.ensures, c.in-2.is)

pub returns-in_default : goal.returns-in_default
unfolding fits
returns-in_default c =
    let n = c.args.w.state in
    rw (ne_eqb n 2 (λ e. omega (arith, e)), ne_eqb n 1 (λ e. omega (arith, e)))
