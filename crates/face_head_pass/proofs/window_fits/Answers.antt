-- `face_head_pass::window_fits` meets its promise.
-- Assumes nothing.
use Rattle.std.proofs.Common.{arith}
use borrow.Author.Tests.{ne_eqb}
use Rattle.face_head_pass.specs.Judge.{window_fits}
use Rattle.face_head_pass.proofs.window_fits.Goals as goal

pub returns-in-0 : goal.returns-in-0
unfolding window_fits
returns-in-0 c = rw c.in-0.is

pub returns-in-1 : goal.returns-in-1
unfolding window_fits
returns-in-1 c = rw (c.runs-in-1.ensures, c.runs.ensures, c.in-1.is)

pub returns-in_default : goal.returns-in_default
unfolding window_fits
returns-in_default c =
    let n = c.args.phase in
    rw (c.runs-in_default.ensures, ne_eqb n 0 (λ e. omega (arith, e)), ne_eqb n 1 (λ e. omega (arith, e)))
