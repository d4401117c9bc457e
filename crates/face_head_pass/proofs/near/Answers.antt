-- `face_head_pass::near` meets its promise.
-- Assumes nothing.
use Rattle.std.proofs.Common.{arith}
use borrow.Author.Tests.{ne_eqb}
use Rattle.face_head_pass.specs.Judge.{near}
use Rattle.face_head_pass.proofs.near.Goals as goal

pub returns-in-1 : goal.returns-in-1
unfolding near
returns-in-1 c = rw (c.min.ensures, c.in-1.is)

pub returns-in-2 : goal.returns-in-2
unfolding near
returns-in-2 c = rw (c.min-in-2-2.ensures, c.min-in-2.ensures, c.in-2.is)

pub returns-in_default : goal.returns-in_default
unfolding near
returns-in_default c =
    let n = c.args.w.state in
    rw (ne_eqb n 2 (λ e. omega (arith, e)), ne_eqb n 1 (λ e. omega (arith, e)))
