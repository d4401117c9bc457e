-- `face_head::state_of` meets its promise.
-- Assumes nothing.
use Rattle.std.proofs.Common.{arith}
use borrow.Author.Tests.{ne_eqb}
use Rattle.face_head.specs.Table.{state_of}
use Rattle.face_head.proofs.state_of.Goals as goal

pub returns-in-1 : goal.returns-in-1
unfolding state_of
returns-in-1 c = rw c.in-1.is

pub returns-in-2 : goal.returns-in-2
unfolding state_of
returns-in-2 c = rw c.in-2.is

pub returns-in_default : goal.returns-in_default
unfolding state_of
returns-in_default c =
    let n = c.args.word in
    rw (ne_eqb n 1 (λ e. omega (arith, e)), ne_eqb n 2 (λ e. omega (arith, e)))
