-- `frame_queues::Sets::ends` meets its promise.
-- Assumes nothing.
use Rattle.std.proofs.Common.{le-leb, arith}
use Rattle.std.proofs.Math.Bool.{and_assoc}
use Rattle.std.proofs.lemmas.Bool.{lt-leb}
use Rattle.frame_queues.specs.Numbers.{ends-late}
use Rattle.frame_queues.specs.Queues.{ends_at}
use Rattle.frame_queues.proofs.Sets.ends.Goals as goal

pub returns-then-n-lt32 : goal.returns-then-n-lt32
unfolding ends_at
returns-then-n-lt32 c = rw (c.eq.ensures, c.cut-cut.ensures, le-leb c.args.n 40 (omega arith)) (simp and_assoc)

pub returns-then-n-le-BODY : goal.returns-then-n-le-BODY
returns-then-n-le-BODY c =
    let a = c.args in
    let late = ends-late a.self a.n (omega arith, omega arith, omega arith, omega arith, omega arith) c.if-n-lt32.false in
    rw (late, le-leb a.n 40 c.if-n-le-BODY.true, c.first.ensures)

pub returns-else-n-le-BODY : goal.returns-else-n-le-BODY
unfolding ends_at
returns-else-n-le-BODY c = rw (lt-leb c.args.n 40 c.if-n-le-BODY.false)
