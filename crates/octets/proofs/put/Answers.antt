-- `octets::put` meets its promise.
-- Assumes nothing.
use Rattle.std.proofs.Common.{◌≡◌, arith}
use Rattle.std.proofs.Math.ListN.{length-set}
use Rattle.octets.specs.Octets.{onto}
use Rattle.octets.specs.Laws.{put-turn}
use Rattle.octets.proofs.put.Goals as goal

pub loop-i-preserved : goal.loop-i-preserved
loop-i-preserved c = (simp length-set c.loop-i.invariant.0, put-turn c.loop-i.s c.loop-i.i c.loop-i.rest c.loop-i-test.true (omega arith) c.loop-i.invariant.1)

pub returns : goal.returns
unfolding onto
returns c =
    let none : c.loop-i.i ≡ 0 = omega arith in
    rw none at c.loop-i.invariant.1
