-- `frame_queues::first` meets its promise.
-- Assumes nothing.
use Prim.Native.Nat.{◌+◌, ◌-◌, ◌*◌, ◌^◌, ◌<◌}
use mathlib.Core.Path.{◌≡◌, sym, ◌∙◌}
use native.Mathlib.Omega.{arith}
use lib.Pow.{shl_exact, shr_lt}
use Rattle.frame_queues.specs.Numbers.{first-none, first-all, first_some}
use Rattle.frame_queues.proofs.first.Goals as goal

pub returns-then-k-eq0 : goal.returns-then-k-eq0
returns-then-k-eq0 c = rw c.if-k-eq0.true (sym (first-none c.args.x))

pub returns-then-k-ge8 : goal.returns-then-k-ge8
returns-then-k-ge8 c =
    sym (first-all c.args.x c.args.k c.ranges.x.fits c.if-k-ge8.true)

pub returns : goal.returns
returns c =
    let x = c.args.x in
    let k = c.args.k in
    let n = 64 - 8 * k in
    let all : 8 * k + n ≡ 64 = omega arith in
    let below : x < 2 ^ (8 * k + n) = rw all c.ranges.x.fits in
    shl_exact (8 * k) n 64 (shr_lt (8 * k) n below) (omega arith) ∙ sym (first_some x k c.ranges.x.fits (omega arith))
