-- `frame_queues::begun` meets its promise.
-- Assumes nothing.
use Rattle.std.proofs.Common.{ℕ, suc, ◌≡◌, ◌+◌, ◌-◌, length, drop, replicate, arith}
use Rattle.std.proofs.lemmas.List.{drop-replicate}
use Rattle.frame_queues.proofs.begun.Goals as goal

pub returns : goal.returns
returns c =
    let n = length c.args.octets.now in
    let many : n + 1 - 1 ≡ n = omega arith in
    let zeros : drop {A = ℕ} n (replicate 39 0) ≡ replicate (39 - n) 0 = drop-replicate n 39 0 in
    let left : 39 - n ≡ 40 - suc n = omega arith in
    rw (c.copy_from_slice.ensures.after, many, zeros, left)
