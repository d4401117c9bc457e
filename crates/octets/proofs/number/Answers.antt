-- `octets::number` meets its promise. The loop's invariant: what stands so far goes on, over the octets left, to the number of them all.
-- Assumes nothing.
use Rattle.std.proofs.Common.{ℕ, ◌<◌, ◌≡◌, [], add-one, arith, take, drop, drop-cons, drop_of_length-le}
use Rattle.std.proofs.Math.Nat.{min_comm}
use Rattle.std.proofs.lemmas.List.{take_min}
use Rattle.octets.specs.Octets.{value_from}
use Rattle.octets.specs.Laws.{grown, room, octets-take}
use Rattle.octets.proofs.number.Goals as goal

octet : (c : goal.After-from) → c.from.result < 256
octet c = rw c.from.ensures (octets-take c.min.result c.args.s.now (λ (k : ℕ). (c.type_inv.s k).fits) c.loop-b.b-index)

pub overflow_mul-v : goal.overflow_mul-v
overflow_mul-v c = record { fits = omega (arith, room c.loop-b.v 0 c.loop-b.b-index 8 c.loop-b.invariant.1) }

pub overflow_add-v : goal.overflow_add-v
overflow_add-v c = record { fits = room c.loop-b.v _ c.loop-b.b-index 8 c.loop-b.invariant.1 (octet c) (omega arith) (omega arith) }

pub loop-b-preserved : goal.loop-b-preserved
unfolding value_from
loop-b-preserved c =
    let l = take c.min.result c.args.s.now in
    let i = c.loop-b.b-index in (
      c.loop-b.invariant.0,
      rw add-one (grown c.loop-b.v _ i c.loop-b.invariant.1 (octet c)),
      rw (add-one, c.from.ensures) (rw (drop-cons l i 0 c.loop-b-test.true) at c.loop-b.invariant.2),
    )

pub returns : goal.returns
unfolding value_from
returns c =
    let l = c.args.s.now in
    let none : drop c.loop-b.b-index (take c.min.result l) ≡ [] = drop_of_length-le (take c.min.result l) c.loop-b-test.false in
    let all : take c.min.result l ≡ take 8 l = rw (c.min.ensures, min_comm) (take_min 8 l) in
    rw (none, all) at c.loop-b.invariant.2
