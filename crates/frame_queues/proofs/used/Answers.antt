-- `frame_queues::used` meets its promise.
-- Assumes nothing.
use Rattle.std.proofs.Common.{◌≡◌, ◌-◌, ◌+◌, sym, ◌∙◌, arith}
use Rattle.frame_queues.specs.Laws.{ending-turn}
use Rattle.frame_queues.specs.Queues.{ending, used_of}
use Rattle.frame_queues.proofs.used.Goals as goal

pub returns-then-n-eq0 : goal.returns-then-n-eq0
unfolding used_of ending
returns-then-n-eq0 c = rw (← c.count-n.ensures, c.if-n-eq0.true)

pub loop-init : goal.loop-init
unfolding used_of
loop-init c =
    (omega arith, rw (c.past-at.ensures.value, ← c.count-n.ensures) (sym (ending-turn c.args.s.now c.count-n.result 1 (omega arith))))

pub past-at-requires-in-loop : goal.past-at-requires-in-loop
past-at-requires-in-loop c = omega arith

pub loop-preserved : goal.loop-preserved
loop-preserved c =
    let left = c.count-n.result - c.loop.counter in
    let next : c.count-n.result - (c.loop.counter + 1) ≡ left - 1 = omega arith in
    let turn = ending-turn c.args.s.now left c.loop.at (omega arith) in
    (omega arith, rw (next, c.past-at-in-loop.ensures.value) (sym turn ∙ c.loop.invariant.1))

pub returns : goal.returns
unfolding ending
returns c =
    let none : c.count-n.result - c.loop.counter ≡ 0 = omega arith in
    rw none at c.loop.invariant.1
