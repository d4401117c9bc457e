-- `box_calls::FloorBox::ticks` meets its promise: each turn passes quiet ticks and makes one more.
-- Assumes nothing.
use Prim.Native.Nat.{◌+◌, ◌<◌}
use mathlib.Core.Path.{refl, sym, ◌∙◌}
use native.Mathlib.Omega.{arith}
use Rattle.box_calls.specs.Turns.{bare-silent, whole, turn_end, within, made-next, made-last, refused-first, refused-later}
use Rattle.box_calls.proofs.FloorBox.ticks.Goals as goal
use Rattle.box_calls.proofs.FloorBox.ticks.Goals.{After-tick-r}

-- after the turn's tick
fewer : (c : After-tick-r) → c.loop-made.made + c.passing-k.result < c.args.n
fewer c =
    within _ _ _ _ _ _ _ c.loop-made.invariant.1 c.loop-made-test.true c.quiet.ensures
    c.passing-k.ensures c.leap-before.ensures c.tick-r.ensures

pub loop-made-init : goal.loop-made-init
loop-made-init c = (omega arith, bare-silent _ _ c.bare-last.ensures, refl)

pub overflow_add-passed : goal.overflow_add-passed
overflow_add-passed c = omega (arith, fewer c.before, c.from.ensures, c.ranges.n)

pub returns-then-passed-eq0 : goal.returns-then-passed-eq0
returns-then-passed-eq0 c =
    sym (refused-first _ _ _ _ _ _ _ c.loop-made.invariant.1 c.loop-made-test.true c.quiet.ensures
    c.passing-k.ensures c.leap-before.ensures c.tick-r.ensures
    (sym c.is_done.ensures ∙ c.if-not-is_done.true) (rw c.from.ensures at c.if-passed-eq0.true))
    ∙ c.loop-made.invariant.2
    ∙ whole _ _ _ c.bare-last.ensures

pub returns-then-not-is_done : goal.returns-then-not-is_done
returns-then-not-is_done c =
    rw c.from.ensures
    (sym (refused-later _ _ _ _ _ _ _ c.loop-made.invariant.1 c.loop-made-test.true c.quiet.ensures
    c.passing-k.ensures c.leap-before.ensures c.tick-r.ensures
    (sym c.is_done.ensures ∙ c.if-not-is_done.true) (rw c.from.ensures at c.if-passed-eq0.false))
    ∙ c.loop-made.invariant.2
    ∙ whole _ _ _ c.bare-last.ensures)

pub overflow_add-made : goal.overflow_add-made
overflow_add-made c = omega (arith, fewer c.before.before.before, c.from.ensures, c.ranges.n)

pub returns-then-not-is_silent : goal.returns-then-not-is_silent
returns-then-not-is_silent c =
    rw c.from.ensures
    (sym (made-last _ _ _ _ _ _ _ c.loop-made.invariant.1 c.loop-made-test.true c.quiet.ensures
    c.passing-k.ensures c.leap-before.ensures c.tick-r.ensures
    (sym c.is_done.ensures ∙ c.if-not-is_done.false)
    (sym c.is_silent.ensures ∙ c.if-not-is_silent.true))
    ∙ c.loop-made.invariant.2
    ∙ whole _ _ _ c.bare-last.ensures)

pub loop-made-smaller : goal.loop-made-smaller
loop-made-smaller c = omega (arith, fewer c.before.before.before.before.before, c.from.ensures)

pub loop-made-preserved : goal.loop-made-preserved
loop-made-preserved c =
    rw c.from.ensures (
      omega (arith, fewer c.before.before.before.before.before),
      sym c.is_silent.ensures ∙ c.if-not-is_silent.false,
      sym (made-next _ _ _ _ _ _ _ c.loop-made.invariant.1 c.loop-made-test.true c.quiet.ensures
          c.passing-k.ensures c.leap-before.ensures c.tick-r.ensures
          (sym c.is_done.ensures ∙ c.if-not-is_done.false))
          ∙ c.loop-made.invariant.2,
    )

pub returns : goal.returns
returns c = sym (turn_end _ _ _ c.loop-made-test.false) ∙ c.loop-made.invariant.2 ∙ whole _ _ _ c.bare-last.ensures
