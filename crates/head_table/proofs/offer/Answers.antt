-- `head_table::offer` meets its promise: each link is offered the event.
-- Assumes nothing.
use Rattle.std.proofs.Common.{sym, ap, ◌∙◌, arith}
use Rattle.lent.proofs.Folds.{up-zero}
use Rattle.head_links.specs.declared.Stepped.{Stepped}
use Rattle.std.specs.Prelude.{set, length}
use Rattle.head_table.specs.Events.{reacted}
use Rattle.head_table.proofs.Taken.{all-reacted, table_more}
use Rattle.head_table.specs.Laws.{turns-le}
use Rattle.head_table.proofs.offer.Goals as goal

pub returns-then-most-eq0 : goal.returns-then-most-eq0
returns-then-most-eq0 c =
    let xs = c.args.links.now in (
      sym (up-zero (reacted c.args.event) 1 xs) ∙ all-reacted c.args.event xs 0 (omega (arith, c.turns-most.ensures)),
      omega (arith, c.turns-most.ensures),
    )

pub loop-i-init : goal.loop-i-init
loop-i-init c = sym (up-zero (reacted c.args.event) 1 c.args.links.now)

pub loop-i-preserved : goal.loop-i-preserved
loop-i-preserved c =
    table_more c.args.event c.args.links.now c.loop-i.i c.loop-i-test.true c.loop-i.links _ c.loop-i.invariant
    (ap (λ (t : Stepped). set c.loop-i.links c.loop-i.i t.link) c.react.ensures)

pub returns : goal.returns
returns c =
    let h = turns-le c.args.event (length c.args.links.now) in
    (c.loop-i.invariant ∙ all-reacted c.args.event c.args.links.now c.loop-i.i (omega (arith, h, c.loop-i-test.false)), c.turns-most.ensures)
