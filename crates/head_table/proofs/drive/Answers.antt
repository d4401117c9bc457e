-- `head_table::drive` meets its promise: each link is offered the event, and what it sends goes to the output.
-- Assumes nothing.
use Rattle.std.specs.Prelude.{set, length}
use Rattle.std.proofs.Common.{ℕ, List, sym, ap, ◌∙◌, arith}
use Rattle.lent.proofs.Folds.{up-zero, fold-zero}
use Rattle.head_links.specs.declared.Stepped.{Stepped}
use Rattle.head_table.specs.Events.{reacted}
use Rattle.head_table.specs.Laws.{turns-le}
use Rattle.head_table.specs.Output.{output, note_of, note_link}
use Rattle.head_table.proofs.Taken.{all-reacted, all_noted, table_more, sent_more}
use Rattle.head_table.proofs.drive.Goals as goal

pub returns-then-turns-eq0 : goal.returns-then-turns-eq0
returns-then-turns-eq0 c =
    let xs = c.args.links.now in
    let st = output c.args.out.now c.args.n in (
      sym (up-zero (reacted c.args.event) 1 xs) ∙ all-reacted c.args.event xs 0 (omega (arith, c.turns.ensures)),
      sym (fold-zero (note_link c.args.event c.args.sender) 1 xs st) ∙ all_noted c.args.event c.args.sender xs 0 st (omega (arith, c.turns.ensures)),
    )

pub loop-i-init : goal.loop-i-init
loop-i-init c =
    record {
      table = sym (up-zero (reacted c.args.event) 1 c.args.links.now);
      sent = sym (fold-zero (note_link c.args.event c.args.sender) 1 c.args.links.now (output c.args.out.now c.args.n));
    }

pub loop-i-preserved : goal.loop-i-preserved
loop-i-preserved c =
    let ys = c.loop-i.links in
    let i = c.loop-i.i in
    record {
      table =
          table_more c.args.event c.args.links.now i c.loop-i-test.true ys _ c.loop-i.invariant.table
          (ap (λ (t : Stepped). set ys i t.link) c.react-t.ensures);
      sent =
          sent_more c.args.event c.args.links.now i c.loop-i-test.true ys c.args.sender (output c.args.out.now c.args.n) (output c.loop-i.out c.loop-i.frames)
          (output c.note-frames.new.out c.note-frames.result) c.react-t.result.sent c.loop-i.invariant.table c.loop-i.invariant.sent
          (ap (λ (t : Stepped). t.sent) c.react-t.ensures)
          (ap (λ (n : ℕ). output c.note-frames.new.out n) c.note-frames.ensures.0
          ∙ ap (λ (os : List ℕ). output os (note_of c.args.sender (output c.loop-i.out c.loop-i.frames) c.react-t.result.sent).frames) c.note-frames.ensures.1);
    }

pub returns : goal.returns
returns c =
    let h = turns-le c.args.event (length c.args.links.now) in (
      c.loop-i.invariant.table ∙ all-reacted c.args.event c.args.links.now c.loop-i.i (omega (arith, h, c.loop-i-test.false)),
      c.loop-i.invariant.sent
          ∙ all_noted c.args.event c.args.sender c.args.links.now c.loop-i.i (output c.args.out.now c.args.n) (omega (arith, h, c.loop-i-test.false)),
    )
