-- `face_box::list_of` meets its promise.
-- Assumes nothing.
use Rattle.std.proofs.Common.{List, arith, ap, length-set}
use Rattle.clock.specs.declared.Span.{Span}
use Rattle.face_fields.specs.Fields.{span_of}
use Rattle.face_words.specs.Laws.{fill-again, fill_done}
use Rattle.face_box.proofs.list_of.Goals as goal

pub loop-i-preserved : goal.loop-i-preserved
loop-i-preserved c = (simp length-set c.loop-i.invariant.0, fill-again span_of c.args.words.now c.loop-i.entries 0 c.loop-i.i _ (omega arith) (omega arith) c.span_of.ensures c.loop-i.invariant.1)

pub returns : goal.returns
returns c =
    ap (λ (es : List Span). record { entries = es; number = c.args.number })
    (fill_done span_of c.args.words.now c.loop-i.entries c.loop-i.i (omega arith) (omega arith) c.loop-i.invariant.1)
