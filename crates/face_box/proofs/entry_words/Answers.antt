-- `face_box::entry_words` meets its promise.
-- Assumes nothing.
use Rattle.std.proofs.Common.{arith, length-set}
use Rattle.clock.specs.Spans.{none}
use Rattle.face_fields.specs.Fields.{span_word}
use Rattle.face_words.specs.Laws.{fill-again, fill_done}
use Rattle.face_box.proofs.entry_words.Goals as goal

pub loop-i-preserved : goal.loop-i-preserved
loop-i-preserved c = (simp length-set c.loop-i.invariant.0, fill-again span_word c.args.list.entries c.loop-i.out none c.loop-i.i _ (omega arith) (omega arith) c.span_word.ensures c.loop-i.invariant.1)

pub returns : goal.returns
returns c = fill_done span_word c.args.list.entries c.loop-i.out c.loop-i.i (omega arith) (omega arith) c.loop-i.invariant.1
