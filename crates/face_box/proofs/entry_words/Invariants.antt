use Rattle.std.proofs.Common.{◌≡◌, map, take, length}
use Rattle.face_fields.specs.Fields.{span_word}
use Rattle.face_box.proofs.entry_words.Given as goal

abbrev pub invariant-loop-i : goal.invariant-loop-i
invariant-loop-i l = (length l.out ≡ 16) × (take l.i l.out ≡ take l.i (map span_word l.fn.list.entries))
