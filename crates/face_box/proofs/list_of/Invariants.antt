use Rattle.std.proofs.Common.{◌≡◌, map, take, length}
use Rattle.face_fields.specs.Fields.{span_of}
use Rattle.face_box.proofs.list_of.Given as goal

abbrev pub invariant-loop-i : goal.invariant-loop-i
invariant-loop-i l = (length l.entries ≡ 16) × (take l.i l.entries ≡ take l.i (map span_of l.fn.words))
