use Rattle.std.proofs.Common.{◌≡◌, ◌&&◌, drop}
use Rattle.face_words.specs.Words.{same}
use Rattle.face_words.proofs.same.Given as goal

abbrev pub invariant-loop-i : goal.invariant-loop-i
invariant-loop-i l = (l.met && same (drop l.i l.a) (drop l.i l.b)) ≡ same l.a l.b
