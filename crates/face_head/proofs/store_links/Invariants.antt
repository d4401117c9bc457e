-- After i turns: the words of the first i links over the words that were lent.
use Rattle.std.proofs.Common.{◌≡◌}
use Rattle.face_head.proofs.Taken.{store_to}
use Rattle.face_head.proofs.store_links.Given as goal

abbrev pub invariant-loop-i : goal.invariant-loop-i
invariant-loop-i l = l.words ≡ store_to l.links l.n l.initial.words l.i
