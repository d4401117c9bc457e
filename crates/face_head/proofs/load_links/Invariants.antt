-- After i turns: the first i links of the words over those that were lent.
use Rattle.std.proofs.Common.{◌≡◌}
use Rattle.face_head.proofs.Taken.{load_to}
use Rattle.face_head.proofs.load_links.Given as goal

abbrev pub invariant-loop-i : goal.invariant-loop-i
invariant-loop-i l = l.links ≡ load_to l.words l.initial.links l.i
