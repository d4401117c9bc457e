use Rattle.std.proofs.Common.{length}
use Rattle.script.proofs.sets.tell_each.Given as goal

abbrev pub decreases-loop-bitmap : goal.decreases-loop-bitmap
decreases-loop-bitmap g l = length l.rest
