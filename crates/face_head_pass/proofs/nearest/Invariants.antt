use Rattle.std.proofs.Common.{◌≡◌}
use Rattle.face_head_pass.specs.Judge.{nearest_to}
use Rattle.face_head_pass.proofs.nearest.Given as goal

abbrev pub invariant-loop-words : goal.invariant-loop-words
invariant-loop-words l = l.m ≡ nearest_to l.words-index l.links
