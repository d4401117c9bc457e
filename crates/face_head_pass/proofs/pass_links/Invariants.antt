use Rattle.std.proofs.Common.{◌≡◌}
use Rattle.face_head_pass.specs.Passed.{passed_to}
use Rattle.face_head_pass.proofs.pass_links.Given as goal

abbrev pub invariant-loop-i : goal.invariant-loop-i
invariant-loop-i l = l.links ≡ passed_to l.i l.initial.links l.k
