use Rattle.std.proofs.Common.{◌≡◌, length, true}
use Rattle.face_head_pass.specs.Judge.{differ_to}
use Rattle.face_head_pass.proofs.Turns.{Covered}
use Rattle.face_head_pass.proofs.differ.Given as goal

abbrev pub invariant-loop-i : goal.invariant-loop-i
invariant-loop-i l = (length l.marks ≡ length l.initial.marks) × Covered l.marks l.links l.i × (differ_to l.i l.links ≡ true)
