use Rattle.std.proofs.Common.{◌≡◌, length, drop}
use Rattle.octets.specs.Octets.{onto, bytes}
use Rattle.octets.proofs.put.Given as goal

abbrev pub invariant-loop-i : goal.invariant-loop-i
invariant-loop-i l = (length l.s ≡ length l.initial.s) × (onto l.i l.rest (drop l.i l.s) ≡ bytes (length l.initial.s) l.initial.rest)
