use Rattle.std.proofs.Common.{◌≡◌, ◌<◌, ◌≤◌, ◌^◌, length, drop}
use Rattle.octets.specs.Octets.{value_from, value}
use Rattle.octets.proofs.number.Given as goal

abbrev pub invariant-loop-b : goal.invariant-loop-b
invariant-loop-b l = (length l.b-items ≤ 8) × (l.v < 256 ^ l.b-index) × (value_from l.v (drop l.b-index l.b-items) ≡ value l.b-items)
