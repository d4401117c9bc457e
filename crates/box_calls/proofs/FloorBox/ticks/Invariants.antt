use Prim.Native.Nat.{◌-◌, ◌≤◌}
use mathlib.Core.Path.{◌≡◌}
use mathlib.Core.Bool.{true}
use Rattle.box_calls.specs.Advance.{is_silent}
use Rattle.box_calls.specs.Turns.{box_ticks}
use Rattle.box_calls.proofs.FloorBox.ticks.Given as goal

-- what is left to do from here gives what the whole gives, and the last tick made was silent
abbrev pub invariant-loop-made : goal.invariant-loop-made
invariant-loop-made l =
    (l.made ≤ l.n) × (is_silent l.last ≡ true) × (box_ticks (l.n - l.made) l.last l.made ≡ box_ticks (l.n - l.initial.made) l.initial.last l.initial.made)

abbrev pub decreases-loop-made : goal.decreases-loop-made
decreases-loop-made l = l.n - l.made
