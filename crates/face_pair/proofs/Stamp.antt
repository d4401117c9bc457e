-- A frame that leaves with the timestamp that it has is heard as it was handed out.
-- Assumes nothing.
use Prim.Native.Nat.{ℕ, ◌≤◌, ◌<◌}
use mathlib.Core.Path.{◌≡◌, sym, ap, ◌∙◌}
use mathlib.Core.Bool.{true}
use mathlib.Core.List.{List, ◌++◌}
use mathlib.Core.Logic.{⊎_elim}
use native.Mathlib.Omega.{arith}
use lib.ListN.{length, drop, take-append-drop}
use Rattle.laws.specs.Cases.{cut}
use Rattle.octets.specs.Laws.{bytes-field, join}
use Rattle.octets.specs.Octets.{field_of}
use Rattle.pair_wire.specs.Carried.{octets-of}
use Rattle.pair_wire.specs.Message.{are_octets, message_in, stamped}
use Rattle.pair_wire.proofs.Stamped.{short-length, no-frame}

abbrev pub own : List ℕ → ℕ
own os = field_of os 16 4

own_same : (os : List ℕ) → are_octets os ≡ true → 20 ≤ length os → stamped (own os) os ≡ os
unfolding stamped
own_same os h k =
    rw (bytes-field os (octets-of os h) 16 4 (omega arith)) (ap (λ (l : List ℕ). l ++ drop 20 os) (join os 0 16 4) ∙ take-append-drop 20 os)

pub own-heard : (os : List ℕ) → are_octets os ≡ true → message_in (stamped (own os) os) ≡ message_in os
own-heard os h =
    ⊎_elim
    (λ (k : length os < 20). no-frame (stamped (own os) os) (short-length (own os) os k) ∙ sym (no-frame os (omega arith)))
    (λ (k : 20 ≤ length os). ap message_in (own_same os h k))
    (cut (length os) 20)
