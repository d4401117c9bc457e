-- A box that hears as the floor box does, but perhaps for a discovery GATE in REGISTERED: the floor box, and that of floor 31.
-- Assumes nothing.
use Prim.Native.Nat.{ℕ}
use mathlib.Core.Path.{◌≡◌, refl, sym, ap, ◌∙◌}
use mathlib.Core.Bool.{false, ◌&&◌}
use mathlib.Core.List.{List}
use mathlib.Core.Option.{Option, some}
use Rattle.frame.specs.declared.Address.{Address}
use Rattle.frame.specs.declared.Message.{Message}
use Rattle.box_registration.specs.Registration.{is_registered}
use Rattle.box_calls.specs.Hear.{is_discovery, hear_of}
use Rattle.box_calls.specs.declared.Answer.{Answer}
use Rattle.box_calls.specs.declared.FloorBox.{FloorBox}
use Rattle.pair_wire.specs.Message.{message_in}
use Rattle.pair_box.specs.End.{told, state_of, heard_in, EndThat, BoxEnd}

abbrev pub Alike : (FloorBox → Message → ℕ → Answer) → Type 0
Alike hears =
    (b : FloorBox) (m : Message) (random : ℕ) → (is_discovery m.body && is_registered (state_of b)) ≡ false
    → hears b m random ≡ hear_of b m random

pub floor-alike : Alike hear_of
floor-alike b m random e = refl

pub as-box : (A : Address) (hears : FloorBox → Message → ℕ → Answer) → Alike hears → (b : FloorBox) (random : ℕ) (os : List ℕ) (m : Message)
    → message_in os ≡ some m → (is_discovery m.body && is_registered (state_of b)) ≡ false
    → (BoxEnd A).hear b random os ≡ (EndThat hears A).hear b random os
as-box A hears same b random os m e q =
    ap (λ (x : Option Message). heard_in hear_of x b random) e
    ∙ ap told (sym (same b m random q))
    ∙ sym (ap (λ (x : Option Message). heard_in hears x b random) e)
