-- A fresh box is in WAIT: it is neither registered nor does it wait.
-- Assumes nothing.
use Prim.Native.Nat.{ℕ}
use mathlib.Core.Path.{◌≡◌, refl, ap, ◌∙◌}
use native.Mathlib.Omega.{arith}
use Rattle.laws.specs.Cases.{either}
use Rattle.frame.specs.declared.Address.{Address}
use Rattle.frame_range.specs.Fits.{is_individual}
use Rattle.box_registration.specs.declared.State.TheVariants.{Wait, RegisterReq, Registered}
use Rattle.box_calls.specs.Box.{fresh_of}
use Rattle.box_calls.specs.declared.Answer.{Answer}
use Rattle.box_calls.specs.declared.FloorBox.{FloorBox}
use Rattle.pair_box.specs.End.{state_of, BoxEnd}

waits : (A : Address) → state_of (fresh_of A).next ≡ Wait
unfolding fresh_of
waits A = either (λ (y : Answer). state_of y.next ≡ Wait) (is_individual A) _ _ (λ _. refl) (λ _. refl)

pub fresh-off : (A : Address) (b : FloorBox) → (BoxEnd A).Fresh b → (p : Unit {0}) → (¬ (BoxEnd A).Registered b p) × (¬ (BoxEnd A).Waiting b p)
fresh-off A b f p =
    let w : state_of b ≡ Wait = ap state_of f.1 ∙ waits A in (
      λ (r : state_of b ≡ Registered). let z : ◌≡◌ {A = ℕ} 0 1 = cc in omega arith,
      λ (r : state_of b ≡ RegisterReq). let z : ◌≡◌ {A = ℕ} 0 1 = cc in omega arith,
    )
