-- Where enough is lent, the box and two frames have room.
-- Assumes nothing.
use Prim.Native.Nat.{ℕ, ◌≤◌}
use mathlib.Core.Path.{◌≡◌, sym, ◌∙◌}
use mathlib.Core.Bool.{Bool, true, ◌&&◌, and-eq-true_iff}
use borrow.Author.Tests.{leb-true}
use lib.Dec.{leb}
use Rattle.face_box_calls.specs.Calls.{is_lent}

parts : (b f r : ℕ) (t : Bool) → t ≡ is_lent b f r → t ≡ true → (leb 29 b ≡ true) × (leb 120 f ≡ true)
unfolding is_lent
parts b f r t e h =
    let all : (leb 29 b && leb 120 f && leb 19 r) ≡ true = sym e ∙ h in
    (and-eq-true_iff (leb 29 b) (leb 120 f)).0 ((and-eq-true_iff (leb 29 b && leb 120 f) (leb 19 r)).0 all).0

pub place : (b f r : ℕ) (t : Bool) → t ≡ is_lent b f r → t ≡ true → 29 ≤ b
place b f r t e h = leb-true 29 b (parts b f r t e h).0

pub room : (b f r : ℕ) (t : Bool) → t ≡ is_lent b f r → t ≡ true → 120 ≤ f
room b f r t e h = leb-true 120 f (parts b f r t e h).1
