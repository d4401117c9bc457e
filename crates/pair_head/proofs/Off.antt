-- A fresh head's links are idle: none is registered, and none waits.
-- Assumes nothing.
use Prim.Native.Nat.{ℕ}
use mathlib.Core.Path.{◌≡◌}
use native.Mathlib.Omega.{arith}
use Rattle.frame.specs.declared.Address.{Address}
use Rattle.head_links.specs.declared.State.TheVariants.{Waiting}
use Rattle.pair_head.specs.End.{HeadState, link_at, HeadEnd}
use Rattle.pair_head.proofs.Fresh.{fresh-idle}

pub fresh-off : (A : Address) (s : HeadState) → (HeadEnd A).Fresh s → (n : ℕ) → (¬ (HeadEnd A).Registered s n) × (¬ (HeadEnd A).Waiting s n)
fresh-off A s f n =
    let i = fresh-idle s f n in (
      λ (r : (HeadEnd A).Registered s n). let k = r.0 in let z : ◌≡◌ {A = ℕ} 0 1 = cc in omega arith,
      λ (r : (link_at s n).state ≡ Waiting). let z : ◌≡◌ {A = ℕ} 0 1 = cc in omega arith,
    )
