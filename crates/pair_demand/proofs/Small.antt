-- Small lemmas that the laws of both ends and the pair theorem share. Assumes nothing.
use mathlib.Core.Path.{◌≡◌, sym, subst}
use mathlib.Core.Bool.{Bool, true, false}
use mathlib.Core.List.{List, [], ◌∷◌, ◌++◌, map, Memᴰ}
use Prim.Native.Nat.{ℕ}
use native.Mathlib.Omega.{arith}
use Rattle.pair_demand.specs.Faithful.{Same}
use Rattle.pair_demand.specs.Laws.{All}

-- A property of every element of a list.
module _ {A : Type 0} (P : A → Type 0) where
  pub all-at : {x : A} {l : List A} → Memᴰ x l → All P l → P x
  all-at (Memᴰ.head e) h = subst P (sym e) h.0
  all-at (Memᴰ.tail m) h = all-at m h.1

  pub all_join : (l r : List A) → All P l → All P r → All P (l ++ r)
  all_join [] r h k = k
  all_join (x ∷ xs) r h k = (h.0, all_join xs r h.1 k)

  pub all_any : ((x : A) → P x) → (l : List A) → All P l
  all_any h [] = tt
  all_any h (x ∷ xs) = (h x, all_any h xs)

pub all_map : {A B : Type 0} (P : A → Type 0) (Q : B → Type 0) (f : A → B) → ((x : A) → P x → Q (f x)) → (l : List A) → All P l → All Q (map f l)
all_map P Q f up [] h = tt
all_map P Q f up (x ∷ xs) h = (up x h.0, all_map P Q f up xs h.1)

pub clash : (b : Bool) → b ≡ false → b ≡ true → ⊥
clash b e t = let z : ◌≡◌ {A = ℕ} 0 1 = cc in omega arith

-- what two tell of the same is the same
pub carried : {P Q R S : Type 0} → Same P Q → Same R S → Same Q S → Same P R
carried a b c = ((λ p. b.1 (c.0 (a.0 p))), (λ r. a.1 (c.1 (b.0 r))))
