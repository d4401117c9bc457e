-- Rules R146, R188: a list gone through in order, each element with its number.
-- Assumes nothing.
use Rattle.std.specs.Prelude.{ℕ, suc, List, [], ◌∷◌}

-- f of each element and its number; the first has the number k
unfoldable pub places : {X Y : Type 0} → (ℕ → X → Y) → ℕ → List X → List Y
places f k [] = []
places f k (x ∷ xs) = f k x ∷ places f (suc k) xs

-- the state after g of each element and its number in turn
unfoldable pub each : {X S : Type 0} → (ℕ → X → S → S) → ℕ → List X → S → S
each g k [] s = s
each g k (x ∷ xs) s = each g (suc k) xs (g k x s)
