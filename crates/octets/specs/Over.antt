-- Rule R149: octets laid over others.
-- Assumes nothing.
use Rattle.std.specs.Prelude.{ℕ, zero, suc, List, [], ◌∷◌, ◌++◌, length, drop}

-- l with the octets b written over it from a
abbrev pub over : ℕ → List ℕ → List ℕ → List ℕ
over zero l b = b ++ drop (length b) l
over (suc a) [] b = []
over (suc a) (x ∷ l) b = x ∷ over a l b
