-- Rules R24, R85, R126 to R128, R132: the choice of a grant. The list is a list, in order of arrival.
-- Assumes nothing.
use Rattle.std.specs.Prelude.{Option, None, Some, ℕ, zero, suc, Bool, false, cond, ◌||◌, List, [], ◌∷◌, leb}
use Rattle.clock.specs.Counts.{is_past, nearer}
use Rattle.clock.specs.Spans.{same}
use Rattle.clock.specs.declared.Span.{Span}

-- R24
abbrev pub room : ℕ
room = 16

-- R85
abbrev pub holds : Span → List Span → Bool
holds e [] = false
holds e (x ∷ l) = same e x || holds e l

-- R126
abbrev pub ahead : ℕ → List Span → List Span
ahead now [] = []
ahead now (e ∷ l) = cond (is_past now e.start.0) (ahead now l) (e ∷ ahead now l)

-- R127: of e and, after it, l
abbrev pub nearest : ℕ → Span → List Span → Span
nearest now e [] = e
nearest now e (x ∷ l) = nearest now (cond (nearer now x.start.0 e.start.0) x e) l

-- R132: of equal ones the earliest
abbrev pub remove : Span → List Span → List Span
remove e [] = []
remove e (x ∷ l) = cond (same e x) l (x ∷ remove e l)

-- what is chosen, and the list that is left
pub record Left : Type 0 where
  pub list : List Span
  pub chosen : Option Span

-- R127, R128: of a list that has no past grants
abbrev pub serve : ℕ → ℕ → List Span → (List Span → Left) → Left
serve now need [] again = record { list = []; chosen = None }
serve now need (e ∷ l) again =
    let n = nearest now e l in
    cond (leb need n.length.0) (record { list = e ∷ l; chosen = Some n }) (again (remove n (e ∷ l)))

-- R128: again, as often as there are grants
unfoldable pub settle : ℕ → ℕ → ℕ → List Span → Left
settle zero now need l = record { list = l; chosen = None }
settle (suc k) now need l = serve now need l (λ rest. settle k now need rest)
