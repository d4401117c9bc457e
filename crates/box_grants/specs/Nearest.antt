-- Statement: what a choice takes, and what it leaves in the list (R126 to R128).
-- Assumes nothing.
use Rattle.std.specs.Prelude.{Option, None, Some, ℕ, ◌≤◌, ◌≡◌, true, false, List, [], ◌∷◌, ◌++◌}
use Rattle.clock.specs.Counts.{is_past, nearer}
use Rattle.box_grants.specs.Activation.{holds}
use Rattle.box_grants.specs.Listed.{list_of, choose_of}
use Rattle.clock.specs.declared.Span.{Span}
use Rattle.box_grants.specs.declared.GrantList.{GrantList}

-- of a list in order of arrival: each grant that came before e is further than e, and none that came after it is nearer
pub record Nearest (now : ℕ) (l : List Span) (e : Span) : Type 0 where
  pub before : List Span
  pub after : List Span
  pub stands : l ≡ before ++ (e ∷ after)
  pub further : (x : Span) → holds x before ≡ true → nearer now e.start.0 x.start.0 ≡ true
  pub no-nearer : (x : Span) → holds x after ≡ true → nearer now x.start.0 e.start.0 ≡ false

module _ (now need : ℕ) (s : GrantList) where
  abbrev pub chosen : Option Span
  chosen = (choose_of now need s).chosen

  abbrev pub left : List Span
  left = list_of (choose_of now need s).list

  pub record Chooses : Type 0 where
    -- the smallest distance, earliest arrival first
    pub nearest : (e : Span) → chosen ≡ Some e → Nearest now left e
    -- it is repeated often enough: nothing is chosen just where nothing is left
    pub none_left : chosen ≡ None → left ≡ []
    pub none-chosen : left ≡ [] → chosen ≡ None
    -- no past grant is left
    pub ahead : (x : Span) → holds x left ≡ true → is_past now x.start.0 ≡ false
    -- and none is lost that is not past and has the needed length
    pub kept : (x : Span) → holds x (list_of s) ≡ true → is_past now x.start.0 ≡ false → need ≤ x.length.0 → holds x left ≡ true

-- of every list, sound or not
unfoldable pub EveryChoice : Type 0
EveryChoice = (now need : ℕ) (s : GrantList) → Chooses now need s
