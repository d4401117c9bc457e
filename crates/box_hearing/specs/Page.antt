-- Lemmas: R123 as a list: which grants are taken, and that the walk over the GATE takes these and tells each.
-- Assumes nothing.
use Rattle.std.specs.Prelude.{ℕ, ◌+◌, ◌≤◌, ◌<◌, ◌≡◌, refl, Bool, true, false, cond, ◌&&◌, ltb, length}
use Rattle.std.proofs.Common.{ap, ◌∙◌, ⊎_elim, arith, length-append}
use Rattle.std.proofs.Math.Bool.{and-eq-true_iff}
use mathlib.Core.List.{List, [], ◌∷◌, ◌++◌, map, foldl, append_assoc, append-nil}
use Rattle.laws.specs.Cases.{decided}
use Rattle.clock.specs.Numbers.{start_in_range}
use Rattle.clock.specs.declared.Span.{Span}
use Rattle.frame.specs.declared.Grant.{Grant}
use Rattle.box_grants.specs.Activation.{room}
use Rattle.box_grants.specs.Listed.{pushed}
use Rattle.box_grants.specs.declared.GrantList.{GrantList}
use Rattle.box_telling.specs.Told.{no_notices, added}
use Rattle.box_telling.specs.declared.Notice.{Notice}
use Rattle.box_telling.specs.declared.Notice.TheVariants.{Nothing, Granted}
use Rattle.box_telling.specs.declared.Notices.{Notices}
use Rattle.box_processes.specs.declared.Processes.{Processes}
use Rattle.box_hearing.specs.Gate.{entry_of, taken, taken_all}
use Rattle.box_hearing.specs.declared.Taking.{Taking}

-- R123, of a list that holds so many
abbrev pub taken_of : ℕ → ℕ → List Grant → List Grant
taken_of now number [] = []
taken_of now number (g ∷ gs) =
    cond (start_in_range now g.start.0 && ltb number room) (g ∷ taken_of now (number + 1) gs) (taken_of now number gs)

-- by a box with its count and its list
abbrev pub taken_from : Processes → List Grant → List Grant
taken_from p gs = taken_of p.count.0 p.list.number gs

-- the first four in order, and nothing behind the last
abbrev pub slots : List Notice → Notices
slots [] = no_notices
slots (a ∷ []) = record { first = a; second = Nothing; third = Nothing; fourth = Nothing }
slots (a ∷ b ∷ []) = record { first = a; second = b; third = Nothing; fourth = Nothing }
slots (a ∷ b ∷ c ∷ []) = record { first = a; second = b; third = c; fourth = Nothing }
slots (a ∷ b ∷ c ∷ d ∷ l) = record { first = a; second = b; third = c; fourth = d }

slots-added : (l : List Grant) (g : Grant) → length l < 4 → added (slots (map Granted l)) (Granted g) ≡ slots (map Granted (l ++ (g ∷ [])))
unfolding added
slots-added [] g h = refl
slots-added (a ∷ []) g h = refl
slots-added (a ∷ b ∷ []) g h = refl
slots-added (a ∷ b ∷ c ∷ []) g h = refl
slots-added (a ∷ b ∷ c ∷ d ∷ l) g h = absurd (omega arith)

pub pushed-number : (s : GrantList) (e : Span) → ltb s.number 16 ≡ true → (pushed s e).number ≡ s.number + 1
unfolding pushed
pushed-number s e h = rw h

-- what the walk makes of a grant that is taken, and of one that is not
module _ (now : ℕ) where
  abbrev took : Taking → Grant → Taking
  took t g = record { list = pushed t.list (entry_of g); notices = added t.notices (Granted g) }

  abbrev takes : Taking → Grant → Bool
  takes t g = start_in_range now g.start.0 && ltb t.list.number room

  taken_yes : (t : Taking) (g : Grant) → takes t g ≡ true → taken now t g ≡ took t g
  unfolding taken
  taken_yes t g e = rw e

  taken-no : (t : Taking) (g : Grant) → takes t g ≡ false → taken now t g ≡ t
  unfolding taken
  taken-no t g e = rw e

  taken-room : (t : Taking) (g : Grant) → takes t g ≡ true → (took t g).list.number ≡ t.list.number + 1
  taken-room t g e = pushed-number t.list (entry_of g) ((and-eq-true_iff (start_in_range now g.start.0) (ltb t.list.number 16)).0 e).1

  -- the whole walk
  list-walk : (gs : List Grant) (t : Taking)
      → (foldl (taken now) t gs).list ≡ foldl pushed t.list (map entry_of (taken_of now t.list.number gs))
  list-walk [] t = refl
  list-walk (g ∷ gs) t =
      let on : Taking → GrantList = λ x. (foldl (taken now) x gs).list in
      ⊎_elim
      (λ (e : takes t g ≡ true). rw (e, ← taken-room t g e) (ap on (taken_yes t g e) ∙ list-walk gs (took t g)))
      (λ (e : takes t g ≡ false). rw e (ap on (taken-no t g e) ∙ list-walk gs t))
      (decided (takes t g))

  notice-walk : (gs : List Grant) (t : Taking) (l : List Grant) → t.notices ≡ slots (map Granted l) → length l + length gs ≤ 4
      → (foldl (taken now) t gs).notices ≡ slots (map Granted (l ++ taken_of now t.list.number gs))
  notice-walk [] t l h k = rw append-nil h
  notice-walk (g ∷ gs) t l h k =
      let on : Taking → Notices = λ x. (foldl (taken now) x gs).notices in
      let more = l ++ (g ∷ []) in
      let long : length more ≡ length l + 1 = length-append l (g ∷ []) in
      let told : added t.notices (Granted g) ≡ slots (map Granted more) = rw h (slots-added l g (omega arith)) in
      ⊎_elim
      (λ (e : takes t g ≡ true).
      rw (e, ← taken-room t g e, ← append_assoc l (g ∷ [])) (ap on (taken_yes t g e) ∙ notice-walk gs (took t g) more told (omega arith)))
      (λ (e : takes t g ≡ false). rw e (ap on (taken-no t g e) ∙ notice-walk gs t l h (omega arith)))
      (decided (takes t g))

-- the GATE's list is the one before it with each grant taken put behind it, and its notices are these grants, in order
module _ (p : Processes) (gs : List Grant) where
  pub taken-list : (taken_all p gs).list ≡ foldl pushed p.list (map entry_of (taken_from p gs))
  taken-list = list-walk p.count.0 gs (record { list = p.list; notices = no_notices })

  pub taken-notices : length gs ≤ 4 → (taken_all p gs).notices ≡ slots (map Granted (taken_from p gs))
  taken-notices h = notice-walk p.count.0 gs (record { list = p.list; notices = no_notices }) [] refl (omega arith)
