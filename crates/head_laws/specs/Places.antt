-- Lemmas: R146: a change is made of the link of its number, and every other link is as it was.
-- Assumes nothing.
use Rattle.std.specs.Prelude.{ℕ, suc, ◌<◌, ◌≡◌, refl, Bool, cond, List, [], ◌∷◌, ◌≢◌, eqb, length}
use Rattle.std.proofs.Common.{sym, ap, subst, ◌∙◌, arith, eqb-true, eq-eqb, ne_eqb}
use Rattle.std.proofs.lemmas.Bool.{eqb-false}
use Rattle.laws.specs.Cases.{either}
use Rattle.lent.specs.Folds.{places}
use Rattle.head_links.specs.Steps.{still, change_of}
use Rattle.head_links.specs.declared.Change.{Change}
use Rattle.head_links.specs.declared.Link.{Link}
use Rattle.head_links.specs.declared.Stepped.{Stepped}
use Rattle.head_survey.specs.Facts.{link_from}
use Rattle.head_table.specs.Events.{port_of, react_of, reacted}
use Rattle.head_table.specs.declared.Event.{Event}

-- the list holds as many
pub length-places : {X Y : Type 0} (f : ℕ → X → Y) (k : ℕ) (xs : List X) → length (places f k xs) ≡ length xs
unfolding places
length-places f k [] = refl
length-places f k (x ∷ xs) = ap suc (length-places f (suc k) xs)

-- a table, and the same with m where l stood; if l stood nowhere they are the same
pub data Swap (l m : Link) : List Link → List Link → Type 0 where
  nowhere : Swap l m [] []
  here : (xs : List Link) → Swap l m (l ∷ xs) (m ∷ xs)
  there : (x : Link) {xs ys : List Link} → Swap l m xs ys → Swap l m (x ∷ xs) (x ∷ ys)

-- a change is made of the link of its number alone
pub at-number : (j : ℕ) (c : Change) (l : Link) → react_of (Event.At j c) l j ≡ change_of c l (port_of j)
at-number j c l = ap (λ (t : Bool). cond t (change_of c l (port_of j)) (still l)) (eq-eqb j j refl)

pub elsewhere : (j k : ℕ) (c : Change) (l : Link) → j ≢ k → react_of (Event.At j c) l k ≡ still l
elsewhere j k c l n = ap (λ (t : Bool). cond t (change_of c l (port_of k)) (still l)) (ne_eqb j k n)

behind : (j k : ℕ) (c : Change) (xs : List Link) → j < k → places (reacted (Event.At j c)) k xs ≡ xs
unfolding places
behind j k c [] h = refl
behind j k c (x ∷ xs) h =
    let n : j ≢ k = omega arith in
    ap (λ (y : Link). y ∷ places (reacted (Event.At j c)) (suc k) xs) (ap (λ (y : Stepped). y.link) (elsewhere j k c x n))
    ∙ ap (λ (ys : List Link). x ∷ ys) (behind j (suc k) c xs (omega arith))

-- of the first link, whose number is k
module _ (j k : ℕ) (c : Change) (x : Link) (xs : List Link) where
  abbrev Swapped : Link → List Link → Type 0
  Swapped l ys = Swap l (change_of c l (port_of j)).link (x ∷ xs) ys

  swap-here : k ≡ j → Swapped x (reacted (Event.At j c) k x ∷ places (reacted (Event.At j c)) (suc k) xs)
  swap-here e =
      let m = (change_of c x (port_of j)).link in
      let first : reacted (Event.At j c) k x ≡ m = rw e (ap (λ (y : Stepped). y.link) (at-number j c x)) in
      subst (λ (y : Link). Swap x m (x ∷ xs) (y ∷ places (reacted (Event.At j c)) (suc k) xs)) (sym first)
      (subst (λ (ys : List Link). Swap x m (x ∷ xs) (m ∷ ys)) (sym (behind j (suc k) c xs (omega arith))) (here xs))

  swap-there : (l : Link) → j ≢ k → Swap l (change_of c l (port_of j)).link xs (places (reacted (Event.At j c)) (suc k) xs)
      → Swapped l (reacted (Event.At j c) k x ∷ places (reacted (Event.At j c)) (suc k) xs)
  swap-there l n w =
      subst (λ (y : Link). Swapped l (y ∷ places (reacted (Event.At j c)) (suc k) xs)) (sym (ap (λ (y : Stepped). y.link) (elsewhere j k c x n)))
      (there x w)

-- so a change leaves the table as it was, but for the link of its number
pub swapped : (j k : ℕ) (c : Change) (xs : List Link)
    → Swap (link_from j k xs) (change_of c (link_from j k xs) (port_of j)).link xs (places (reacted (Event.At j c)) k xs)
unfolding places
swapped j k c [] = nowhere
swapped j k c (x ∷ xs) =
    either (λ (l : Link). Swapped j k c x xs l (reacted (Event.At j c) k x ∷ places (reacted (Event.At j c)) (suc k) xs)) (eqb k j) _ _
    (λ t. swap-here j k c x xs (eqb-true k j t))
    (λ t. swap-there j k c x xs (link_from j (suc k) xs) (λ (e : j ≡ k). eqb-false k j t (sym e)) (swapped j (suc k) c xs))
