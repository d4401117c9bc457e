-- R77: at most one link of a sound table is held at an address.
-- Assumes nothing.
use Prim.Native.Nat.{ℕ, suc}
use mathlib.Core.Path.{◌≡◌, refl, sym, ◌∙◌}
use mathlib.Core.Bool.{true, false≢true}
use mathlib.Core.List.{List, [], ◌∷◌}
use mathlib.Core.Logic.{◌≢◌, ⊎_elim}
use native.Mathlib.Omega.{arith}
use borrow.Author.Tests.{eqb-true, eq-eqb, ne_eqb}
use lib.Dec.{eqb}
use Rattle.laws.specs.Cases.{either}
use Rattle.frame.specs.declared.Address.{Address}
use Rattle.head_links.specs.Link.{idle}
use Rattle.head_links.specs.declared.Link.{Link}
use Rattle.head_survey.specs.Facts.{holds, any_holds, different, link_from}
use Rattle.head_laws.specs.Links.{held_at}
use Rattle.head_laws.specs.Numbered.{held-has}
use Rattle.head_laws.specs.Table.{or_split, or-first, or-second, different-first, different-rest}

module _ (a : Address) where
  -- a link that is held at the address, and whether there is one
  pub number-holds : (n k : ℕ) (xs : List Link) → holds a (link_from n k xs) ≡ true → any_holds a xs ≡ true
  number-holds n k [] = λ h. absurd (false≢true (held_at a idle h).0)
  number-holds n k (x ∷ xs) =
      either (λ (l : Link). holds a l ≡ true → any_holds a (x ∷ xs) ≡ true) (eqb k n) _ _ (λ _ h. or-first (holds a x) (any_holds a xs) h)
      (λ _ h. or-second (holds a x) (any_holds a xs) (number-holds n (suc k) xs h))

  pub holds-number : (k : ℕ) (xs : List Link) → any_holds a xs ≡ true → (n : ℕ) × (holds a (link_from n k xs) ≡ true)
  holds-number k [] h = absurd (false≢true h)
  holds-number k (x ∷ xs) h =
      ⊎_elim (λ (t : holds a x ≡ true). (k, rw (eq-eqb k k refl) t))
      (λ (t : any_holds a xs ≡ true).
      let f = holds-number (suc k) xs t in
      let has = held-has f.0 (suc k) xs (held_at a (link_from f.0 (suc k) xs) f.1).0 in
      let later : k ≢ f.0 = omega arith in
      (f.0, rw (ne_eqb k f.0 later) f.1))
      (or_split (holds a x) (any_holds a xs) h)

  pub held-once : (n m k : ℕ) (xs : List Link) → different xs ≡ true → holds a (link_from n k xs) ≡ true
      → holds a (link_from m k xs) ≡ true → n ≡ m
  held-once n m k [] d = λ h g. absurd (false≢true (held_at a idle h).0)
  held-once n m k (x ∷ xs) d =
      either (λ (l : Link). holds a l ≡ true → holds a (link_from m k (x ∷ xs)) ≡ true → n ≡ m) (eqb k n) _ _
      (λ t h.
      either (λ (l : Link). holds a l ≡ true → n ≡ m) (eqb k m) _ _ (λ u _. sym (eqb-true k n t) ∙ eqb-true k m u)
      (λ u g. absurd (false≢true (different-first x xs d a h (number-holds m (suc k) xs g)))))
      (λ t h.
      either (λ (l : Link). holds a l ≡ true → n ≡ m) (eqb k m) _ _
      (λ u g. absurd (false≢true (different-first x xs d a g (number-holds n (suc k) xs h))))
      (λ u g. held-once n m (suc k) xs (different-rest x xs d) h g))
