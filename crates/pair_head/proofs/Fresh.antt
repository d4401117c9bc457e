-- A fresh head of the pair: 1 to 64 links, all idle, and an individual address of its own; a run reaches it.
-- Assumes nothing.
use Prim.Native.Nat.{ℕ, suc}
use mathlib.Core.Path.{◌≡◌, refl, sym, ap, subst, ◌∙◌}
use mathlib.Core.Bool.{true, false}
use mathlib.Core.List.{List, [], ◌∷◌}
use mathlib.Core.Logic.{⊎_elim}
use native.Mathlib.Omega.{arith}
use lib.Dec.{eqb}
use lib.ListN.{length}
use Rattle.laws.specs.Cases.{either, decided}
use Rattle.frame.specs.Card.{number_of}
use Rattle.frame.specs.declared.Address.{Address}
use Rattle.frame.specs.declared.Reply.{Reply}
use Rattle.frame.specs.declared.Reply.TheVariants.{Done}
use Rattle.frame_range.specs.Fits.{is_individual}
use Rattle.lent.specs.Folds.{places}
use Rattle.head_links.specs.Link.{idle}
use Rattle.head_links.specs.declared.Link.{Link}
use Rattle.head_survey.specs.Facts.{is_few, link_from}
use Rattle.head_calls.specs.Fresh.{Freshly, fresh_of}
use Rattle.head_laws.specs.Fresh.{fresh-unsound, fresh-range, fresh-done}
use Rattle.head_laws.specs.Stated.{Run, fresh}
use Rattle.pair_head.specs.End.{HeadState, link_at, Fresh}

idle-placed : (n k : ℕ) (xs : List Link) → link_from n k (places (λ j l. idle) k xs) ≡ idle
unfolding places
idle-placed n k [] = refl
idle-placed n k (x ∷ xs) = either (λ (l : Link). l ≡ idle) (eqb k n) _ _ (λ _. refl) (λ _. idle-placed n (suc k) xs)

module _ (a : Address) (xs : List Link) where
  abbrev made : HeadState
  made = record { head = (fresh_of a xs).answer.next; table = (fresh_of a xs).table }

  abbrev reply : Freshly → Reply
  reply f = f.answer.reply

  -- one that was made passed both tests
  few : reply (fresh_of a xs) ≡ Done → is_few (length xs) ≡ true
  few d =
      ⊎_elim (λ (n : is_few (length xs) ≡ true). n)
      (λ (n : is_few (length xs) ≡ false). absurd (omega (arith, ap number_of (sym (ap reply (fresh-unsound a xs n)) ∙ d))))
      (decided (is_few (length xs)))

  individual : reply (fresh_of a xs) ≡ Done → is_individual a ≡ true
  individual d =
      ⊎_elim (λ (i : is_individual a ≡ true). i)
      (λ (i : is_individual a ≡ false). absurd (omega (arith, ap number_of (sym (ap reply (fresh-range a xs (few d) i)) ∙ d))))
      (decided (is_individual a))

  -- and one that passes them is made
  pub fresh-made : is_few (length xs) ≡ true → is_individual a ≡ true → Fresh made
  fresh-made n i = (a, xs, ap reply (fresh-done a xs n i), refl)

pub fresh-run : (s : HeadState) → Fresh s → Run s.head s.table
fresh-run s f =
    subst (λ (x : HeadState). Run x.head x.table) (sym f.3)
    (fresh f.0 f.1 (individual f.0 f.1 f.2) (few f.0 f.1 f.2))

pub fresh-idle : (s : HeadState) → Fresh s → (n : ℕ) → link_at s n ≡ idle
fresh-idle s f n =
    let a = f.0 in
    let xs = f.1 in
    ap (λ (x : HeadState). link_at x n) f.3
    ∙ ap (λ (x : Freshly). link_from n 1 x.table) (fresh-done a xs (few a xs f.2) (individual a xs f.2))
    ∙ idle-placed n 1 xs
