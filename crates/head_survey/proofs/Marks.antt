-- An address whose place has no mark is held by none of the links that are passed, so that the search among them may be spared.
-- Assumes nothing.
use Prim.Native.Nat.{ℕ, suc, ◌%◌, ◌<◌}
use mathlib.Core.Path.{◌≡◌, refl, sym, ap, ◌∙◌, subst}
use mathlib.Core.Bool.{Bool, true, false, cond, ◌&&◌, ◌||◌, false≢true}
use mathlib.Core.List.{List, [], ◌∷◌}
use native.Mathlib.Omega.{arith}
use borrow.Author.Tests.{eqb-true, eqb-false}
use lib.Dec.{eqb}
use lib.ListN.{length, set, take, replicate, length-set, length-replicate}
use lib.Seq.{get_or-set_same, get_or-set_other}
use Rattle.frame.specs.declared.Address.{Address}
use Rattle.lent.specs.Folds.{each}
use Rattle.lent.proofs.Folds.{fold_to, fold-take}
use Rattle.head_links.specs.Link.{is_held}
use Rattle.head_links.specs.declared.Link.{Link}
use Rattle.head_survey.specs.Facts.{holds, any_holds}
use Rattle.head_survey.proofs.Page.{any-is}
use Rattle.head_survey.specs.Pass.{place_of, unmarked, is_marked, mark_of, sought_of, twice_of}

abbrev pub marked : ℕ → Link → List Bool → List Bool
marked k l ms = mark_of l ms

pub none-marked : replicate 251 false ≡ unmarked
unfolding unmarked
none-marked = refl

pub place_lt : (a : Address) → place_of a < 251
unfolding place_of
place_lt a = omega arith

pub mark-length : (l : Link) (ms : List Bool) → length (mark_of l ms) ≡ length ms
unfolding mark_of
mark-length l ms = by-test (is_held l.state) _
  where
    by-test : (t mark : Bool) → length (cond t (set ms (place_of l.address) mark) ms) ≡ length ms
    by-test true mark = length-set ms (place_of l.address) mark
    by-test false mark = refl

-- a mark that is left at the place of an address is one of that address, and the others stay
own-mark : (ms : List Bool) (a : Address) → length ms ≡ 251 → is_marked (set ms (place_of a) true) a ≡ true
unfolding is_marked
own-mark ms a e = get_or-set_same ms (place_of a) true false (omega (arith, e, place_lt a))

other-mark : (ms : List Bool) (k : ℕ) (a : Address) → length ms ≡ 251 → is_marked ms a ≡ true → is_marked (set ms k true) a ≡ true
unfolding is_marked
other-mark ms k a e m = by-test (eqb (place_of a) k) refl
  where
    by-test : (t : Bool) → eqb (place_of a) k ≡ t → is_marked (set ms k true) a ≡ true
    by-test true p = subst (λ (j : ℕ). is_marked (set ms j true) a ≡ true) (eqb-true (place_of a) k p) (own-mark ms a e)
    by-test false p = get_or-set_other ms k (place_of a) true false (eqb-false (place_of a) k p) ∙ m

mark-stays : (l : Link) (ms : List Bool) (a : Address) → length ms ≡ 251 → is_marked ms a ≡ true → is_marked (mark_of l ms) a ≡ true
unfolding mark_of
mark-stays l ms a e m = by-test (is_held l.state)
  where
    by-test : (t : Bool) → is_marked (cond t (set ms (place_of l.address) true) ms) a ≡ true
    by-test true = other-mark ms (place_of l.address) a e m
    by-test false = m

mark-holds : (l : Link) (ms : List Bool) (a : Address) → length ms ≡ 251 → holds a l ≡ true → is_marked (mark_of l ms) a ≡ true
unfolding mark_of holds place_of
mark-holds l ms a e = by-test (is_held l.state) (eqb l.address.0 a.0) refl
  where
    by-test : (t same : Bool) → eqb l.address.0 a.0 ≡ same → (t && same) ≡ true → is_marked (cond t (set ms (place_of l.address) true) ms) a ≡ true
    by-test true true p h = subst (λ (x : ℕ). is_marked (set ms (x % 251) true) a ≡ true) (sym (eqb-true l.address.0 a.0 p)) (own-mark ms a e)
    by-test true false p h = absurd (false≢true h)
    by-test false same p h = absurd (false≢true h)

marks_stay : (a : Address) (k : ℕ) (xs : List Link) (ms : List Bool) → length ms ≡ 251 → is_marked ms a ≡ true → is_marked (each marked k xs ms) a ≡ true
unfolding each
marks_stay a k [] ms e m = m
marks_stay a k (x ∷ xs) ms e m = marks_stay a (suc k) xs (mark_of x ms) (mark-length x ms ∙ e) (mark-stays x ms a e m)

all-marked : (a : Address) (k : ℕ) (xs : List Link) (ms : List Bool) → length ms ≡ 251 → any_holds a xs ≡ true → is_marked (each marked k xs ms) a ≡ true
unfolding each
all-marked a k [] ms e h = absurd (false≢true h)
all-marked a k (x ∷ xs) ms e h = by-test (all-marked a (suc k) xs (mark_of x ms) (mark-length x ms ∙ e)) (holds a x) refl h
  where
    by-test : (any_holds a xs ≡ true → is_marked (each marked (suc k) xs (mark_of x ms)) a ≡ true) → (t : Bool) → holds a x ≡ t → (t || any_holds a xs) ≡ true → is_marked (each marked (suc k) xs (mark_of x ms)) a ≡ true
    by-test rest true p h = marks_stay a (suc k) xs (mark_of x ms) (mark-length x ms ∙ e) (mark-holds x ms a e p)
    by-test rest false p h = rest h

-- where no mark is, none of the first i holds the address
pub unmarked-new : (a : Address) (xs : List Link) (i : ℕ) → is_marked (fold_to marked 1 xs i unmarked) a ≡ false → any_holds a (take i xs) ≡ false
unfolding unmarked
unmarked-new a xs i e = by-test (any_holds a (take i xs)) refl
  where
    by-test : (t : Bool) → any_holds a (take i xs) ≡ t → t ≡ false
    by-test true h = sym (all-marked a 1 (take i xs) unmarked (length-replicate {A = Bool} 251 false) h) ∙ ap (λ (ms : List Bool). is_marked ms a) (sym (fold-take marked 1 xs i unmarked)) ∙ e
    by-test false h = refl

-- the search behind the marks finds what a search among all of the first i would
pub spared : (xs : List Link) (l : Link) (i : ℕ) → sought_of (fold_to marked 1 xs i unmarked) (take i xs) l ≡ twice_of xs l i
unfolding sought_of
spared xs l i =
    ap (λ (t : Bool). is_held l.state && (is_marked (fold_to marked 1 xs i unmarked) l.address && t)) (any-is l.address (take i xs))
    ∙ by-test (is_held l.state) (is_marked (fold_to marked 1 xs i unmarked) l.address) refl
  where
    by-test : (t m : Bool) → is_marked (fold_to marked 1 xs i unmarked) l.address ≡ m → (t && (m && any_holds l.address (take i xs))) ≡ (t && any_holds l.address (take i xs))
    by-test true true e = refl
    by-test true false e = sym (unmarked-new l.address xs i e)
    by-test false m e = refl
