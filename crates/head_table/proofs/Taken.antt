-- What the turns that are taken leave is what all of them would: an event that is nothing changes no link and sends no frame.
-- Assumes nothing.
use Rattle.std.proofs.Common.{Option}
use Prim.Native.Nat.{ℕ, ◌+◌, ◌<◌, ◌≤◌}
use native.Mathlib.Numerals.{add-one}
use mathlib.Core.Path.{◌≡◌, refl, sym, ap, ◌∙◌}
use mathlib.Core.List.{List}
use lib.ListN.{length, get_or, set}
use Rattle.frame.specs.declared.Address.{Address}
use Rattle.frame.specs.declared.Body.{Body}
use Rattle.lent.specs.Folds.{each, places}
use Rattle.lent.specs.Laws.{places-still, each-still}
use Rattle.lent.proofs.Folds.{up_to, up_at, up_more, up-all, up-still, fold_to, fold_more, fold-all, fold-still}
use Rattle.head_links.specs.Link.{idle}
use Rattle.head_links.specs.declared.Link.{Link}
use Rattle.head_table.specs.Events.{react_of, reacted, turns_of}
use Rattle.head_table.specs.Output.{Output, note_of, note_link}
use Rattle.head_table.specs.declared.Event.{Event}
use Rattle.head_table.specs.declared.Sender.{Sender}

pub all-reacted : (e : Event) (xs : List Link) (i : ℕ) → turns_of e (length xs) ≤ i → up_to (reacted e) 1 xs i ≡ places (reacted e) 1 xs
all-reacted Event.Nothing xs i l =
    up-still (reacted Event.Nothing) (λ j x. refl) 1 xs i ∙ sym (places-still (reacted Event.Nothing) (λ j x. refl) 1 xs)
all-reacted Event.Clear xs i l = up-all (reacted Event.Clear) 1 xs i l
all-reacted Event.Tick xs i l = up-all (reacted Event.Tick) 1 xs i l
all-reacted (Event.Leap k) xs i l = up-all (reacted (Event.Leap k)) 1 xs i l
all-reacted (Event.At k c) xs i l = up-all (reacted (Event.At k c)) 1 xs i l

pub all_noted : (e : Event) (s : Sender) (xs : List Link) (i : ℕ) (st : Output) → turns_of e (length xs) ≤ i
    → fold_to (note_link e s) 1 xs i st ≡ each (note_link e s) 1 xs st
all_noted Event.Nothing s xs i st l =
    fold-still (note_link Event.Nothing s) (λ j x t. refl) 1 xs i st ∙ sym (each-still (note_link Event.Nothing s) (λ j x t. refl) 1 xs st)
all_noted Event.Clear s xs i st l = fold-all (note_link Event.Clear s) 1 xs i st l
all_noted Event.Tick s xs i st l = fold-all (note_link Event.Tick s) 1 xs i st l
all_noted (Event.Leap k) s xs i st l = fold-all (note_link (Event.Leap k) s) 1 xs i st l
all_noted (Event.At k c) s xs i st l = fold-all (note_link (Event.At k c) s) 1 xs i st l

-- ---- one turn more
module _ (e : Event) (xs : List Link) (i : ℕ) (l : i < length xs) where
  -- the link of that turn is as it was lent
  met : (ys : List Link) → ys ≡ up_to (reacted e) 1 xs i → get_or ys i idle ≡ get_or xs i idle
  met ys p = ap (λ (us : List Link). get_or us i idle) p ∙ up_at (reacted e) 1 xs i idle l

  pub table_more : (ys zs : List Link) → ys ≡ up_to (reacted e) 1 xs i → zs ≡ set ys i (react_of e (get_or ys i idle) (i + 1)).link → zs ≡ up_to (reacted e) 1 xs (i + 1)
  table_more ys zs p q =
      q
      ∙ ap (λ (x : Link). set ys i (react_of e x (i + 1)).link) (met ys p)
      ∙ ap (λ (us : List Link). set us i (react_of e (get_or xs i idle) (i + 1)).link) p
      ∙ up_more (reacted e) 1 xs i idle l
      ∙ ap (λ (j : ℕ). up_to (reacted e) 1 xs j) (sym (add-one i))

  pub sent_more : (ys : List Link) (s : Sender) (b st st' : Output) (x : Option (Address × Body)) → ys ≡ up_to (reacted e) 1 xs i → st ≡ fold_to (note_link e s) 1 xs i b
      → x ≡ (react_of e (get_or ys i idle) (i + 1)).sent → st' ≡ note_of s st x → st' ≡ fold_to (note_link e s) 1 xs (i + 1) b
  sent_more ys s b st st' x p q r h =
      h
      ∙ ap (λ (y : Option (Address × Body)). note_of s st y) (r ∙ ap (λ (y : Link). (react_of e y (i + 1)).sent) (met ys p))
      ∙ ap (λ (u : Output). note_link e s (i + 1) (get_or xs i idle) u) q
      ∙ fold_more (note_link e s) 1 xs i idle b l
      ∙ ap (λ (j : ℕ). fold_to (note_link e s) 1 xs j b) (sym (add-one i))
