-- Lemmas: a fresh head is sound (R153), and one that is refused is nobody's and touches no link (R155).
-- Assumes nothing.
use Rattle.std.specs.Prelude.{ℕ, suc, ◌≡◌, refl, true, false, List, [], ◌∷◌, ◌≢◌, length}
use Rattle.std.proofs.Common.{ap, ⊎_elim}
use Rattle.laws.specs.Cases.{decided}
use Rattle.frame.specs.declared.Address.{Address}
use Rattle.frame.specs.declared.Reply.{Reply}
use Rattle.frame.specs.declared.Reply.TheVariants.{Done, Range, Unsound}
use Rattle.frame_range.specs.Fits.{is_individual}
use Rattle.head_state.specs.Head.{begun, sound_of}
use Rattle.lent.specs.Folds.{places}
use Rattle.head_links.specs.Link.{idle}
use Rattle.head_links.specs.declared.Link.{Link}
use Rattle.head_survey.specs.Facts.{is_few, are_all_sound, different, sound_table}
use Rattle.head_calls.specs.Fresh.{Freshly, freshly, begun_of, fresh_of}
use Rattle.head_laws.specs.Events.{table_of}
use Rattle.head_laws.specs.Links.{idle-sound}
use Rattle.head_laws.specs.Places.{length-places}
use Rattle.head_laws.specs.Stated.{telling}
use Rattle.head_laws.specs.Window.{head_of}

-- every lent link idle
abbrev pub cleared : List Link → List Link
cleared xs = places (λ k l. idle) 1 xs

cleared-sound : (k : ℕ) (xs : List Link) → are_all_sound (places (λ k l. idle) k xs) ≡ true
unfolding places
cleared-sound k [] = refl
cleared-sound k (x ∷ xs) = rw idle-sound (cleared-sound (suc k) xs)

cleared-different : (k : ℕ) (xs : List Link) → different (places (λ k l. idle) k xs) ≡ true
unfolding places
cleared-different k [] = refl
cleared-different k (x ∷ xs) = cleared-different (suc k) xs

-- a refused head holds address zero
abbrev pub nobody : Address
nobody = record { 0 = 0 }

module _ (a : Address) (xs : List Link) where
  -- 13 is of the number of links only, and comes before 4
  pub fresh-unsound : is_few (length xs) ≡ false → fresh_of a xs ≡ freshly (telling Unsound (begun nobody)) xs
  unfolding fresh_of begun_of
  fresh-unsound n = rw n

  -- 4 is of the address
  pub fresh-range : is_few (length xs) ≡ true → is_individual a ≡ false → fresh_of a xs ≡ freshly (telling Range (begun nobody)) xs
  unfolding fresh_of begun_of
  fresh-range n i = rw (n, i)

  -- else the head is fresh, and every lent link idle
  pub fresh-done : is_few (length xs) ≡ true → is_individual a ≡ true → fresh_of a xs ≡ freshly (telling Done (begun a)) (cleared xs)
  unfolding fresh_of begun_of
  fresh-done n i = rw (n, i)

  told : (x : Reply) → fresh_of a xs ≡ freshly (telling x (begun nobody)) xs
      → fresh_of a xs ≡ freshly (telling (fresh_of a xs).answer.reply (begun nobody)) xs
  told x e = rw e

  -- a refused fresh head holds address zero, and the lent links are as they were
  pub fresh-refused : (fresh_of a xs).answer.reply ≢ Done
      → fresh_of a xs ≡ freshly (telling (fresh_of a xs).answer.reply (begun nobody)) xs
  fresh-refused n =
      ⊎_elim
      (λ (k : is_few (length xs) ≡ true).
      ⊎_elim (λ (i : is_individual a ≡ true). absurd (n (ap (λ (f : Freshly). f.answer.reply) (fresh-done k i))))
      (λ (i : is_individual a ≡ false). told Range (fresh-range k i))
      (decided (is_individual a)))
      (λ (k : is_few (length xs) ≡ false). told Unsound (fresh-unsound k))
      (decided (is_few (length xs)))

-- a fresh head and its table are sound
pub begun-sound : (a : Address) → is_individual a ≡ true → sound_of (begun a) ≡ true
begun-sound a i = head_of (begun a) i refl

pub cleared-table : (xs : List Link) → is_few (length xs) ≡ true → sound_table (cleared xs) ≡ true
cleared-table xs n =
    table_of (cleared xs) (rw (length-places (λ (k : ℕ) (l : Link). idle) 1 xs) n) (cleared-sound 1 xs) (cleared-different 1 xs)

-- a head with address zero is not
pub nobody-unsound : sound_of (begun nobody) ≡ false
unfolding sound_of
nobody-unsound = refl
