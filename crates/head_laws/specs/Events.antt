-- Lemmas: an event that may be done on a sound table leaves it sound, and with as many links.
-- Assumes nothing.
use Rattle.std.specs.Prelude.{ℕ, suc, ◌≤◌, ◌≡◌, refl, true, ◌&&◌, List, [], ◌∷◌, ◌⊎◌, eqb, length}
use Rattle.std.proofs.Math.Bool.{and-eq-true_iff}
use Rattle.std.proofs.lemmas.Bool.{false≢true}
use Rattle.std.proofs.Common.{inl, inr, ⊎_elim}
use Rattle.laws.specs.Cases.{either}
use Rattle.frame.specs.declared.Address.{Address}
use Rattle.lent.specs.Laws.{places-still}
use Rattle.head_links.specs.Sound.{sound_of}
use Rattle.head_links.specs.declared.Link.{Link}
use Rattle.head_survey.specs.Facts.{is_few, holds, any_holds, are_all_sound, different, sound_table, link_from, quiet_all}
use Rattle.head_table.specs.Events.{port_of, reacted, driven_of}
use Rattle.head_table.specs.declared.Event.{Event}
use Rattle.head_laws.specs.Links.{idle-sound}
use Rattle.head_laws.specs.Places.{length-places, Swap, nowhere, here, there, swapped}
use Rattle.head_laws.specs.Steps.{Allowed, change-suits}
use Rattle.head_laws.specs.Passing.{passed_all, all_sound, all-different, leap-driven}
use Rattle.head_laws.specs.Table.{or_split, or-first, or-second, different-first, different-rest, different-of, sound-first, tick-sound, tick-different}

-- the parts of the test, and back
pub table-parts : (xs : List Link) → sound_table xs ≡ true
    → (is_few (length xs) ≡ true) × (are_all_sound xs ≡ true) × (different xs ≡ true)
unfolding sound_table
table-parts xs h =
    let p = (and-eq-true_iff (is_few (length xs) && are_all_sound xs) (different xs)).0 h in
    let q = (and-eq-true_iff (is_few (length xs)) (are_all_sound xs)).0 p.0 in
    (q.0, q.1, p.1)

pub table_of : (xs : List Link) → is_few (length xs) ≡ true → are_all_sound xs ≡ true → different xs ≡ true → sound_table xs ≡ true
unfolding sound_table
table_of xs n s d = rw (n, s, d)

-- the link of a number is sound
pub found-sound : (number k : ℕ) (xs : List Link) → are_all_sound xs ≡ true → sound_of (link_from number k xs) ≡ true
found-sound number k [] s = idle-sound
found-sound number k (x ∷ xs) s =
    let p = sound-first x xs s in
    either (λ (l : Link). sound_of l ≡ true) (eqb k number) _ _ (λ _. p.0) (λ _. found-sound number (suc k) xs p.1)

-- one link for another
module _ {l m : Link} where
  swap-sound : {xs ys : List Link} → Swap l m xs ys → sound_of m ≡ true → are_all_sound xs ≡ true → are_all_sound ys ≡ true
  swap-sound nowhere h s = s
  swap-sound (here xs) h s = rw h (sound-first l xs s).1
  swap-sound (there x {xs} {ys} w) h s =
      let p = sound-first x xs s in
      rw p.0 (swap-sound w h p.1)

  swap_holds : {xs ys : List Link} → Swap l m xs ys → (a : Address) → any_holds a ys ≡ true
      → (any_holds a xs ≡ true) ⊎ ((holds a m ≡ true) × (holds a l ≡ true → any_holds a xs ≡ true))
  swap_holds nowhere a h = absurd (false≢true h)
  swap_holds (here xs) a h =
      ⊎_elim (λ (t : holds a m ≡ true). inr (t, or-first (holds a l) (any_holds a xs)))
      (λ (t : any_holds a xs ≡ true). inl (or-second (holds a l) (any_holds a xs) t))
      (or_split (holds a m) (any_holds a xs) h)
  swap_holds (there x {xs} {ys} w) a h =
      ⊎_elim (λ (t : holds a x ≡ true). inl (or-first (holds a x) (any_holds a xs) t))
      (λ (t : any_holds a ys ≡ true).
      ⊎_elim (λ (u : any_holds a xs ≡ true). inl (or-second (holds a x) (any_holds a xs) u))
      (λ (u : (holds a m ≡ true) × (holds a l ≡ true → any_holds a xs ≡ true)).
      inr (u.0, λ k. or-second (holds a x) (any_holds a xs) (u.1 k)))
      (swap_holds w a t))
      (or_split (holds a x) (any_holds a ys) h)

  swap-different : {xs ys : List Link} → Swap l m xs ys
      → ((a : Address) → holds a m ≡ true → any_holds a xs ≡ true → holds a l ≡ true) → different xs ≡ true → different ys ≡ true
  swap-different nowhere alone d = d
  swap-different (here xs) alone d =
      different-of m xs
      (λ a h t. different-first l xs d a (alone a h (or-second (holds a l) (any_holds a xs) t)) t) (different-rest l xs d)
  swap-different (there x {xs} {ys} w) alone d =
      different-of x ys
      (λ a h t.
      ⊎_elim (λ (u : any_holds a xs ≡ true). different-first x xs d a h u)
      (λ (u : (holds a m ≡ true) × (holds a l ≡ true → any_holds a xs ≡ true)).
      different-first x xs d a h (u.1 (alone a u.0 (or-first (holds a x) (any_holds a xs) h))))
      (swap_holds w a t))
      (swap-different w (λ a h t. alone a h (or-second (holds a x) (any_holds a xs) t)) (different-rest x xs d))

-- nothing is done to any link by no event
pub nothing-keeps : (xs : List Link) → driven_of Event.Nothing xs ≡ xs
nothing-keeps = places-still (reacted Event.Nothing) (λ k x. refl) 1

-- what an event asks of the table; only making a head clears it
abbrev pub Fits : Event → List Link → Type 0
Fits Event.Nothing xs = Unit {0}
Fits Event.Clear xs = ⊥
Fits Event.Tick xs = Unit {0}
Fits (Event.Leap k) xs = k ≤ quiet_all xs
Fits (Event.At number c) xs = Allowed c (link_from number 1 xs) xs

links-keep : (e : Event) (xs : List Link) → Fits e xs → are_all_sound xs ≡ true → different xs ≡ true
    → (are_all_sound (driven_of e xs) ≡ true) × (different (driven_of e xs) ≡ true)
links-keep Event.Nothing xs f s d = rw (nothing-keeps xs) (s, d)
links-keep Event.Clear xs f s d = absurd f
links-keep Event.Tick xs f s d = (tick-sound 1 xs s, tick-different 1 xs s d)
links-keep (Event.Leap k) xs f s d =
    let t = all_sound xs k s f in
    rw (leap-driven k 1 xs) (tick-sound 1 (passed_all xs k) t, tick-different 1 (passed_all xs k) t (rw (all-different xs k) d))
links-keep (Event.At number c) xs f s d =
    let l = link_from number 1 xs in
    let u = change-suits c l (port_of number) xs f (found-sound number 1 xs s) in
    let w = swapped number 1 c xs in
    (swap-sound w u.sound s, swap-different w u.alone d)

-- the table keeps its length
pub driven-length : (e : Event) (xs : List Link) → length (driven_of e xs) ≡ length xs
driven-length e = length-places (reacted e) 1

-- an event that may be done on a sound table leaves it sound
pub driven-sound : (e : Event) (xs : List Link) → Fits e xs → sound_table xs ≡ true → sound_table (driven_of e xs) ≡ true
driven-sound e xs f h =
    let p = table-parts xs h in
    let q = links-keep e xs f p.1 p.2 in
    table_of (driven_of e xs) (rw (driven-length e xs) p.0) q.0 q.1
