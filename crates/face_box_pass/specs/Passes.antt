-- Lemmas: quiet ticks made in place are those of the box in the block.
-- Assumes nothing.
use Rattle.std.specs.Prelude.{ℕ, ◌+◌, ◌-◌, ◌%◌, ◌≤◌, ◌≡◌, Bool, ◌&&◌, ltb, drop}
use Rattle.std.proofs.Math.Path.{refl, ap}
use Rattle.std.proofs.Common.{◌∙◌, arith, ltb-false, le-ltb, length-take}
use Rattle.std.proofs.Math.Bool.{true, false, cond, and-eq-true_iff}
use mathlib.Core.List.{List, [], ◌∷◌}
use Rattle.std.proofs.Math.ListN.{length, take, get_or, replicate, take-append-drop}
use Rattle.face_box.specs.Box.{front_words, front_of, is_clear, has_words, is_box, box_of, box_in, box_words}
use Rattle.face_box.specs.Listing.{list_of}
use Rattle.face_box.specs.Laws.{clear-is, words-again}
use Rattle.clock.specs.Counts.{later_of}
use Rattle.clock.specs.Timers.{passed_of as timer_passed}
use Rattle.box_calls.specs.Box.{sound_of}
use Rattle.box_calls.specs.Leap.{passed_of}
use Rattle.box_calls.specs.Pass.{quiet_of}
use Rattle.box_grants.specs.Listed.{packed}
use Rattle.box_light.specs.Pass.{passed_of as light_passed}
use Rattle.box_processes.specs.Pass.{activates, quiet_of as processes_quiet, passed_of as processes_passed}
use Rattle.box_processes.specs.declared.Processes.{Processes}
use Rattle.box_registration.specs.Pass.{passed_of as registration_passed}
use Rattle.face_words.specs.Laws.{laid-over, same-is}
use Rattle.face_words.specs.Words.{laid, same}
use Rattle.face_box_pass.specs.Block.{box_at}
use Rattle.face_box_pass.specs.Laws.{whole}
use Rattle.face_box_pass.specs.Passing.{moved_of, passed_words_of}
use Rattle.face_box_pass.specs.Until.{block, words, spec_is, thirteen}

-- a quiet tick's box: activation finds no grant
emptied : (p : Processes) → 1 ≤ processes_quiet p → activates p ≡ true → p.list.number ≡ 0
unfolding processes_quiet
emptied p h a = split (ltb 0 p.list.number) refl
  where
    split : (t : Bool) → ltb 0 p.list.number ≡ t → p.list.number ≡ 0
    split true e = absurd (omega (arith, rw (a, e) at h))
    split false e = omega (arith, ltb-false 0 p.list.number e)

module _ (rest : List ℕ) (a0 a1 a2 a3 a4 a5 a6 a7 a8 a9 a10 a11 a12 : ℕ) (more : 16 ≤ length rest) where
  abbrev at : List ℕ
  at = words rest a0 a1 a2 a3 a4 a5 a6 a7 a8 a9 a10 a11 a12

  -- the count moves, and the timers
  abbrev later : ℕ → List ℕ
  later k = a0 ∷ ((a1 + k) % 4294967296) ∷ a2 ∷ (a3 - k) ∷ (a4 - k) ∷ (a5 - k) ∷ a6 ∷ a7 ∷ a8 ∷ (a9 - k) ∷ a10 ∷ a11 ∷ a12 ∷ take 16 rest

  sixteen : length (take 16 rest) ≡ 16
  sixteen = simp length-take (omega (arith, more))

  module _ (q : 1 ≤ quiet_of (box_in at)) where
    -- the words are a box's, and the box is quiet
    sure : (is_box at ≡ true) × (1 ≤ processes_quiet (box_of at).processes)
    sure = split (is_box at && sound_of (box_of at)) refl
      where
        split : (t : Bool) → (is_box at && sound_of (box_of at)) ≡ t → (is_box at ≡ true) × (1 ≤ processes_quiet (box_of at).processes)
        split true e =
            let p = rw (spec_is rest a0 a1 a2 a3 a4 a5 a6 a7 a8 a9 a10 a11 a12, e) at q in
            (((and-eq-true_iff (is_box at) (sound_of (box_of at))).0 e).0, p)
        split false e =
            let p = rw (spec_is rest a0 a1 a2 a3 a4 a5 a6 a7 a8 a9 a10 a11 a12, e) at q in
            absurd (omega (arith, p))

    is_front : front_words (front_of at) ≡ take 13 at
    unfolding is_box has_words
    is_front = same-is (front_words (front_of at)) (take 13 at) ((and-eq-true_iff (same (front_words (front_of at)) (take 13 at)) (is_clear (drop (front_of at).number (drop 13 at)))).0 sure.0).0

    is-clear : is_clear (drop a12 (take 16 rest)) ≡ true
    unfolding is_box has_words front_of
    is-clear = ((and-eq-true_iff (same (front_words (front_of at)) (take 13 at)) (is_clear (drop a12 (take 16 rest)))).0 sure.0).1

    -- where activation comes, nothing stands in the list's places
    kept : cond (activates (box_of at).processes) (packed []) (list_of a12 (take 16 rest)) ≡ list_of a12 (take 16 rest)
    unfolding box_of front_of
    kept = split (activates (box_of at).processes) refl
      where
        split : (t : Bool) → activates (box_of at).processes ≡ t → cond (activates (box_of at).processes) (packed []) (list_of a12 (take 16 rest)) ≡ list_of a12 (take 16 rest)
        split true e =
            let z : a12 ≡ 0 = emptied (box_of at).processes sure.1 e in
            let c : take 16 rest ≡ replicate (length (take 16 rest)) 0 = clear-is (take 16 rest) (rw z at is-clear) in
            let d : take 16 rest ≡ replicate 16 0 = c ∙ ap (λ (n : ℕ). replicate n 0) sixteen in
            rw (e, z, d)
        split false e = rw e

    passed_words : (k : ℕ)
        → box_words (passed_of (box_in at) k)
        ≡ later k
    unfolding box_words front_words box_in box_of front_of processes_passed registration_passed light_passed timer_passed later_of
    passed_words k =
        let nth : (i : ℕ) → get_or (front_words (front_of at)) i 0 ≡ get_or (take 13 at) i 0 = λ i. ap (λ (l : List ℕ). get_or l i 0) is_front in
        rw (sure.0, kept, nth 1, nth 2, nth 3, nth 4, nth 5, nth 6, nth 7, nth 8, nth 9, nth 10, nth 11, words-again (take 16 rest))

  -- so many quiet ticks in place
  moved : (k : ℕ) → 1 ≤ quiet_of (box_in at)
      → moved_of (block rest a0 a1 a2 a3 a4 a5 a6 a7 a8 a9 a10 a11 a12) k
      ≡ laid (box_words (passed_of (box_in at) k)) (block rest a0 a1 a2 a3 a4 a5 a6 a7 a8 a9 a10 a11 a12)
  unfolding moved_of
  moved k q =
      let b = block rest a0 a1 a2 a3 a4 a5 a6 a7 a8 a9 a10 a11 a12 in
      let w = later k in
      let n : length w ≡ 29 = omega (arith, sixteen) in
      rw (passed_words q k, laid-over w b (omega (arith, n, more)), n, take-append-drop 16 rest)

-- the theorem
pub passes : (b : List ℕ) (k : ℕ) → 29 ≤ length b → 1 ≤ quiet_of (box_at b) → passed_words_of b k ≡ laid (box_words (passed_of (box_at b) k)) b
unfolding passed_words_of box_at
passes b k h q =
    let t = thirteen b h in
    rw (le-ltb (length b) 29 h, whole b h, t.is)
    (moved t.rest t.a0 t.a1 t.a2 t.a3 t.a4 t.a5 t.a6 t.a7 t.a8 t.a9 t.a10 t.a11 t.a12 t.more k (rw (whole b h, t.is) at q))
