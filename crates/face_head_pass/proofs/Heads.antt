-- What the five words of a head say by themselves, and what stands there k ticks on.
-- Assumes nothing.
use Prim.Native.Nat.{ℕ, ◌+◌, ◌≤◌, ◌%◌, ◌^◌, min}
use mathlib.Core.Path.{◌≡◌, refl, sym, ap, ◌∙◌}
use mathlib.Core.Bool.{Bool, true, false, cond, ◌&&◌, and-eq-true_iff, false≢true}
use mathlib.Core.List.{List, [], ◌∷◌}
use native.Mathlib.Omega.{arith}
use borrow.Author.Tests.{eq-eqb, eqb-true, leb-true, le-leb, le-ltb}
use lib.Dec.{eqb, leb}
use lib.ListN.{length, take, get_or, set, replicate}
use Rattle.std.proofs.lemmas.List.{get_or-take}
use Rattle.clock.specs.Counts.{later_of}
use Rattle.clock.specs.Laws.{runs-in}
use Rattle.clock.specs.Numbers.{furthest}
use Rattle.clock.specs.Timers.{runs}
use Rattle.face_fields.specs.Fields.{count_of}
use Rattle.head_state.specs.Head.{sound_of, after_of}
use Rattle.head_state.specs.Window.{fits, longest_window}
use Rattle.head_state.specs.declared.Head.{Head}
use Rattle.head_state.specs.declared.Window.{Window}
use Rattle.head_state.specs.declared.Window.TheVariants.{Idle, Before, Inside}
use Rattle.face_head.specs.Head.{window_of, head_words, head_of, is_head, nobody, head_in}
use Rattle.frame_range.specs.Fits.{is_individual}
use Rattle.face_words.specs.Laws.{laid-over, laid-whole, same-is}
use Rattle.face_words.specs.Words.{laid}
use Rattle.face_head_pass.specs.Judge.{window_fits, head_fits}
use Rattle.face_head_pass.specs.Passed.{passed_head}
use Rattle.face_head_pass.specs.Quiet.{head_at}

abbrev most : ℕ
most = 4294967295

abbrev plain : ℕ → ℕ → Window → Head
plain a c w = record { address = record { 0 = a }; count = record { 0 = c }; window = w }

abbrev words : ℕ → ℕ → ℕ → ℕ → ℕ → List ℕ
words a c p l g = a ∷ c ∷ p ∷ l ∷ g ∷ []

-- the head in the words of each phase
module _ (a c : ℕ) (h : c ≤ most) where
  in-idle : head_in (words a c 0 0 0) ≡ plain a c Idle
  unfolding head_in is_head head_of head_words window_of
  in-idle =
      let x : min c most ≡ c = omega (arith, h) in
      rw (x, eq-eqb a a refl, eq-eqb c c refl)

  in-before : (l g : ℕ) → l ≤ most → g ≤ most → head_in (words a c 1 l g) ≡ plain a c (Before (record { left = l }) (record { 0 = g }))
  unfolding head_in is_head head_of head_words window_of
  in-before l g i j =
      let x : min c most ≡ c = omega (arith, h) in
      let y : min l most ≡ l = omega (arith, i) in
      let z : min g most ≡ g = omega (arith, j) in
      rw (x, y, z, eq-eqb a a refl, eq-eqb c c refl, eq-eqb l l refl, eq-eqb g g refl)

  in-inside : (l : ℕ) → l ≤ most → head_in (words a c 2 l 0) ≡ plain a c (Inside (record { left = l }))
  unfolding head_in is_head head_of head_words window_of
  in-inside l i =
      let x : min c most ≡ c = omega (arith, h) in
      let y : min l most ≡ l = omega (arith, i) in
      rw (x, y, eq-eqb a a refl, eq-eqb c c refl, eq-eqb l l refl)

abbrev fitting : ℕ → ℕ → ℕ → ℕ → ℕ → Bool
fitting a c p l g = is_individual (record { 0 = a }) && leb c most && window_fits p l g

fitting-parts : (a c p l g : ℕ) → fitting a c p l g ≡ true → (is_individual (record { 0 = a }) ≡ true) × (c ≤ most) × (window_fits p l g ≡ true)
fitting-parts a c p l g h =
    let q = (and-eq-true_iff (is_individual (record { 0 = a }) && leb c most) (window_fits p l g)).0 h in
    let r = (and-eq-true_iff (is_individual (record { 0 = a })) (leb c most)).0 q.0 in
    (r.0, leb-true c most r.1, q.1)

idle-fits : (p l g : ℕ) → p ≡ 0 → window_fits p l g ≡ true → (l ≡ 0) × (g ≡ 0)
unfolding window_fits
idle-fits p l g e h =
    let q = (and-eq-true_iff (eqb l 0) (eqb g 0)).0 (rw e at h) in
    (eqb-true l 0 q.0, eqb-true g 0 q.1)

-- words that fit are a sound head's
fits-sound : (a c p l g : ℕ) → fitting a c p l g ≡ true → sound_of (head_in (words a c p l g)) ≡ true
unfolding sound_of window_fits fits runs
fits-sound a c p l g h = by-phase (eqb p 0) refl (eqb p 1) refl (fitting-parts a c p l g h)
  where
    by-phase : (s : Bool) → eqb p 0 ≡ s → (t : Bool) → eqb p 1 ≡ t → (is_individual (record { 0 = a }) ≡ true) × (c ≤ most) × (window_fits p l g ≡ true)
        → sound_of (head_in (words a c p l g)) ≡ true
    by-phase true e t f k =
        let z : p ≡ 0 = eqb-true p 0 e in
        let q = idle-fits p l g z k.2 in
        rw (z, q.0, q.1, in-idle a c k.1) (rw k.0)
    by-phase false e true f k =
        let z : p ≡ 1 = eqb-true p 1 f in
        let w : (runs (record { left = l }) furthest && runs (record { left = g }) longest_window) ≡ true = rw z at k.2 in
        let q = (and-eq-true_iff (runs (record { left = l }) furthest) (runs (record { left = g }) longest_window)).0 w in
        let r = runs-in (record { left = l }) furthest q.0 in
        let s = runs-in (record { left = g }) longest_window q.1 in
        rw (z, in-before a c k.1 l g (omega (arith, r.1)) (omega (arith, s.1))) (rw (k.0, q.0, q.1))
    by-phase false e false f k =
        let w : (eqb p 2 && runs (record { left = l }) longest_window && eqb g 0) ≡ true = rw (e, f) at k.2 in
        let q = (and-eq-true_iff (eqb p 2 && runs (record { left = l }) longest_window) (eqb g 0)).0 w in
        let r = (and-eq-true_iff (eqb p 2) (runs (record { left = l }) longest_window)).0 q.0 in
        let s = runs-in (record { left = l }) longest_window r.1 in
        rw (eqb-true p 2 r.0, eqb-true g 0 q.1, in-inside a c k.1 l (omega (arith, s.1))) (rw (k.0, r.1))

-- and no others are
sound-fits : (a c p l g : ℕ) → sound_of (head_in (words a c p l g)) ≡ true → fitting a c p l g ≡ true
unfolding head_in is_head head_of head_words window_of sound_of window_fits fits runs
sound-fits a c p l g h = by-head (is_head (words a c p l g)) refl h
  where
    at : is_head (words a c p l g) ≡ true → (i : ℕ) → get_or (head_words (head_of (words a c p l g))) i 0 ≡ get_or (words a c p l g) i 0
    at e i = ap (λ (us : List ℕ). get_or us i 0) (same-is (head_words (head_of (words a c p l g))) (words a c p l g) e)

    -- the window by the word of its phase
    by-phase : is_head (words a c p l g) ≡ true → (s : Bool) → eqb p 1 ≡ s → (t : Bool) → eqb p 2 ≡ t → sound_of (head_of (words a c p l g)) ≡ true → fitting a c p l g ≡ true
    by-phase e true s t f k =
        let z : p ≡ 1 = eqb-true p 1 s in
        let x : min l most ≡ l = rw z at (at e 3) in
        let y : min g most ≡ g = rw z at (at e 4) in
        let d : c ≤ most = omega (arith, at e 1) in
        let w = (and-eq-true_iff (is_individual (record { 0 = a })) _).0 (rw (z, x, y) at k) in
        rw (z, w.0, w.1, le-leb c most d)
    by-phase e false s true f k =
        let z : p ≡ 2 = eqb-true p 2 f in
        let x : min l most ≡ l = rw z at (at e 3) in
        let y : 0 ≡ g = rw z at (at e 4) in
        let d : c ≤ most = omega (arith, at e 1) in
        let w = (and-eq-true_iff (is_individual (record { 0 = a })) _).0 (rw (z, x) at k) in
        rw (z, w.0, w.1, le-leb c most d, eq-eqb g 0 (sym y))
    by-phase e false s false f k =
        let z : 0 ≡ p = rw (s, f) at (at e 2) in
        let x : 0 ≡ l = rw (s, f) at (at e 3) in
        let y : 0 ≡ g = rw (s, f) at (at e 4) in
        let d : c ≤ most = omega (arith, at e 1) in
        let w = (and-eq-true_iff (is_individual (record { 0 = a })) _).0 (rw (s, f) at k) in
        rw (w.0, le-leb c most d, eq-eqb p 0 (sym z), eq-eqb l 0 (sym x), eq-eqb g 0 (sym y))

    by-head : (t : Bool) → is_head (words a c p l g) ≡ t → sound_of (cond t (head_of (words a c p l g)) nobody) ≡ true → fitting a c p l g ≡ true
    by-head true e k = by-phase e (eqb p 1) refl (eqb p 2) refl k
    by-head false e k = absurd (false≢true k)

either_way : (s t : Bool) → (s ≡ true → t ≡ true) → (t ≡ true → s ≡ true) → s ≡ t
either_way true t f g = sym (f refl)
either_way false true f g = g refl
either_way false false f g = refl

-- the head in a block
at_words : (ws : List ℕ) → 5 ≤ length ws → head_at ws ≡ head_in (take 5 ws)
unfolding head_at
at_words ws h = rw (laid-whole ws (replicate 5 0) h)

pub head-is : (ws : List ℕ) → 5 ≤ length ws → head_fits ws ≡ sound_of (head_at ws)
unfolding head_fits
head-is [] h = absurd (omega (arith, h))
head-is (a ∷ []) h = absurd (omega (arith, h))
head-is (a ∷ c ∷ []) h = absurd (omega (arith, h))
head-is (a ∷ c ∷ p ∷ []) h = absurd (omega (arith, h))
head-is (a ∷ c ∷ p ∷ l ∷ []) h = absurd (omega (arith, h))
head-is (a ∷ c ∷ p ∷ l ∷ g ∷ ws) h =
    rw (at_words (a ∷ c ∷ p ∷ l ∷ g ∷ ws) h) (either_way (fitting a c p l g) (sound_of (head_in (words a c p l g))) (fits-sound a c p l g) (sound-fits a c p l g))

-- its five words alone say whether it fits
pub fits-front : (ws : List ℕ) → head_fits (take 5 ws) ≡ head_fits ws
unfolding head_fits
fits-front ws = rw (get_or-take 5 ws 0 0 (omega arith), get_or-take 5 ws 1 0 (omega arith), get_or-take 5 ws 2 0 (omega arith), get_or-take 5 ws 3 0 (omega arith), get_or-take 5 ws 4 0 (omega arith))

-- of a sound head only the count moves where the window is idle
pub passed-head : (ws : List ℕ) (k : ℕ) → 5 ≤ length ws → sound_of (head_at ws) ≡ true → passed_head ws k ≡ laid (head_words (after_of (head_at ws) k)) ws
unfolding passed_head head_fits head_words later_of
passed-head [] k h s = absurd (omega (arith, h))
passed-head (a ∷ []) k h s = absurd (omega (arith, h))
passed-head (a ∷ c ∷ []) k h s = absurd (omega (arith, h))
passed-head (a ∷ c ∷ p ∷ []) k h s = absurd (omega (arith, h))
passed-head (a ∷ c ∷ p ∷ l ∷ []) k h s = absurd (omega (arith, h))
passed-head (a ∷ c ∷ p ∷ l ∷ g ∷ ws) k h s =
    rw (le-ltb (length (a ∷ c ∷ p ∷ l ∷ g ∷ ws)) 5 h)
    (by-phase (eqb p 0) refl (fitting-parts a c p l g (head-is (a ∷ c ∷ p ∷ l ∷ g ∷ ws) h ∙ s)))
  where
    by-phase : (t : Bool) → eqb p 0 ≡ t → (is_individual (record { 0 = a }) ≡ true) × (c ≤ most) × (window_fits p l g ≡ true)
        → cond t (set (a ∷ c ∷ p ∷ l ∷ g ∷ ws) 1 (later_of (count_of c) k).0) (laid (head_words (after_of (head_at (a ∷ c ∷ p ∷ l ∷ g ∷ ws)) k)) (a ∷ c ∷ p ∷ l ∷ g ∷ ws))
        ≡ laid (head_words (after_of (head_at (a ∷ c ∷ p ∷ l ∷ g ∷ ws)) k)) (a ∷ c ∷ p ∷ l ∷ g ∷ ws)
    by-phase true e q =
        let z : p ≡ 0 = eqb-true p 0 e in
        let i = idle-fits p l g z q.2 in
        let x : min c most ≡ c = omega (arith, q.1) in
        let w : head_at (a ∷ c ∷ p ∷ l ∷ g ∷ ws) ≡ plain a c Idle = at_words (a ∷ c ∷ p ∷ l ∷ g ∷ ws) h ∙ rw (z, i.0, i.1, in-idle a c q.1) in
        rw (w, x) (rw (laid-over (words a ((c + k) % 2 ^ 32) 0 0 0) (a ∷ c ∷ p ∷ l ∷ g ∷ ws) h) (rw (z, i.0, i.1)))
    by-phase false e q = refl
