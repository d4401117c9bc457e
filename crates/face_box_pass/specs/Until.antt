-- Lemmas: the quiet ticks that the code comes to are those of the box in the block.
-- Assumes nothing.
use Prim.Native.Nat.{ℕ, zero, suc, ◌+◌, ◌-◌, ◌^◌, ◌≤◌, ◌<◌, min}
use Rattle.std.specs.Prelude.{◌≡◌, Bool, not, ◌&&◌, ◌||◌, ◌⊎◌, List, [], ◌∷◌, map, leb, length, take, drop}
use Rattle.std.proofs.Math.Path.{refl, sym, ap}
use Rattle.std.proofs.Common.{◌∙◌, inl, inr, drop-drop, take-add}
use Rattle.std.proofs.Math.Bool.{true, false, cond, or-true, or-false, and-true, and-false, and-eq-true_iff}
use Rattle.std.proofs.lemmas.Bool.{false≢true}
use Rattle.std.proofs.Math.Logic.{⊎_elim}
use native.Mathlib.Omega.{arith}
use borrow.Author.Tests.{lt-ltb, le-ltb, le-leb, lt-leb, eq-eqb, ne_eqb, eqb-true}
use Rattle.std.proofs.Math.Dec.{eqb}
use Rattle.laws.specs.Cases.{cut}
use Rattle.face_box.specs.Box.{state_word, state_of, registration_of, phase_words, discovery_of as discovering, phase_of as phasing, light_of as told, front_words, front_of, is_clear, has_words, is_box, box_of, box_in}
use Rattle.face_box.specs.Listing.{list_of}
use Rattle.clock.specs.Timers.{off, runs, quiet_of as timer_quiet}
use Rattle.clock.specs.declared.Timer.{Timer}
use Rattle.clock.specs.Spans.{same}
use Rattle.face_fields.specs.Fields.{timer_of, quanta_of, span_of}
use Rattle.face_words.specs.Words.{upper, lower}
use Rattle.box_calls.specs.Box.{sound_of}
use Rattle.box_calls.specs.Pass.{quiet_of}
use Rattle.box_grants.specs.Activation.{holds}
use Rattle.box_grants.specs.Listed.{list_of as held_in}
use Rattle.box_grants.specs.Sound.{in_range, sound_of as list_sound}
use Rattle.box_grants.specs.declared.GrantList.{GrantList}
use Rattle.box_light.specs.Light.{light_in, is_at_rest}
use Rattle.box_light.specs.Pass.{quiet_of as light_quiet}
use Rattle.box_light.specs.Sound.{served, sound_of as light_sound}
use Rattle.box_light.specs.declared.Light.{Light}
use Rattle.box_light.specs.declared.Phase.TheVariants.{Rest}
use Rattle.box_processes.specs.Pass.{activates, quiet_of as processes_quiet}
use Rattle.box_processes.specs.Sound.{rests_in, sound_of as processes_sound}
use Rattle.frame_range.specs.Fits.{is_individual}
use Rattle.box_registration.specs.Pass.{quiet_of as registration_quiet}
use Rattle.box_registration.specs.Registration.{is_registered}
use Rattle.box_registration.specs.Sound.{sound_in, sound_of as registration_sound}
use Rattle.box_registration.specs.declared.Registration.{Registration}
use Rattle.box_registration.specs.declared.State.{State}
use Rattle.box_registration.specs.declared.State.TheVariants.{Wait, Registering, RegisterReq, Registered}
use Rattle.face_box_pass.specs.Block.{box_at}
use Rattle.face_box_pass.specs.Judged.{guard, none, inside, wide, fit, times_words, times-is, unlike, apart, light_same, light-is}
use Rattle.face_box_pass.specs.Laws.{whole}
use Rattle.face_box_pass.specs.Judging.{times_of, is_own, are_short, is_among, are_held, is_listed, shines_of, judged_of}

-- a state's word that is REGISTERED
registered-is : (s : ℕ) → is_registered (state_of s) ≡ eqb s 3
unfolding state_of
registered-is s =
    ⊎_elim (λ (h : s < 2).
    ⊎_elim (λ (k : s < 1).
    let e : s ≡ 0 = omega arith in
    rw e)
    (λ (k : 1 ≤ s).
    let e : s ≡ 1 = omega arith in
    rw e)
    (cut s 1))
    (λ (h : 2 ≤ s).
    ⊎_elim (λ (k : s < 3).
    let e : s ≡ 2 = omega arith in
    rw e)
    (λ (k : 3 ≤ s).
    ⊎_elim (λ (g : s < 4).
    let e : s ≡ 3 = omega arith in
    rw e)
    (λ (g : 4 ≤ s). rw (ne_eqb s 1 (omega arith), ne_eqb s 2 (omega arith), ne_eqb s 3 (omega arith)))
    (cut s 4))
    (cut s 3))
    (cut s 2)

own_is : (a c p y : ℕ)
    → is_own a c p y ≡ (is_individual (record { 0 = a }) && (wide c && (eqb (min p 65535) p && (wide y && leb (min y 4294967295) 65535))))
unfolding is_own
own_is a c p y =
    ⊎_elim (λ (h : c < 4294967296).
    ⊎_elim (λ (k : p < 65536).
    ⊎_elim (λ (g : y < 65536).
    let e : min y 4294967295 ≡ y = omega arith in
    rw (fit c 4294967295, fit p 65535, lt-ltb c 4294967296 h, le-leb c 4294967295 (omega arith), le-leb p 65535 (omega arith), e, eq-eqb y y refl, le-leb y 65535 (omega arith))
    (sym (and-true (is_individual (record { 0 = a })))))
    (λ (g : 65536 ≤ y).
    rw (lt-ltb c 4294967296 h, le-leb p 65535 (omega arith), lt-leb y 65535 (omega arith), lt-leb (min y 4294967295) 65535 (omega arith)) (simp and-false refl))
    (cut y 65536))
    (λ (k : 65536 ≤ p). rw (fit p 65535, lt-ltb c 4294967296 h, lt-leb p 65535 (omega arith)) (simp and-false refl))
    (cut p 65536))
    (λ (h : 4294967296 ≤ c). rw (fit c 4294967295, le-ltb c 4294967296 h, lt-leb c 4294967295 (omega arith)) (simp and-false refl))
    (cut c 4294967296)

-- lengths and places of grants, over their words
shorts : (n : ℕ) (l : List ℕ) → in_range (take n (map span_of l)) ≡ are_short (take n l)
shorts zero l = refl
shorts (suc n) [] = refl
shorts (suc n) (x ∷ l) = rw (shorts n l)

equal : (a b : ℕ) → (a ≡ b) ⊎ (a ≡ b → ⊥)
equal a b =
    ⊎_elim (λ (h : a < b). inr (omega arith))
    (λ (h : b ≤ a).
    ⊎_elim (λ (k : b < a). inr (omega arith)) (λ (k : a ≤ b). inl (omega arith)) (cut b a))
    (cut a b)

word_same : (g x : ℕ) → same (span_of g) (span_of x) ≡ eqb x g
word_same g x =
    ⊎_elim (λ (h : x < g). other (omega arith))
    (λ (h : g ≤ x).
    ⊎_elim (λ (k : g < x). other (omega arith))
    (λ (k : x ≤ g).
    let e : x ≡ g = omega arith in
    rw (e, eq-eqb (upper g) (upper g) refl, eq-eqb (lower g) (lower g) refl, eq-eqb g g refl))
    (cut g x))
    (cut x g)
  where
    other : (x ≡ g → ⊥) → same (span_of g) (span_of x) ≡ eqb x g
    other h =
        ⊎_elim (λ (k : upper g ≡ upper x). rw (ne_eqb x g h, ne_eqb (lower g) (lower x) (λ e. h (omega arith))) (and-false (eqb (upper g) (upper x))))
        (λ (k : upper g ≡ upper x → ⊥). rw (ne_eqb x g h, ne_eqb (upper g) (upper x) k))
        (equal (upper g) (upper x))

among : (g n : ℕ) (l : List ℕ) → holds (span_of g) (take n (map span_of l)) ≡ is_among g (take n l)
among g zero l = refl
among g (suc n) [] = refl
among g (suc n) (x ∷ l) = rw (word_same g x, among g n l)

-- what is behind the grants is short, since there is nothing
clear-short : (l : List ℕ) → is_clear l ≡ true → are_short l ≡ true
clear-short [] h = refl
clear-short (x ∷ l) h =
    let p = (and-eq-true_iff (eqb x 0) (is_clear l)).0 h in
    rw (eqb-true x 0 p.0, clear-short l p.1)

all_short : (n : ℕ) (l : List ℕ) → (is_clear (drop n l) && are_short l) ≡ (is_clear (drop n l) && are_short (take n l))
all_short zero l = by-clear (is_clear l) refl
  where
    by-clear : (t : Bool) → is_clear l ≡ t → (t && are_short l) ≡ (t && true)
    by-clear true e = clear-short l e
    by-clear false e = refl
all_short (suc n) [] = refl
all_short (suc n) (x ∷ l) = by_first (leb (lower x) 65535) (all_short n l)
  where
    by_first : (t : Bool) → (is_clear (drop n l) && are_short l) ≡ (is_clear (drop n l) && are_short (take n l))
        → (is_clear (drop n l) && (t && are_short l)) ≡ (is_clear (drop n l) && (t && are_short (take n l)))
    by_first true e = e
    by_first false e = refl

-- a grant that is waited for is one of the list
abbrev waited : ℕ → ℕ → GrantList → Bool
waited p g s = cond (eqb p 5) (holds (span_of g) (held_in s)) true

picked : (c s d : Bool) → cond (c && s) d false ≡ ((c && (s && true)) && d)
picked false s d = refl
picked true false d = refl
picked true true d = refl

-- the list, as it is judged where the transmitter isn't at rest
module _ (rest : List ℕ) (a0 a1 a2 a3 a4 a5 a6 a7 a8 a9 a10 a11 a12 : ℕ) where
  abbrev pub block : List ℕ
  block = a0 ∷ a1 ∷ a2 ∷ a3 ∷ a4 ∷ a5 ∷ a6 ∷ a7 ∷ a8 ∷ a9 ∷ a10 ∷ a11 ∷ a12 ∷ rest

  held-is : drop 13 (take (13 + a12) block) ≡ take a12 rest
  held-is = rw (take-add 13 a12 block)

  behind-is : drop (13 + a12) block ≡ drop a12 rest
  behind-is = sym (drop-drop a12 13 block)

  list-is : is_listed block a12 a2 a8 a10
      ≡ ((is_clear (drop a12 rest) && (list_sound (list_of a12 rest) && (is_registered (state_of a2) || eqb a12 0))) && waited a8 a10 (list_of a12 rest))
  unfolding is_listed are_held list_sound
  list-is =
      ⊎_elim (λ (h : a12 < 1).
      let z : a12 ≡ 0 = omega arith in
      rw (z, or-true (is_registered (state_of a2))) (alone (eqb a8 5) (is_clear rest)))
      (λ (h : 1 ≤ a12).
      ⊎_elim (λ (k : 16 < a12). rw (ne_eqb a12 0 (omega arith), lt-ltb 16 a12 k, lt-leb a12 16 k) (simp and-false refl))
      (λ (k : a12 ≤ 16).
      let n : min a12 16 ≡ a12 = omega arith in
      rw (ne_eqb a12 0 (omega arith), le-ltb 16 a12 k, le-leb a12 16 k, n, held-is, behind-is, all_short a12 rest, shorts a12 rest, among a10 a12 rest, registered-is a2, or-false (eqb a2 3))
      (found (eqb a2 3) (is_clear (drop a12 rest)) (are_short (take a12 rest)) (cond (eqb a8 5) (is_among a10 (take a12 rest)) true)))
      (cut 16 a12))
      (cut a12 1)
    where
      alone : (t c : Bool) → cond t false c ≡ ((c && true) && cond t false true)
      alone true c = sym (and-false (c && true))
      alone false c = sym (and-true (c && true) ∙ and-true c)

      found : (r c s d : Bool) → cond r (cond (c && s) d false) false ≡ ((c && (s && r)) && d)
      found true c s d = picked c s d
      found false c s d = simp and-false refl

-- the transmitter's soundness: what its words say, and the list
swapped : (r h s : Bool) → ((r && h) && s) ≡ ((r && s) && h)
swapped false h s = refl
swapped true false s = sym (and-false s)
swapped true true s = sym (and-true s)

module _ (l g y : ℕ) (s : GrantList) where
  abbrev Judges : ℕ → Type 0
  Judges p =
      (light_sound (told p l g y) s ≡ (apart (told p l g y) && waited p g s))
      × (light_same p l g y (told p l g y) ≡ true → is_at_rest (told p l g y) ≡ false)

  -- no phase's word
  strange : (p : ℕ) → 9 ≤ p → Judges p
  unfolding phasing discovering
  strange p h =
      rw (ne_eqb p 1 (omega arith), ne_eqb p 2 (omega arith), ne_eqb p 3 (omega arith), ne_eqb p 4 (omega arith), ne_eqb p 5 (omega arith), ne_eqb p 6 (omega arith), ne_eqb p 7 (omega arith), ne_eqb p 8 (omega arith), ne_eqb 0 p (omega arith))
      (sym (and-true (off (timer_of l))), λ e. absurd (false≢true e))

  phase : (p : ℕ) → (p ≡ 1) ⊎ (p ≡ 2) ⊎ (p ≡ 3) ⊎ (p ≡ 4) ⊎ (p ≡ 6) ⊎ (p ≡ 7) ⊎ (p ≡ 8) → Judges p
  unfolding phasing discovering
  phase p (inl e) = rw e (sym (and-true (apart (told 1 l g y))), λ _. refl)
  phase p (inr (inl e)) = rw e (sym (and-true (apart (told 2 l g y))), λ _. refl)
  phase p (inr (inr (inl e))) = rw e (sym (and-true (apart (told 3 l g y))), λ _. refl)
  phase p (inr (inr (inr (inl e)))) = rw e (sym (and-true (apart (told 4 l g y))), λ _. refl)
  phase p (inr (inr (inr (inr (inl e))))) = rw e (sym (and-true (apart (told 6 l g y))), λ _. refl)
  phase p (inr (inr (inr (inr (inr (inl e)))))) = rw e (sym (and-true (apart (told 7 l g y))), λ _. refl)
  phase p (inr (inr (inr (inr (inr (inr e)))))) = rw e (sym (and-true (apart (told 8 l g y))), λ _. refl)

  due : Judges 5
  unfolding phasing
  due = (swapped (runs (timer_of l) (2 ^ 31 - 1)) (holds (span_of g) (held_in s)) (served (span_of g).length (quanta_of y)), λ _. refl)

  judges : (p : ℕ) → 1 ≤ p → Judges p
  judges p h =
      ⊎_elim (λ (k1 : p < 5).
      ⊎_elim (λ (k2 : p < 3).
      ⊎_elim (λ (k3 : p < 2). phase p (inl (omega arith)))
      (λ (k4 : 2 ≤ p). phase p (inr (inl (omega arith))))
      (cut p 2))
      (λ (k5 : 3 ≤ p).
      ⊎_elim (λ (k6 : p < 4). phase p (inr (inr (inl (omega arith)))))
      (λ (k7 : 4 ≤ p). phase p (inr (inr (inr (inl (omega arith))))))
      (cut p 4))
      (cut p 3))
      (λ (k8 : 5 ≤ p).
      ⊎_elim (λ (k9 : p < 7).
      ⊎_elim (λ (k10 : p < 6).
      let e : p ≡ 5 = omega arith in
      rw e due)
      (λ (k11 : 6 ≤ p). phase p (inr (inr (inr (inr (inl (omega arith)))))))
      (cut p 6))
      (λ (k12 : 7 ≤ p).
      ⊎_elim (λ (k13 : p < 8). phase p (inr (inr (inr (inr (inr (inl (omega arith))))))))
      (λ (k14 : 8 ≤ p).
      ⊎_elim (λ (k15 : p < 9). phase p (inr (inr (inr (inr (inr (inr (omega arith))))))))
      (λ (k16 : 9 ≤ p). strange p k16)
      (cut p 9))
      (cut p 8))
      (cut p 7))
      (cut p 5)

-- the page's order of tests, and the code's
regrouped : (c1 c2 c3 c4 c5 c6 c7 c8 c9 c10 c11 cl ind si s7 ls fr sl ri : Bool)
    → (((true && (c1 && (c2 && (c3 && (c4 && (c5 && (c6 && (c7 && (c8 && (c9 && (c10 && (c11 && (true && true))))))))))))) && cl) && (ind && (((((si && s7) && ls) && fr) && sl) && ri)))
    ≡ (((ind && (c1 && (c6 && (c7 && s7)))) && ((c2 && (c3 && (c4 && c5))) && si)) && ((c8 && (c9 && (c10 && c11))) && (((cl && (ls && fr)) && sl) && ri)))
regrouped false c2 c3 c4 c5 c6 c7 c8 c9 c10 c11 cl ind si s7 ls fr sl ri = simp and-false refl
regrouped true false c3 c4 c5 c6 c7 c8 c9 c10 c11 cl ind si s7 ls fr sl ri = simp and-false refl
regrouped true true false c4 c5 c6 c7 c8 c9 c10 c11 cl ind si s7 ls fr sl ri = simp and-false refl
regrouped true true true false c5 c6 c7 c8 c9 c10 c11 cl ind si s7 ls fr sl ri = simp and-false refl
regrouped true true true true false c6 c7 c8 c9 c10 c11 cl ind si s7 ls fr sl ri = simp and-false refl
regrouped true true true true true false c7 c8 c9 c10 c11 cl ind si s7 ls fr sl ri = simp and-false refl
regrouped true true true true true true false c8 c9 c10 c11 cl ind si s7 ls fr sl ri = simp and-false refl
regrouped true true true true true true true false c9 c10 c11 cl ind si s7 ls fr sl ri = simp and-false refl
regrouped true true true true true true true true false c10 c11 cl ind si s7 ls fr sl ri = simp and-false refl
regrouped true true true true true true true true true false c11 cl ind si s7 ls fr sl ri = simp and-false refl
regrouped true true true true true true true true true true false cl ind si s7 ls fr sl ri = simp and-false refl
regrouped true true true true true true true true true true true false ind si s7 ls fr sl ri = simp and-false refl
regrouped true true true true true true true true true true true true false si s7 ls fr sl ri = simp and-false refl
regrouped true true true true true true true true true true true true true false s7 ls fr sl ri = simp and-false refl
regrouped true true true true true true true true true true true true true true false ls fr sl ri = simp and-false refl
regrouped true true true true true true true true true true true true true true true false fr sl ri = simp and-false refl
regrouped true true true true true true true true true true true true true true true true false sl ri = simp and-false refl
regrouped true true true true true true true true true true true true true true true true true false ri = simp and-false refl
regrouped true true true true true true true true true true true true true true true true true true false = simp and-false refl
regrouped true true true true true true true true true true true true true true true true true true true = refl

turned : (cl ap wt nz : Bool) → ((cl && (ap && wt)) && nz) ≡ ((nz && (cl && wt)) && ap)
turned true true true true = refl
turned true true true false = refl
turned true true false true = refl
turned true true false false = refl
turned true false true true = refl
turned true false true false = refl
turned true false false true = refl
turned true false false false = refl
turned false true true true = refl
turned false true true false = refl
turned false true false true = refl
turned false true false false = refl
turned false false true true = refl
turned false false true false = refl
turned false false false true = refl
turned false false false false = refl

settled : (o t sh ap cl wt nz ri : Bool) → (t ≡ true → sh ≡ true → ri ≡ nz)
    → ((o && t) && (sh && ((cl && (ap && wt)) && ri))) ≡ ((o && t) && ((nz && (cl && wt)) && (sh && ap)))
settled false t sh ap cl wt nz ri h = refl
settled true false sh ap cl wt nz ri h = refl
settled true true false ap cl wt nz ri h = simp and-false refl
settled true true true ap cl wt nz ri h = rw (h refl refl) (turned cl ap wt nz)

-- the code's ways
shining : (o tk z ls lk : Bool) (t rq lq : ℕ) → min t 65536 ≡ guard tk rq
    → min (cond o (min t (cond z 0 (cond ls (guard lk lq) 0))) 0) 65536 ≡ guard ((o && tk) && ((not z && ls) && lk)) (min rq lq)
shining false tk z ls lk t rq lq e = refl
shining true false z ls lk t rq lq e = omega arith
shining true true true ls lk t rq lq e = omega arith
shining true true false false lk t rq lq e = omega arith
shining true true false true false t rq lq e = omega arith
shining true true false true true t rq lq e = omega arith

resting : (o tk c : Bool) (t rq : ℕ) → min t 65536 ≡ guard tk rq
    → min (cond o (cond c t 0) 0) 65536 ≡ guard ((o && tk) && c) (min rq 65536)
resting false tk c t rq e = refl
resting true false false t rq e = refl
resting true false true t rq e = e
resting true true false t rq e = refl
resting true true true t rq e = omega arith

module _ (rest : List ℕ) (a0 a1 a2 a3 a4 a5 a6 a7 a8 a9 a10 a11 a12 : ℕ) where
  abbrev pub words : List ℕ
  words = block (take 16 rest) a0 a1 a2 a3 a4 a5 a6 a7 a8 a9 a10 a11 a12

  -- what the code comes to is what the box says
  abbrev Comes : Type 0
  Comes = min (judged_of words) 65536 ≡ quiet_of (box_in words)

  abbrev registration : Registration
  registration = registration_of a2 a3 a4 a5 a6 a7

  abbrev light : Light
  light = told a8 a9 a10 a11

  abbrev list : GrantList
  list = list_of a12 (take 16 rest)

  abbrev timely : Bool
  timely = times_words a2 a3 a4 a5 && sound_in (state_of a2) registration

  abbrev shown : Bool
  shown = light_same a8 a9 a10 a11 light

  abbrev listed : Bool
  listed = is_clear (drop a12 (take 16 rest)) && (list_sound list && (is_registered (state_of a2) || eqb a12 0))

  judged-is : (is_box words && sound_of (box_of words))
      ≡ ((is_own a0 a1 a6 a7 && timely) && (shown && ((listed && light_sound light list) && rests_in (state_of a2) light)))
  unfolding is_box has_words front_words front_of box_of sound_of processes_sound registration_sound
  judged-is =
      rw (eq-eqb a0 a0 refl, eq-eqb a12 a12 refl, own_is a0 a1 a6 a7)
      (regrouped (wide a1) (eqb (state_word (state_of a2)) a2) (wide a3) (wide a4) (wide a5) (eqb (min a6 65535) a6) (wide a7) (eqb (phase_words light.phase).phase a8) (wide a9) (eqb (phase_words light.phase).grant a10) (eqb (phase_words light.phase).sync a11) (is_clear (drop a12 (take 16 rest))) (is_individual (record { 0 = a0 })) (sound_in (state_of a2) registration) (leb (min a7 4294967295) 65535) (list_sound list) (is_registered (state_of a2) || eqb a12 0) (light_sound light list) (rests_in (state_of a2) light))

  pub spec_is : quiet_of (box_in words) ≡ guard (is_box words && sound_of (box_of words)) (processes_quiet (box_of words).processes)
  unfolding quiet_of box_in sound_of
  spec_is = split (is_box words) refl
    where
      split : (t : Bool) → is_box words ≡ t → quiet_of (box_in words) ≡ guard (is_box words && sound_of (box_of words)) (processes_quiet (box_of words).processes)
      split true e = rw e
      split false e = rw e

  -- a transmitter that isn't at rest
  module _ (on : 1 ≤ a8) where
    abbrev fits : Judges a9 a10 a11 list a8
    fits = judges a9 a10 a11 list a8 on

    rests : timely ≡ true → shown ≡ true → rests_in (state_of a2) light ≡ not (eqb a2 0)
    unfolding state_of
    rests t h =
        ⊎_elim (λ (k : a2 < 4).
        ⊎_elim (λ (g : a2 < 2).
        ⊎_elim (λ (f : a2 < 1).
        let e : a2 ≡ 0 = omega arith in
        rw (e, fits.1 h))
        (λ (f : 1 ≤ a2).
        let e : a2 ≡ 1 = omega arith in
        rw e)
        (cut a2 1))
        (λ (g : 2 ≤ a2).
        ⊎_elim (λ (f : a2 < 3).
        let e : a2 ≡ 2 = omega arith in
        rw e)
        (λ (f : 3 ≤ a2).
        let e : a2 ≡ 3 = omega arith in
        rw e)
        (cut a2 3))
        (cut a2 2))
        (λ (k : 4 ≤ a2).
        absurd (false≢true (rw (ne_eqb a2 1 (omega arith), ne_eqb a2 2 (omega arith), ne_eqb a2 3 (omega arith), ne_eqb 0 a2 (omega arith)) at t)))
        (cut a2 4)

    -- activation does not come
    calm : (is_box words && sound_of (box_of words)) ≡ true
        → min (registration_quiet registration) (light_quiet light) ≡ processes_quiet (box_of words).processes
    unfolding processes_quiet activates box_of front_of
    calm h =
        let own = is_own a0 a1 a6 a7 && timely in
        let more = (listed && light_sound light list) && rests_in (state_of a2) light in
        let all : (own && (shown && more)) ≡ true = sym judged-is ∙ h in
        let lit : shown ≡ true = ((and-eq-true_iff shown more).0 ((and-eq-true_iff own (shown && more)).0 all).1).0 in
        rw (fits.1 lit)

    shines-is : Comes
    unfolding judged_of shines_of
    shines-is =
        let own = is_own a0 a1 a6 a7 in
        let held = waited a8 a10 list in
        rw (ne_eqb a8 0 (omega arith), light-is a9 a10 a11 a8 on, list-is (take 16 rest) a0 a1 a2 a3 a4 a5 a6 a7 a8 a9 a10 a11 a12)
        (shining own timely (eqb a2 0) (listed && held) (shown && apart light) (times_of a2 a3 a4 a5) (registration_quiet registration) (light_quiet light) (times-is a3 a4 a5 a6 a7 a2)
        ∙ ap (λ (t : Bool). guard t (min (registration_quiet registration) (light_quiet light)))
        (sym (settled own timely shown (apart light) listed held (not (eqb a2 0)) (rests_in (state_of a2) light) rests)
        ∙ ap (λ (t : Bool). (own && timely) && (shown && ((listed && t) && rests_in (state_of a2) light))) (sym fits.0)
        ∙ sym judged-is)
        ∙ inside (is_box words && sound_of (box_of words)) (min (registration_quiet registration) (light_quiet light)) (processes_quiet (box_of words).processes) calm
        ∙ sym spec_is)

-- at rest
zero_test : (n : ℕ) → eqb 0 n ≡ eqb n 0
zero_test n =
    ⊎_elim (λ (h : n < 1).
    let z : n ≡ 0 = omega arith in
    rw z)
    (λ (h : 1 ≤ n). rw (ne_eqb 0 n (omega arith), ne_eqb n 0 (omega arith)))
    (cut n 1)

rest-rests : (s : State) (t : Timer) → rests_in s (light_in Rest t) ≡ true
rest-rests Wait t = refl
rest-rests Registering t = refl
rest-rests RegisterReq t = refl
rest-rests Registered t = refl

nothing : (o n : Bool) → min (cond o (cond n 0 0) 0) 65536 ≡ 0
nothing false n = refl
nothing true false = refl
nothing true true = refl

rested : (y z c : Bool) → (y && (z && (true && c))) ≡ ((y && z) && (((c && (true && true)) && true) && true))
rested true true true = refl
rested true true false = refl
rested true false true = refl
rested true false false = refl
rested false true true = refl
rested false true false = refl
rested false false true = refl
rested false false false = refl

module _ (rest : List ℕ) (a0 a1 a2 a3 a4 a5 a6 a7 a9 a10 a11 : ℕ) where
  abbrev own : Bool
  own = is_own a0 a1 a6 a7 && timely rest a0 a1 a2 a3 a4 a5 a6 a7 0 a9 a10 a11 0

  -- no grant is held
  clear-off : a9 ≡ 0 → Comes rest a0 a1 a2 a3 a4 a5 a6 a7 0 a9 a10 a11 0
  unfolding judged_of phasing discovering list_sound processes_quiet activates box_of front_of light_quiet timer_quiet off
  clear-off z =
      let r = registration_of a2 a3 a4 a5 a6 a7 in
      rw z
      (resting (is_own a0 a1 a6 a7) (timely rest a0 a1 a2 a3 a4 a5 a6 a7 0 0 a10 a11 0) (eqb a10 0 && (eqb a11 0 && (true && is_clear (take 16 rest)))) (times_of a2 a3 a4 a5) (registration_quiet r) (times-is a3 a4 a5 a6 a7 a2)
      ∙ sym (spec_is rest a0 a1 a2 a3 a4 a5 a6 a7 0 0 a10 a11 0
      ∙ rw (judged-is rest a0 a1 a2 a3 a4 a5 a6 a7 0 0 a10 a11 0, rest-rests (state_of a2), or-true (is_registered (state_of a2)), zero_test a10, zero_test a11, and-false (is_registered (state_of a2)))
      (ap (λ (t : Bool). guard (own && t) (min (registration_quiet r) 65536)) (sym (rested (eqb a10 0) (eqb a11 0) (is_clear (take 16 rest)))))))

  -- a timer runs at rest
  clear-on : 1 ≤ a9 → Comes rest a0 a1 a2 a3 a4 a5 a6 a7 0 a9 a10 a11 0
  unfolding judged_of phasing discovering
  clear-on h =
      rw (ne_eqb a9 0 (omega arith))
      (nothing (is_own a0 a1 a6 a7) false
      ∙ sym (spec_is rest a0 a1 a2 a3 a4 a5 a6 a7 0 a9 a10 a11 0
      ∙ rw (judged-is rest a0 a1 a2 a3 a4 a5 a6 a7 0 a9 a10 a11 0, unlike a9 h) (simp and-false refl)))

  clear-is : Comes rest a0 a1 a2 a3 a4 a5 a6 a7 0 a9 a10 a11 0
  clear-is = ⊎_elim (λ (h : a9 < 1). clear-off (omega arith)) clear-on (cut a9 1)

  -- a grant is held: one is to be chosen, or it is held where none may be
  held-off : (a12 : ℕ) → 1 ≤ a12 → Comes rest a0 a1 a2 a3 a4 a5 a6 a7 0 a9 a10 a11 a12
  unfolding judged_of processes_quiet activates box_of front_of phasing discovering
  held-off a12 h =
      rw (ne_eqb a12 0 (omega arith), and-false (eqb a11 0), and-false (eqb a10 0))
      (nothing (is_own a0 a1 a6 a7) (eqb a9 0)
      ∙ sym (spec_is rest a0 a1 a2 a3 a4 a5 a6 a7 0 a9 a10 a11 a12 ∙ split (is_registered (state_of a2)) refl))
    where
      split : (t : Bool) → is_registered (state_of a2) ≡ t
          → guard (is_box (words rest a0 a1 a2 a3 a4 a5 a6 a7 0 a9 a10 a11 a12) && sound_of (box_of (words rest a0 a1 a2 a3 a4 a5 a6 a7 0 a9 a10 a11 a12))) (processes_quiet (box_of (words rest a0 a1 a2 a3 a4 a5 a6 a7 0 a9 a10 a11 a12)).processes) ≡ 0
      split true e = rw (e, lt-ltb 0 a12 (omega arith)) (none (is_box (words rest a0 a1 a2 a3 a4 a5 a6 a7 0 a9 a10 a11 a12) && sound_of (box_of (words rest a0 a1 a2 a3 a4 a5 a6 a7 0 a9 a10 a11 a12))))
      split false e = rw (judged-is rest a0 a1 a2 a3 a4 a5 a6 a7 0 a9 a10 a11 a12, e, ne_eqb a12 0 (omega arith)) (simp and-false refl)

-- each way
known : (rest : List ℕ) (a0 a1 a2 a3 a4 a5 a6 a7 a8 a9 a10 a11 a12 : ℕ)
    → Comes rest a0 a1 a2 a3 a4 a5 a6 a7 a8 a9 a10 a11 a12
known rest a0 a1 a2 a3 a4 a5 a6 a7 a8 a9 a10 a11 a12 =
    ⊎_elim (λ (h : a8 < 1).
    let e : a8 ≡ 0 = omega arith in
    ⊎_elim (λ (k : a12 < 1).
    let f : a12 ≡ 0 = omega arith in
    rw (e, f) (clear-is rest a0 a1 a2 a3 a4 a5 a6 a7 a9 a10 a11))
    (λ (k : 1 ≤ a12). rw e (held-off rest a0 a1 a2 a3 a4 a5 a6 a7 a9 a10 a11 a12 k))
    (cut a12 1))
    (λ (h : 1 ≤ a8). shines-is rest a0 a1 a2 a3 a4 a5 a6 a7 a8 a9 a10 a11 a12 h)
    (cut a8 1)

-- a block that is long enough has thirteen words, and more
pub record Thirteen (b : List ℕ) : Type 0 where
  pub rest : List ℕ
  pub a0 : ℕ
  pub a1 : ℕ
  pub a2 : ℕ
  pub a3 : ℕ
  pub a4 : ℕ
  pub a5 : ℕ
  pub a6 : ℕ
  pub a7 : ℕ
  pub a8 : ℕ
  pub a9 : ℕ
  pub a10 : ℕ
  pub a11 : ℕ
  pub a12 : ℕ
  pub is : b ≡ block rest a0 a1 a2 a3 a4 a5 a6 a7 a8 a9 a10 a11 a12
  pub more : 16 ≤ length rest

pub thirteen : (b : List ℕ) → 29 ≤ length b → Thirteen b
thirteen [] h = absurd (omega arith)
thirteen (a0 ∷ []) h = absurd (omega arith)
thirteen (a0 ∷ a1 ∷ []) h = absurd (omega arith)
thirteen (a0 ∷ a1 ∷ a2 ∷ []) h = absurd (omega arith)
thirteen (a0 ∷ a1 ∷ a2 ∷ a3 ∷ []) h = absurd (omega arith)
thirteen (a0 ∷ a1 ∷ a2 ∷ a3 ∷ a4 ∷ []) h = absurd (omega arith)
thirteen (a0 ∷ a1 ∷ a2 ∷ a3 ∷ a4 ∷ a5 ∷ []) h = absurd (omega arith)
thirteen (a0 ∷ a1 ∷ a2 ∷ a3 ∷ a4 ∷ a5 ∷ a6 ∷ []) h = absurd (omega arith)
thirteen (a0 ∷ a1 ∷ a2 ∷ a3 ∷ a4 ∷ a5 ∷ a6 ∷ a7 ∷ []) h = absurd (omega arith)
thirteen (a0 ∷ a1 ∷ a2 ∷ a3 ∷ a4 ∷ a5 ∷ a6 ∷ a7 ∷ a8 ∷ []) h = absurd (omega arith)
thirteen (a0 ∷ a1 ∷ a2 ∷ a3 ∷ a4 ∷ a5 ∷ a6 ∷ a7 ∷ a8 ∷ a9 ∷ []) h = absurd (omega arith)
thirteen (a0 ∷ a1 ∷ a2 ∷ a3 ∷ a4 ∷ a5 ∷ a6 ∷ a7 ∷ a8 ∷ a9 ∷ a10 ∷ []) h = absurd (omega arith)
thirteen (a0 ∷ a1 ∷ a2 ∷ a3 ∷ a4 ∷ a5 ∷ a6 ∷ a7 ∷ a8 ∷ a9 ∷ a10 ∷ a11 ∷ []) h = absurd (omega arith)
thirteen (a0 ∷ a1 ∷ a2 ∷ a3 ∷ a4 ∷ a5 ∷ a6 ∷ a7 ∷ a8 ∷ a9 ∷ a10 ∷ a11 ∷ a12 ∷ rest) h =
    record { rest = rest; a0 = a0; a1 = a1; a2 = a2; a3 = a3; a4 = a4; a5 = a5; a6 = a6; a7 = a7; a8 = a8; a9 = a9; a10 = a10; a11 = a11; a12 = a12; is = refl; more = omega arith }

-- the theorem
pub until-is : (b : List ℕ) → 29 ≤ length b → min (judged_of (take 29 b)) 65536 ≡ quiet_of (box_at b)
unfolding box_at
until-is b h =
    let t = thirteen b h in
    rw (whole b h, t.is) (known t.rest t.a0 t.a1 t.a2 t.a3 t.a4 t.a5 t.a6 t.a7 t.a8 t.a9 t.a10 t.a11 t.a12)
