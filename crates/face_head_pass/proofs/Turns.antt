-- The loops over the words, turn by turn: where one ends early, and that marks hide no address.
-- Assumes nothing.
use Prim.Native.Nat.{ℕ, zero, suc, ◌+◌, ◌-◌, ◌≤◌, ◌<◌, min}
use mathlib.Core.Path.{◌≡◌, refl, sym, ap, ◌∙◌}
use mathlib.Core.Bool.{Bool, true, false, cond, not, ◌&&◌, ◌||◌, and-true, and-false}
use mathlib.Core.List.{List, []}
use mathlib.Core.Logic.{◌⊎◌, inl, inr, ⊎_elim}
use native.Mathlib.Omega.{arith, mod_fact}
use native.Mathlib.Nat.{add-zero}
use native.Mathlib.Numerals.{add-one}
use borrow.Author.Tests.{eq-eqb, ne_eqb, lt-ltb, eqb-true, eqb-false}
use lib.Dec.{eqb, ltb}
use lib.ListN.{length, take, drop, get_or, set, length-set, length-append, length-take, length-drop}
use lib.Seq.{get_or-set_same, get_or-set_other, set-get_or, get_or-drop}
use Rattle.std.specs.List.{list_any}
use Rattle.std.proofs.lemmas.List.Folds.{list_any_more}
use Rattle.laws.specs.Cases.{cut}
use Rattle.face_head.proofs.Laws.{stored_there}
use Rattle.face_head.specs.Table.{words_at}
use Rattle.face_head.specs.declared.LinkWords.{LinkWords}
use Rattle.face_head_pass.specs.Judge.{fits, near, link_words_at, address_at, nearest_to, place_of, holds_to, repeats_at, spotted, differ_to}
use Rattle.face_head_pass.specs.Passed.{less_of, passed_at}

near-zero : (w : LinkWords) → near w 0 ≡ 0
unfolding near
near-zero w = by_state (eqb w.state 2) (eqb w.state 1)
  where
    by_state : (s t : Bool) → cond s (min (min 0 w.watchdog) w.periodic) (cond t (min 0 w.wait) 0) ≡ 0
    by_state true t = omega arith
    by_state false true = omega arith
    by_state false false = refl

-- the last of them, or one before
last : (n i : ℕ) → i < suc n → (i < n) ⊎ (i ≡ n)
last n i l = ⊎_elim (λ (h : i < n). inl h) (λ (h : n ≤ i). inr (omega arith)) (cut i n)

module _ (ls : List (List ℕ)) where
  pub nearest-stop : (n i : ℕ) → i < n → fits (link_words_at i ls) ≡ false → nearest_to n ls ≡ 0
  unfolding nearest_to
  nearest-stop zero i l h = absurd (omega arith)
  nearest-stop (suc n) i l h =
      ⊎_elim
      (λ (k : i < n). by-fit (fits (link_words_at n ls)) (nearest-stop n i k h))
      (λ (k : i ≡ n). ap (λ (j : ℕ). cond (fits (link_words_at j ls)) (near (link_words_at j ls) (nearest_to j ls)) 0) (sym k) ∙ rw h)
      (last n i l)
    where
      by-fit : (t : Bool) → nearest_to n ls ≡ 0 → cond t (near (link_words_at n ls) (nearest_to n ls)) 0 ≡ 0
      by-fit true e = rw e (near-zero (link_words_at n ls))
      by-fit false e = refl

  pub differ-stop : (n i : ℕ) → i < n → repeats_at i ls ≡ true → differ_to n ls ≡ false
  unfolding differ_to
  differ-stop zero i l h = absurd (omega arith)
  differ-stop (suc n) i l h =
      ⊎_elim
      (λ (k : i < n). rw (differ-stop n i k h))
      (λ (k : i ≡ n). by_before (differ_to n ls) (repeats_at n ls) (ap (λ (j : ℕ). repeats_at j ls) (sym k) ∙ h))
      (last n i l)
    where
      by_before : (a b : Bool) → b ≡ true → (a && not b) ≡ false
      by_before true b e = rw e
      by_before false b e = refl

  -- one link alone repeats none
  pub differ-one : (n : ℕ) → n ≤ 1 → differ_to n ls ≡ true
  unfolding differ_to holds_to
  differ-one zero l = refl
  differ-one (suc zero) l = refl
  differ-one (suc (suc n)) l = absurd (omega (arith, l))

-- a search among the first n
pub holds-any : (ls : List (List ℕ)) (n a : ℕ) → n ≤ length ls → list_any (λ w. eqb (get_or w 0 0) a) (take n ls) ≡ holds_to n ls a
unfolding holds_to
holds-any ls zero a h = refl
holds-any ls (suc n) a h =
    let has : List ℕ → Bool = λ w. eqb (get_or w 0 0) a in
    ap (λ (k : ℕ). list_any has (take k ls)) (sym (add-one n))
    ∙ list_any_more has ls n [] h
    ∙ ap (λ (t : Bool). t || eqb (address_at n ls) a) (holds-any ls n a (omega (arith, h)))

-- each link before i has left its mark
abbrev pub Covered : List ℕ → List (List ℕ) → ℕ → Type 0
Covered ms ls i = (j : ℕ) → j < i → get_or ms (place_of (address_at j ls) (length ms)) 0 ≡ 1

unmet : (ms : List ℕ) (ls : List (List ℕ)) (i a : ℕ) → Covered ms ls i → get_or ms (place_of a (length ms)) 0 ≡ 0 → holds_to i ls a ≡ false
unfolding holds_to
unmet ms ls zero a c h = refl
unmet ms ls (suc i) a c h = rw (unmet ms ls i a (λ j l. c j (omega arith)) h) (by-test (eqb (address_at i ls) a) refl)
  where
    by-test : (t : Bool) → eqb (address_at i ls) a ≡ t → t ≡ false
    by-test true e =
        let one : get_or ms (place_of a (length ms)) 0 ≡ 1 = ap (λ (x : ℕ). get_or ms (place_of x (length ms)) 0) (sym (eqb-true (address_at i ls) a e)) ∙ c i (omega arith) in
        absurd (omega (arith, one, h))
    by-test false e = refl

-- the search behind the marks finds what a search among all before i would
pub spared : (ms : List ℕ) (ls : List (List ℕ)) (i : ℕ) → Covered ms ls i → spotted ms ls i ≡ repeats_at i ls
unfolding spotted
spared ms ls i c = by-test (eqb (get_or ms (place_of (address_at i ls) (length ms)) 0) 0) refl
  where
    by-test : (t : Bool) → eqb (get_or ms (place_of (address_at i ls) (length ms)) 0) 0 ≡ t → cond t false (repeats_at i ls) ≡ repeats_at i ls
    by-test true e = sym (rw (unmet ms ls i (address_at i ls) c (eqb-true _ 0 e)))
    by-test false e = refl

-- the three ways of a turn
module _ (ms : List ℕ) (ls : List (List ℕ)) (i : ℕ) where
  pub spotted-unmet : get_or ms (place_of (address_at i ls) (length ms)) 0 ≡ 0 → spotted ms ls i ≡ false
  unfolding spotted
  spotted-unmet e = rw (eq-eqb _ 0 e)

  pub spotted-idle : address_at i ls ≡ 0 → spotted ms ls i ≡ false
  unfolding spotted
  spotted-idle e = rw e (by-mark (eqb (get_or ms (place_of 0 (length ms)) 0) 0))
    where
      by-mark : (t : Bool) → cond t false (holds_to i ls 0 && ltb 0 0) ≡ false
      by-mark true = refl
      by-mark false = and-false (holds_to i ls 0)

  pub spotted-met : (get_or ms (place_of (address_at i ls) (length ms)) 0 ≡ 0 → ⊥) → (address_at i ls ≡ 0 → ⊥) → spotted ms ls i ≡ holds_to i ls (address_at i ls)
  unfolding spotted
  spotted-met e f = rw (ne_eqb _ 0 e, lt-ltb 0 (address_at i ls) (omega (arith, f))) (and-true (holds_to i ls (address_at i ls)))

pub place-lt : (a marks : ℕ) → 1 ≤ marks → place_of a marks < marks
unfolding place_of
place-lt a zero h = absurd (omega arith)
place-lt a (suc k) h = mod_fact _ k

-- one mark more
pub covered_more : (ms : List ℕ) (ls : List (List ℕ)) (i : ℕ) → place_of (address_at i ls) (length ms) < length ms → Covered ms ls i
    → Covered (set ms (place_of (address_at i ls) (length ms)) 1) ls (suc i)
covered_more ms ls i h c j l = rw length-set (by-test (eqb (place_of (address_at j ls) (length ms)) (place_of (address_at i ls) (length ms))) refl)
  where
    by-test : (t : Bool) → eqb (place_of (address_at j ls) (length ms)) (place_of (address_at i ls) (length ms)) ≡ t
        → get_or (set ms (place_of (address_at i ls) (length ms)) 1) (place_of (address_at j ls) (length ms)) 0 ≡ 1
    by-test true e = ap (λ (k : ℕ). get_or (set ms (place_of (address_at i ls) (length ms)) 1) k 0) (eqb-true _ _ e) ∙ get_or-set_same ms (place_of (address_at i ls) (length ms)) 1 0 h
    by-test false e =
        get_or-set_other ms (place_of (address_at i ls) (length ms)) (place_of (address_at j ls) (length ms)) 1 0 (eqb-false _ _ e)
        ∙ ⊎_elim (λ (k : j < i). c j k)
        (λ (k : j ≡ i). absurd (eqb-false _ _ e (ap (λ (n : ℕ). place_of (address_at n ls) (length ms)) k)))
        (last i j l)

-- the three timers stored one after the other
pub pass-there : (ws : List ℕ) (at k x y z : ℕ) → at + 5 ≤ length ws → x ≡ get_or ws (at + 2) 0 - k → y ≡ get_or (set ws (at + 2) x) (at + 3) 0 - k
    → z ≡ get_or (set (set ws (at + 2) x) (at + 3) y) (at + 4) 0 - k → set (set (set ws (at + 2) x) (at + 3) y) (at + 4) z ≡ passed_at at ws k
unfolding passed_at
pass-there ws at k x y z h a b c =
    let two : get_or (set ws (at + 2) x) (at + 3) 0 ≡ get_or ws (at + 3) 0 = get_or-set_other ws (at + 2) (at + 3) x 0 (λ e. omega (arith, e)) in
    let three : get_or (set (set ws (at + 2) x) (at + 3) y) (at + 4) 0 ≡ get_or ws (at + 4) 0 =
    get_or-set_other (set ws (at + 2) x) (at + 3) (at + 4) y 0 (λ e. omega (arith, e)) ∙ get_or-set_other ws (at + 2) (at + 4) x 0 (λ e. omega (arith, e)) in
    let d : y ≡ get_or ws (at + 3) 0 - k = b ∙ ap (λ (n : ℕ). n - k) two in
    let e : z ≡ get_or ws (at + 4) 0 - k = c ∙ ap (λ (n : ℕ). n - k) three in
    let u : LinkWords = words_at (drop at ws) in
    let stays : set (set (set (set (set ws at u.address) (at + 1) u.state) (at + 2) (u.wait - k)) (at + 3) (u.watchdog - k)) (at + 4) (u.periodic - k)
    ≡ set (set (set ws (at + 2) (get_or ws (at + 2) 0 - k)) (at + 3) (get_or ws (at + 3) 0 - k)) (at + 4) (get_or ws (at + 4) 0 - k) =
    rw (
      get_or-drop at ws 0 0,
      get_or-drop at ws 1 0,
      get_or-drop at ws 2 0,
      get_or-drop at ws 3 0,
      get_or-drop at ws 4 0,
      add-zero at,
      set-get_or ws at 0,
      set-get_or ws (at + 1) 0,
    ) in
    rw (a, d, e) (sym stays ∙ stored_there ws at (less_of u k) h)

pub length-passed : (ws : List ℕ) (at k : ℕ) → at + 5 ≤ length ws → length (passed_at at ws k) ≡ length ws
unfolding passed_at
length-passed ws at k h = simp (length-append, length-take, length-drop) (omega (arith, h))
