-- Lemmas: what the code's steps on the array make of the list in it.
-- Assumes nothing.
use Prim.Native.Nat.{ℕ, suc, ◌+◌, ◌-◌, ◌≤◌, ◌<◌, min}
use Rattle.std.specs.Prelude.{None, Some, ◌≡◌, Bool, true, false, cond, ◌&&◌, ◌||◌, ltb, leb, set, replicate, get_or}
use Rattle.std.proofs.Math.Path.{refl}
use Rattle.std.proofs.Common.{sym, ap, ◌∙◌, ⊎_elim, length-append}
use Rattle.std.proofs.Math.Bool.{or-true, or_assoc, or-false, and_assoc, and-true}
use Rattle.std.proofs.lemmas.Bool.{false≢true}
use Rattle.std.proofs.lemmas.Bool.Decides.{nat_tests}
use mathlib.Core.List.{List, [], ◌∷◌, ◌++◌, foldl, append_assoc, append-nil}
use native.Mathlib.Omega.{arith}
use borrow.Author.Tests.{lt-ltb, le-ltb, le-leb, lt-leb, eq-eqb}
use Rattle.std.proofs.Math.ListN.{length}
use Rattle.std.specs.List.{fold, list_any, list_all}
use Rattle.std.proofs.Math.Seq.{take-append_seam, set-append_seam}
use Rattle.laws.specs.Cases.{either, cut}
use Rattle.clock.specs.Counts.{is_past, nearer}
use Rattle.clock.specs.Spans.{none, same, nearer_of}
use Rattle.clock.specs.declared.Count.{Count}
use Rattle.clock.specs.declared.Span.{Span}
use Rattle.box_grants.specs.Activation.{holds, ahead, nearest, remove, settle}
use Rattle.box_grants.specs.Listed.{list_of, packed, pushed, choice_of}
use Rattle.box_grants.specs.Sifting.{kept, sifted}
use Rattle.box_grants.specs.Walk.{leaves, sift, Walked, walked}
use Rattle.box_grants.specs.Sound.{in_range}
use Rattle.box_grants.specs.declared.GrantList.{GrantList}
use Rattle.box_grants.specs.declared.Leaving.{Leaving}
use Rattle.box_grants.specs.declared.Leaving.TheVariants.{Past, Equal}

-- the list in a packed array is the list
pub packed-list : (l : List Span) → length l ≤ 16 → list_of (packed l) ≡ l
packed-list l h =
    let n : min (length l) 16 ≡ length l = omega arith in
    rw n (take-append_seam l (replicate (16 - length l) none))

pub push-packed : (l : List Span) (e : Span) → length l < 16 → pushed (packed l) e ≡ packed (l ++ (e ∷ []))
unfolding pushed
push-packed l e h =
    let more : 16 - length l ≡ suc (16 - suc (length l)) = omega arith in
    let long : length (l ++ (e ∷ [])) ≡ length l + 1 = length-append l (e ∷ []) in
    let left : 16 - (length l + 1) ≡ 16 - suc (length l) = omega arith in
    let rest = replicate (16 - suc (length l)) none in
    rw (lt-ltb (length l) 16 h, long, left, more, set-append_seam l none rest e, append_assoc l (e ∷ []) rest)

-- the walks
pub ahead-shorter : (now : ℕ) (l : List Span) → length (ahead now l) ≤ length l
ahead-shorter now [] = omega arith
ahead-shorter now (e ∷ l) =
    let h = ahead-shorter now l in
    either (λ (r : List Span). length r ≤ suc (length l)) (is_past now e.start.0) _ _ (λ _. omega arith) (λ _. omega arith)

pub keep-walk : (now : ℕ) (k l : List Span) → length k + length l ≤ 16 → foldl (kept now) (packed k) l ≡ packed (k ++ ahead now l)
unfolding kept
keep-walk now k [] h = ap packed (sym (append-nil k))
keep-walk now k (e ∷ l) h =
    either (λ (r : List Span). foldl (kept now) (cond (is_past now e.start.0) (packed k) (pushed (packed k) e)) l ≡ packed (k ++ r)) (is_past now e.start.0) _ _
    (λ t. rw t (keep-walk now k l (omega arith)))
    (λ t.
    let long : length (k ++ (e ∷ [])) ≡ length k + 1 = length-append k (e ∷ []) in
    rw (t, push-packed k e (omega arith))
    (keep-walk now (k ++ (e ∷ [])) l (omega arith) ∙ ap packed (append_assoc k (e ∷ []) (ahead now l))))

pub sift-walk : (out : Span) (k l : List Span) → length k + length l ≤ 16
    → ((foldl (sifted out) (record { list = packed k; met = true }) l).list ≡ packed (k ++ l))
    × ((foldl (sifted out) (record { list = packed k; met = false }) l).list ≡ packed (k ++ remove out l))
unfolding sifted
sift-walk out k [] h = (ap packed (sym (append-nil k)), ap packed (sym (append-nil k)))
sift-walk out k (e ∷ l) h =
    let long : length (k ++ (e ∷ [])) ≡ length k + 1 = length-append k (e ∷ []) in
    let more = sift-walk out (k ++ (e ∷ [])) l (omega arith) in
    let on : packed (k ++ (e ∷ []) ++ l) ≡ packed (k ++ (e ∷ l)) = ap packed (append_assoc k (e ∷ []) l) in
    let push = push-packed k e (omega arith) in (
      ap (λ (s : GrantList). (foldl (sifted out) (record { list = s; met = true }) l).list) push ∙ more.0 ∙ on,
      either (λ (r : List Span). (foldl (sifted out) (cond (same out e) (record { list = packed k; met = true }) (record { list = pushed (packed k) e; met = false })) l).list ≡ packed (k ++ r)) (same out e) _ _
          (λ t. rw t (sift-walk out k l (omega arith)).0)
          (λ t.
          rw t
          (ap (λ (s : GrantList). (foldl (sifted out) (record { list = s; met = false }) l).list) push
          ∙ more.1 ∙ ap packed (append_assoc k (e ∷ []) (remove out l)))),
    )

pub walked-list : (w : Leaving) (k l : List Span) (gone : Bool) → length k + length l ≤ 16
    → (foldl (walked w) (record { list = packed k; gone = gone }) l).list ≡ packed (k ++ sift w gone l)
unfolding walked
walked-list w k [] gone h = ap packed (sym (append-nil k))
walked-list w k (e ∷ l) gone h =
    either (λ (r : List Span). (foldl (walked w) (walked w (record { list = packed k; gone = gone }) e) l).list ≡ packed (k ++ r)) (leaves w gone e) _ _
    (λ t. rw t (walked-list w k l true (omega arith)))
    (λ t.
    let long : length (k ++ (e ∷ [])) ≡ length k + 1 = length-append k (e ∷ []) in
    rw (t, push-packed k e (omega arith))
    (walked-list w (k ++ (e ∷ [])) l gone (omega arith) ∙ ap packed (append_assoc k (e ∷ []) (sift w gone l))))

-- a turn of it: an entry that stays is stored at the number
one_more : (a b : ℕ) → ltb (a + 1) (b + 1) ≡ ltb a b
one_more a b =
    ⊎_elim
    (λ (h : a < b). rw (lt-ltb a b h, lt-ltb (a + 1) (b + 1) (omega arith)))
    (λ (h : b ≤ a). rw (le-ltb a b h, le-ltb (a + 1) (b + 1) (omega arith)))
    (cut a b)

module _ (w : Leaving) (l : List Span) (k i : ℕ) (e : Span) where
  abbrev read : Walked
  read = record { list = record { entries = l; number = k }; gone = ltb k i }

  pub sift-stays : k < 16 → leaves w (ltb k i) e ≡ false
      → record { list = record { entries = set l k e; number = k + 1 }; gone = ltb (k + 1) (i + 1) } ≡ walked w read e
  unfolding walked pushed
  sift-stays r t = rw (one_more k i, t, lt-ltb k 16 r)

  pub sift-leaves : k ≤ i → leaves w (ltb k i) e ≡ true → record { list = record { entries = l; number = k }; gone = ltb k (i + 1) } ≡ walked w read e
  unfolding walked
  sift-leaves h t = rw (t, lt-ltb k (i + 1) (omega arith))

-- what stays is what the rules leave in the list
pub sift-past : (now : Count) (gone : Bool) (l : List Span) → sift (Past now) gone l ≡ ahead now.0 l
sift-past now gone [] = refl
sift-past now gone (e ∷ l) = rw (sift-past now true l, sift-past now gone l)

sift-all : (x : Span) (l : List Span) → sift (Equal x) true l ≡ l
sift-all x [] = refl
sift-all x (e ∷ l) = rw (sift-all x l)

pub sift-equal : (x : Span) (l : List Span) → sift (Equal x) false l ≡ remove x l
sift-equal x [] = refl
sift-equal x (e ∷ l) = rw (sift-all x l, sift-equal x l)

pub nearest-fold : (now : ℕ) (e : Span) (l : List Span) → fold (nearer_of now) e l ≡ nearest now e l
nearest-fold now e [] = refl
nearest-fold now e (x ∷ l) = nearest-fold now (nearer_of now e x) l

same-swap : (a b : Span) → same a b ≡ same b a
same-swap a b = grind (arith, nat_tests)

pub holds-any : (e : Span) (l : List Span) → list_any (λ (x : Span). same x e) l ≡ holds e l
holds-any e [] = refl
holds-any e (x ∷ l) = rw (same-swap x e, holds-any e l)

pub range-all : (l : List Span) → list_all (λ (e : Span). leb e.length.0 65535) l ≡ in_range l
range-all [] = refl
range-all (e ∷ l) = rw (range-all l)

-- the same of a walk that keeps what it has found so far
pub nearest-walk : (now : ℕ) (e : Span) (l : List Span) → foldl (nearer_of now) e l ≡ nearest now e l
nearest-walk now e [] = refl
nearest-walk now e (x ∷ l) = nearest-walk now (nearer_of now e x) l

pub holds-walk : (e : Span) (t : Bool) (l : List Span) → foldl (λ (met : Bool) (x : Span). met || same e x) t l ≡ (t || holds e l)
holds-walk e t [] = sym (or-false t)
holds-walk e t (x ∷ l) = holds-walk e (t || same e x) l ∙ or_assoc t (same e x) (holds e l)

abbrev pub fitted : Bool → Span → Bool
fitted t e = t && leb e.length.0 65535

pub range-walk : (t : Bool) (l : List Span) → foldl fitted t l ≡ (t && in_range l)
range-walk t [] = sym (and-true t)
range-walk t (e ∷ l) = range-walk (fitted t e) l ∙ and_assoc t (leb e.length.0 65535) (in_range l)

-- the nearest is in the list, so that taking it out leaves one less
same_self : (e : Span) → same e e ≡ true
same_self e = rw (eq-eqb e.start.0 e.start.0 refl, eq-eqb e.length.0 e.length.0 refl)

nearest-held : (now : ℕ) (e : Span) (l k : List Span) → holds e k ≡ true → ((x : Span) → holds x l ≡ true → holds x k ≡ true) → holds (nearest now e l) k ≡ true
nearest-held now e [] k h sub = h
nearest-held now e (x ∷ l) k h sub =
    nearest-held now (nearer_of now e x) l k
    (either (λ (r : Span). holds r k ≡ true) (nearer now x.start.0 e.start.0) x e (λ _. sub x (rw (same_self x))) (λ _. h))
    (λ y p. sub y (rw p (or-true (same y x))))

pub nearest_in : (now : ℕ) (e : Span) (l : List Span) → holds (nearest now e l) (e ∷ l) ≡ true
nearest_in now e l = nearest-held now e l (e ∷ l) (rw (same_self e)) (λ x p. rw p (or-true (same x e)))

pub remove-fewer : (e : Span) (l : List Span) → holds e l ≡ true → suc (length (remove e l)) ≡ length l
remove-fewer e [] h = absurd (false≢true h)
remove-fewer e (x ∷ l) h =
    either (λ (r : List Span). suc (length r) ≡ suc (length l)) (same e x) _ _
    (λ _. refl)
    (λ t. ap suc (remove-fewer e l (rw t at h)))

-- an array that has a list in it and nothing behind it
pub record Packs (s : GrantList) : Type 0 where
  pub list : List Span
  pub is : s ≡ packed list
  pub room : length list ≤ 16

pub packs-list : (s : GrantList) (p : Packs s) → list_of s ≡ p.list
packs-list s p = ap list_of p.is ∙ packed-list p.list p.room

pub packs-number : (s : GrantList) (p : Packs s) → s.number ≡ length p.list
packs-number s p = ap (λ (x : GrantList). x.number) p.is

pub packs-without : (s : GrantList) (p : Packs s) (e : Span) (r : GrantList) → r ≡ packed (remove e (list_of s)) → r ≡ packed (remove e p.list)
packs-without s p e r h = h ∙ ap (λ (l : List Span). packed (remove e l)) (packs-list s p)

-- a turn of the choice, on a list that is not empty: the walk for the nearest begins with the first, and meets it again
module _ (now : ℕ) where
  first-again : (e : Span) (l : List Span) → nearest now e (e ∷ l) ≡ nearest now e l
  first-again e l =
      either (λ (r : Span). nearest now r l ≡ nearest now e l) (nearer now e.start.0 e.start.0) e e (λ _. refl) (λ _. refl)

  abbrev pub Nearest : List Span → Span → Type 0
  Nearest l e = e ≡ nearest now (get_or (packed l).entries 0 none) l

  pub nearest-packed : (s : GrantList) (p : Packs s) (e : Span) → e ≡ nearest now (get_or s.entries 0 none) (list_of s) → Nearest p.list e
  nearest-packed s p e n = rw (p.is, packed-list p.list p.room) at n

  module _ (need : ℕ) where
    pub choice-found : (l : List Span) (e : Span) → 0 < length l → Nearest l e → need ≤ e.length.0
        → record { list = packed l; chosen = Some e } ≡ choice_of (settle (length l) now need l)
    unfolding settle
    choice-found [] e h n k = absurd (omega arith)
    choice-found (x ∷ l) e h n k = rw (← first-again x l, ← n, le-leb need e.length.0 k)

    turned : (k : ℕ) (x e n : Span) (l : List Span) → e ≡ n → e.length.0 < need
        → cond (leb need n.length.0) (record { list = x ∷ l; chosen = Some n }) (settle k now need (remove n (x ∷ l))) ≡ settle k now need (remove e (x ∷ l))
    turned k x e n l h j = rw (lt-leb need n.length.0 (rw h at j)) (ap (λ (y : Span). settle k now need (remove y (x ∷ l))) (sym h))

    pub choice-next : (l : List Span) (e : Span) → 0 < length l → Nearest l e → e.length.0 < need
        → (suc (length (remove e l)) ≡ length l) × (settle (length (remove e l)) now need (remove e l) ≡ settle (length l) now need l)
    unfolding settle
    choice-next [] e h n k = absurd (omega arith)
    choice-next (x ∷ l) e h n k =
        let is : e ≡ nearest now x l = n ∙ first-again x l in
        let fewer : suc (length (remove e (x ∷ l))) ≡ suc (length l) = remove-fewer e (x ∷ l) (ap (λ (y : Span). holds y (x ∷ l)) is ∙ nearest_in now x l) in
        let less : length (remove e (x ∷ l)) ≡ length l = omega arith in
        (fewer, ap (λ (n : ℕ). settle n now need (remove e (x ∷ l))) less ∙ sym (turned (length l) x e (nearest now x l) l is k))

    pub choice-of : (s : GrantList) (p : Packs s) → settle (length p.list) now need p.list ≡ settle (length (list_of s)) now need (list_of s)
    choice-of s p = ap (λ (l : List Span). settle (length l) now need l) (sym (packs-list s p))

    pub choice-none : (l : List Span) → length l ≤ 0 → record { list = packed l; chosen = None } ≡ choice_of (settle (length l) now need l)
    unfolding settle
    choice-none [] h = refl
    choice-none (x ∷ l) h = absurd (omega arith)
