-- Lemmas: what the steps on the list keep, so that a sound list stays sound, and what the grant that is chosen stands on.
-- Assumes nothing.
use Prim.Native.Nat.{ℕ, zero, suc, ◌+◌, ◌≤◌, ◌<◌, min}
use Rattle.std.specs.Prelude.{Option, None, Some, ◌≡◌, refl, Bool, true, false, cond, ◌||◌, eqb, ltb, leb}
use Rattle.std.proofs.Common.{◌∙◌, ⊎_elim, length-append, length-take, take-suc-set}
use Rattle.std.proofs.Math.Bool.{or-true, and-eq-true_iff}
use Rattle.std.proofs.lemmas.Bool.{false≢true}
use mathlib.Core.List.{List, [], ◌∷◌, ◌++◌}
use native.Mathlib.Omega.{arith}
use borrow.Author.Tests.{lt-ltb, le-ltb, le-leb, leb-true, eqb-true}
use Rattle.std.proofs.Math.ListN.{length, length-set}
use Rattle.std.proofs.lemmas.List.{length-replicate}
use Rattle.laws.specs.Cases.{either, decided, cut}
use Rattle.clock.specs.Counts.{is_past}
use Rattle.clock.specs.Spans.{same}
use Rattle.clock.specs.declared.Span.{Span}
use Rattle.box_grants.specs.Activation.{holds, ahead, nearest, remove, Left, settle}
use Rattle.box_grants.specs.Laws.{packed-list, ahead-shorter, nearest_in}
use Rattle.box_grants.specs.Listed.{list_of, packed, pushed, choose_of}
use Rattle.box_grants.specs.Sound.{in_range, sound_of}
use Rattle.box_grants.specs.declared.GrantList.{GrantList}

-- what is in the list
pub same-is : (a b : Span) → same a b ≡ true → a ≡ b
same-is a b h =
    let p = (and-eq-true_iff (eqb a.start.0 b.start.0) (eqb a.length.0 b.length.0)).0 h in
    let s = eqb-true a.start.0 b.start.0 p.0 in
    let n = eqb-true a.length.0 b.length.0 p.1 in
    λ i. record { start = record { 0 = s i }; length = record { 0 = n i } }

or-on : (a b c : Bool) → (b ≡ true → c ≡ true) → (a || b) ≡ true → (a || c) ≡ true
or-on true b c f h = refl
or-on false b c f h = f h

range-parts : (e : Span) (l : List Span) → in_range (e ∷ l) ≡ true → (leb e.length.0 65535 ≡ true) × (in_range l ≡ true)
range-parts e l h = (and-eq-true_iff (leb e.length.0 65535) (in_range l)).0 h

pub held-range : (e : Span) (l : List Span) → in_range l ≡ true → holds e l ≡ true → e.length.0 ≤ 65535
held-range e [] r h = absurd (false≢true h)
held-range e (x ∷ l) r h =
    let p = range-parts x l r in
    ⊎_elim
    (λ (s : same e x ≡ true). rw (same-is e x s) (leb-true x.length.0 65535 p.0))
    (λ (s : same e x ≡ false). held-range e l p.1 (rw s at h))
    (decided (same e x))

pub held-ahead : (now : ℕ) (e : Span) (l : List Span) → holds e (ahead now l) ≡ true → is_past now e.start.0 ≡ false
held-ahead now e [] h = absurd (false≢true h)
held-ahead now e (x ∷ l) h =
    either (λ (r : List Span). holds e r ≡ true → is_past now e.start.0 ≡ false) (is_past now x.start.0) _ _
    (λ _. held-ahead now e l)
    (λ t k.
    ⊎_elim
    (λ (s : same e x ≡ true). rw (same-is e x s) t)
    (λ (s : same e x ≡ false). held-ahead now e l (rw s at k))
    (decided (same e x)))
    h

-- removing
pub ahead-range : (now : ℕ) (l : List Span) → in_range l ≡ true → in_range (ahead now l) ≡ true
ahead-range now [] h = refl
ahead-range now (e ∷ l) h =
    let p = range-parts e l h in
    let q = ahead-range now l p.1 in
    either (λ (r : List Span). in_range r ≡ true) (is_past now e.start.0) _ _ (λ _. q) (λ _. rw (p.0, q))

pub remove_range : (e : Span) (l : List Span) → in_range l ≡ true → in_range (remove e l) ≡ true
remove_range e [] h = refl
remove_range e (x ∷ l) h =
    let p = range-parts x l h in
    either (λ (r : List Span). in_range r ≡ true) (same e x) _ _ (λ _. p.1) (λ _. rw (p.0, remove_range e l p.1))

pub remove-shorter : (e : Span) (l : List Span) → length (remove e l) ≤ length l
remove-shorter e [] = omega arith
remove-shorter e (x ∷ l) =
    let h = remove-shorter e l in
    either (λ (r : List Span). length r ≤ suc (length l)) (same e x) _ _ (λ _. omega arith) (λ _. omega arith)

remove-holds : (x e : Span) (l : List Span) → holds x (remove e l) ≡ true → holds x l ≡ true
remove-holds x e [] h = h
remove-holds x e (y ∷ l) h =
    either (λ (r : List Span). holds x r ≡ true → holds x (y ∷ l) ≡ true) (same e y) _ _
    (λ _ k. rw k (or-true (same x y)))
    (λ _. or-on (same x y) (holds x (remove e l)) (holds x l) (remove-holds x e l))
    h

-- the choice removes, and no more
module _ (now need : ℕ) where
  settle-keeps : (P : List Span → Type 0) → ((e : Span) (l : List Span) → P l → P (remove e l))
      → (k : ℕ) (l : List Span) → P l → P (settle k now need l).list
  unfolding settle
  settle-keeps P step zero l h = h
  settle-keeps P step (suc k) [] h = h
  settle-keeps P step (suc k) (e ∷ l) h =
      let n = nearest now e l in
      either (λ (c : Left). P c.list) (leb need n.length.0) _ _ (λ _. h)
      (λ _. settle-keeps P step k (remove n (e ∷ l)) (step n (e ∷ l) h))

  pub settle-range : (k : ℕ) (l : List Span) → in_range l ≡ true → in_range (settle k now need l).list ≡ true
  settle-range = settle-keeps (λ l. in_range l ≡ true) remove_range

  pub settle-shorter : (k : ℕ) (l : List Span) → length (settle k now need l).list ≤ length l
  settle-shorter k l = settle-keeps (λ r. length r ≤ length l) (λ e r (h : length r ≤ length l). omega (arith, remove-shorter e r)) k l (omega arith)

  pub settle-holds : (x : Span) (k : ℕ) (l : List Span) → holds x (settle k now need l).list ≡ true → holds x l ≡ true
  settle-holds x k l = settle-keeps (λ r. holds x r ≡ true → holds x l ≡ true) (λ e r f h. f (remove-holds x e r h)) k l (λ h. h)

  -- what is chosen is in the list that is left, and long enough
  abbrev Serves : List Span → Option Span → Type 0
  Serves l None = Unit {0}
  Serves l (Some e) = (holds e l ≡ true) × (need ≤ e.length.0)

  settle-serves : (k : ℕ) (l : List Span) → Serves (settle k now need l).list (settle k now need l).chosen
  unfolding settle
  settle-serves zero l = tt
  settle-serves (suc k) [] = tt
  settle-serves (suc k) (x ∷ l) =
      let n = nearest now x l in
      either (λ (c : Left). Serves c.list c.chosen) (leb need n.length.0) _ _
      (λ t. (nearest_in now x l, leb-true need n.length.0 t))
      (λ _. settle-serves k (remove n (x ∷ l)))

  pub settle-due : (k : ℕ) (l : List Span) (e : Span) → (settle k now need l).chosen ≡ Some e
      → (holds e (settle k now need l).list ≡ true) × (need ≤ e.length.0)
  settle-due k l e h = rw h at (settle-serves k l)

  pub settle-due-range : (k : ℕ) (l : List Span) (e : Span) → in_range l ≡ true → (settle k now need l).chosen ≡ Some e → e.length.0 ≤ 65535
  settle-due-range k l e r h = held-range e (settle k now need l).list (settle-range k l r) (settle-due k l e h).0

  pub settle-due-ahead : (k : ℕ) (l : List Span) (e : Span) → (settle k now need (ahead now l)).chosen ≡ Some e → is_past now e.start.0 ≡ false
  settle-due-ahead k l e h = held-ahead now e l (settle-holds e k (ahead now l) (settle-due k (ahead now l) e h).0)

-- the array
pub listed-room : (s : GrantList) → length (list_of s) ≤ 16
listed-room s = simp length-take (omega arith)

pub packed-entries : (l : List Span) → length l ≤ 16 → length (packed l).entries ≡ 16
packed-entries l h = simp (length-append, length-replicate) (omega arith)

pub packed-sound : (l : List Span) → in_range l ≡ true → length l ≤ 16 → sound_of (packed l) ≡ true
unfolding sound_of
packed-sound l r h = rw (le-leb (length l) 16 h, packed-list l h, r)

pub sound-parts : (s : GrantList) → sound_of s ≡ true → (s.number ≤ 16) × (in_range (list_of s) ≡ true)
unfolding sound_of
sound-parts s h =
    let p = (and-eq-true_iff (leb s.number 16) (in_range (list_of s))).0 h in
    (leb-true s.number 16 p.0, p.1)

pub without-sound : (s : GrantList) (e : Span) → sound_of s ≡ true → sound_of (packed (remove e (list_of s))) ≡ true
without-sound s e h =
    packed-sound (remove e (list_of s)) (remove_range e (list_of s) (sound-parts s h).1) (omega (arith, listed-room s, remove-shorter e (list_of s)))

pub without-entries : (s : GrantList) (e : Span) → length (packed (remove e (list_of s))).entries ≡ 16
without-entries s e = packed-entries (remove e (list_of s)) (omega (arith, listed-room s, remove-shorter e (list_of s)))

-- one more
range-append : (l : List Span) (e : Span) → in_range l ≡ true → leb e.length.0 65535 ≡ true → in_range (l ++ (e ∷ [])) ≡ true
range-append [] e r h = rw h
range-append (x ∷ l) e r h =
    let p = range-parts x l r in
    rw (p.0, range-append l e p.1 h)

holds-append : (x : Span) (l t : List Span) → holds x l ≡ true → holds x (l ++ t) ≡ true
holds-append x [] t h = absurd (false≢true h)
holds-append x (y ∷ l) t h = or-on (same x y) (holds x l) (holds x (l ++ t)) (holds-append x l t) h

module _ (s : GrantList) (e : Span) where
  pub pushed-entries : length s.entries ≡ 16 → length (pushed s e).entries ≡ 16
  unfolding pushed
  pushed-entries w =
      either (λ (r : GrantList). length r.entries ≡ 16) (ltb s.number 16) _ _ (λ _. length-set s.entries s.number e ∙ w) (λ _. w)

  module _ (w : length s.entries ≡ 16) where
    room-list : s.number < 16 → list_of (pushed s e) ≡ list_of s ++ (e ∷ [])
    unfolding pushed
    room-list h =
        let more : min (s.number + 1) 16 ≡ suc s.number = omega arith in
        let all : min s.number 16 ≡ s.number = omega arith in
        rw (lt-ltb s.number 16 h, more, all) (take-suc-set s.entries s.number e (omega arith))

    room-number : s.number < 16 → (pushed s e).number ≡ s.number + 1
    unfolding pushed
    room-number h = rw (lt-ltb s.number 16 h)

    full : 16 ≤ s.number → pushed s e ≡ s
    unfolding pushed
    full h = rw (le-ltb s.number 16 h)

    pub push-list : list_of (pushed s e) ≡ cond (ltb (length (list_of s)) 16) (list_of s ++ (e ∷ [])) (list_of s)
    push-list =
        ⊎_elim
        (λ (h : s.number < 16). rw (lt-ltb (length (list_of s)) 16 (simp length-take (omega arith))) (room-list h))
        (λ (h : 16 ≤ s.number). rw (full h, le-ltb (length (list_of s)) 16 (simp length-take (omega arith))))
        (cut s.number 16)

    pub push-holds : (x : Span) → holds x (list_of s) ≡ true → holds x (list_of (pushed s e)) ≡ true
    push-holds x h =
        rw push-list
        (either (λ (l : List Span). holds x l ≡ true) (ltb (length (list_of s)) 16) _ _ (λ _. holds-append x (list_of s) (e ∷ []) h) (λ _. h))

    room-sound : s.number < 16 → in_range (list_of s) ≡ true → e.length.0 ≤ 65535 → sound_of (pushed s e) ≡ true
    unfolding sound_of
    room-sound h r k =
        rw (room-list h, room-number h, le-leb (s.number + 1) 16 (omega arith)) (range-append (list_of s) e r (le-leb e.length.0 65535 k))

    pub pushed-sound : sound_of s ≡ true → e.length.0 ≤ 65535 → sound_of (pushed s e) ≡ true
    pushed-sound h k =
        ⊎_elim
        (λ (n : s.number < 16). room-sound n (sound-parts s h).1 k)
        (λ (n : 16 ≤ s.number). rw (full n) h)
        (cut s.number 16)

-- the whole choice, of a list in its array
pub record Ready (now need : ℕ) (l : List Span) (e : Span) : Type 0 where
  pub held : holds e l ≡ true
  pub long : need ≤ e.length.0
  pub short : e.length.0 ≤ 65535
  pub due : is_past now e.start.0 ≡ false

abbrev pub Fulfils : ℕ → ℕ → List Span → Option Span → Type 0
Fulfils now need l None = Unit {0}
Fulfils now need l (Some e) = Ready now need l e

module _ (now need : ℕ) (s : GrantList) where
  abbrev left : Left
  left = let l = ahead now (list_of s) in settle (length l) now need l

  left-room : length left.list ≤ 16
  left-room =
      omega (arith, settle-shorter now need (length (ahead now (list_of s))) (ahead now (list_of s)), ahead-shorter now (list_of s), listed-room s)

  pub choose-entries : length (choose_of now need s).list.entries ≡ 16
  unfolding choose_of
  choose-entries = packed-entries left.list left-room

  module _ (h : sound_of s ≡ true) where
    ahead_in : in_range (ahead now (list_of s)) ≡ true
    ahead_in = ahead-range now (list_of s) (sound-parts s h).1

    pub choose-sound : sound_of (choose_of now need s).list ≡ true
    unfolding choose_of
    choose-sound = packed-sound left.list (settle-range now need (length (ahead now (list_of s))) (ahead now (list_of s)) ahead_in) left-room

    fulfils : (c : Option Span) → left.chosen ≡ c → Fulfils now need left.list c
    fulfils None e = tt
    fulfils (Some x) e =
        let l = ahead now (list_of s) in
        let p = settle-due now need (length l) l x e in
        record {
          held = p.0;
          long = p.1;
          short = settle-due-range now need (length l) l x ahead_in e;
          due = settle-due-ahead now need (length l) (list_of s) x e;
        }

    pub choose-fulfils : Fulfils now need (list_of (choose_of now need s).list) (choose_of now need s).chosen
    unfolding choose_of
    choose-fulfils = rw (packed-list left.list left-room) (fulfils left.chosen refl)
