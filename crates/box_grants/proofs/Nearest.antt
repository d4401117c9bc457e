-- A choice takes the nearest grant, empties the list before it takes none, and loses none that serves.
-- Assumes nothing.
use Rattle.std.proofs.Common.{Option, None, Some}
use Prim.Native.Nat.{ℕ, zero, suc, ◌≤◌}
use mathlib.Core.Path.{◌≡◌, refl, sym, ap, subst, ◌∙◌}
use mathlib.Core.Bool.{Bool, true, false, cond, true≢false, false≢true}
use mathlib.Core.List.{List, [], ◌∷◌, ◌++◌, append_assoc, append-nil, cons≢nil}
use mathlib.Core.Logic.{⊎_elim, ◌≢◌}
use native.Mathlib.Omega.{arith}
use borrow.Author.Tests.{lt-ltb, le-ltb, ltb-true, ltb-false, leb-false}
use lib.Dec.{leb}
use lib.IntN.{ℤ, pos, negsuc}
use lib.ListN.{length}
use lib.Signed.{lt_z}
use Rattle.laws.specs.Cases.{either, decided}
use Rattle.clock.specs.Counts.{distance, is_past, nearer}
use Rattle.clock.specs.Spans.{same}
use Rattle.box_grants.specs.Activation.{holds, ahead, nearest, remove, Left, settle}
use Rattle.box_grants.specs.Nearest.{Nearest, EveryChoice}
use Rattle.box_grants.specs.Keeps.{same-is, held-ahead, settle-holds, settle-shorter, listed-room}
use Rattle.box_grants.specs.Laws.{packed-list, ahead-shorter, nearest_in, remove-fewer}
use Rattle.box_grants.specs.Listed.{list_of, choose_of}
use Rattle.clock.specs.declared.Span.{Span}
use Rattle.box_grants.specs.declared.GrantList.{GrantList}

-- THE ORDER OF DISTANCES
ahead_of : (x y : ℤ) → lt_z x y ≡ true → lt_z y x ≡ false
ahead_of (pos a) (pos b) h =
    let l = ltb-true a b h in
    le-ltb b a (omega arith)
ahead_of (pos a) (negsuc b) h = absurd (false≢true h)
ahead_of (negsuc a) (pos b) h = refl
ahead_of (negsuc a) (negsuc b) h =
    let l = ltb-true b a h in
    le-ltb a b (omega arith)

-- below one that z is not below
below : (x y z : ℤ) → lt_z x y ≡ true → lt_z z y ≡ false → lt_z x z ≡ true
below (pos a) (pos b) (pos c) h k =
    let l = ltb-true a b h in
    let m = ltb-false c b k in
    lt-ltb a c (omega arith)
below (pos a) (pos b) (negsuc c) h k = absurd (true≢false k)
below (pos a) (negsuc b) z h k = absurd (false≢true h)
below (negsuc a) y (pos c) h k = refl
below (negsuc a) (pos b) (negsuc c) h k = absurd (true≢false k)
below (negsuc a) (negsuc b) (negsuc c) h k =
    let l = ltb-true b a h in
    let m = ltb-false b c k in
    lt-ltb c a (omega arith)

same_not : (x : ℤ) → lt_z x x ≡ false
same_not (pos a) = le-ltb a a (omega arith)
same_not (negsuc a) = le-ltb a a (omega arith)

-- WHAT HOLDS OF EACH GRANT OF A LIST
abbrev All : (Span → Type 0) → List Span → Type 0
All P [] = Unit {0}
All P (x ∷ l) = P x × All P l

all_append : (P : Span → Type 0) (l k : List Span) → All P l → All P k → All P (l ++ k)
all_append P [] k a b = b
all_append P (x ∷ l) k a b = (a.0, all_append P l k a.1 b)

all-on : (P Q : Span → Type 0) (l : List Span) → ((x : Span) → P x → Q x) → All P l → All Q l
all-on P Q [] f a = tt
all-on P Q (x ∷ l) f a = (f x a.0, all-on P Q l f a.1)

all_held : (P : Span → Type 0) (x : Span) (l : List Span) → All P l → holds x l ≡ true → P x
all_held P x [] a h = absurd (false≢true h)
all_held P x (y ∷ l) a h =
    ⊎_elim
    (λ (s : same x y ≡ true). subst P (sym (same-is x y s)) a.0)
    (λ (s : same x y ≡ false). all_held P x l a.1 (rw s at h))
    (decided (same x y))

-- THE NEAREST
module _ (now : ℕ) where
  abbrev Further : Span → Span → Type 0
  Further e x = nearer now e.start.0 x.start.0 ≡ true

  abbrev NoNearer : Span → Span → Type 0
  NoNearer e x = nearer now x.start.0 e.start.0 ≡ false

  record Parts (l : List Span) (e : Span) : Type 0 where
    before : List Span
    after : List Span
    stands : l ≡ before ++ (e ∷ after)
    further : All (Further e) before
    no-nearer : All (NoNearer e) after

  further-not : (e x : Span) → Further e x → NoNearer e x
  unfolding nearer
  further-not e x h = ahead_of (distance now e.start.0) (distance now x.start.0) h

  nearer-further : (e y x : Span) → Further y e → NoNearer e x → Further y x
  unfolding nearer
  nearer-further e y x h k = below (distance now y.start.0) (distance now e.start.0) (distance now x.start.0) h k

  self-not : (e : Span) → NoNearer e e
  unfolding nearer
  self-not e = same_not (distance now e.start.0)

  -- one grant more
  parts_more : (l : List Span) (e x : Span) → Parts l e → Parts (l ++ (x ∷ [])) (cond (nearer now x.start.0 e.start.0) x e)
  parts_more l e x p =
      either (Parts (l ++ (x ∷ []))) (nearer now x.start.0 e.start.0) x e
      (λ t.
      let none = all_append (NoNearer e) p.before (e ∷ p.after)
      (all-on (Further e) (NoNearer e) p.before (further-not e) p.further) (self-not e, p.no-nearer) in
      record {
        before = l;
        after = [];
        stands = refl;
        further = rw p.stands (all-on (NoNearer e) (Further x) (p.before ++ (e ∷ p.after)) (λ y k. nearer-further e x y t k) none);
        no-nearer = tt;
      })
      (λ t.
      record {
        before = p.before;
        after = p.after ++ (x ∷ []);
        stands = rw p.stands (append_assoc p.before (e ∷ p.after) (x ∷ []));
        further = p.further;
        no-nearer = all_append (NoNearer e) p.after (x ∷ []) p.no-nearer (t, tt);
      })

  parts-walk : (k l : List Span) (e : Span) → Parts l e → Parts (l ++ k) (nearest now e k)
  parts-walk [] l e p = rw (append-nil l) p
  parts-walk (x ∷ k) l e p =
      rw (← append_assoc l (x ∷ []) k) (parts-walk k (l ++ (x ∷ [])) (cond (nearer now x.start.0 e.start.0) x e) (parts_more l e x p))

  nearest-parts : (e : Span) (l : List Span) → Parts (e ∷ l) (nearest now e l)
  nearest-parts e l = parts-walk l (e ∷ []) e (record { before = []; after = []; stands = refl; further = tt; no-nearer = tt })

  nearest-is : (l : List Span) (e : Span) → Parts l e → Nearest now l e
  nearest-is l e p =
      record {
        before = p.before;
        after = p.after;
        stands = p.stands;
        further = λ x h. all_held (Further e) x p.before p.further h;
        no-nearer = λ x h. all_held (NoNearer e) x p.after p.no-nearer h;
      }

-- THE CHOICE
ahead-held : (now : ℕ) (x : Span) (l : List Span) → is_past now x.start.0 ≡ false → holds x l ≡ true → holds x (ahead now l) ≡ true
ahead-held now x [] a h = h
ahead-held now x (y ∷ l) a h =
    ⊎_elim
    (λ (s : same x y ≡ true).
    let e : is_past now y.start.0 ≡ false = rw (same-is x y s) at a in
    rw (e, s))
    (λ (s : same x y ≡ false).
    let k = ahead-held now x l a (rw s at h) in
    either (λ (r : List Span). holds x r ≡ true) (is_past now y.start.0) _ _ (λ _. k) (λ _. rw (s, k)))
    (decided (same x y))

others-held : (x n : Span) (l : List Span) → x ≢ n → holds x l ≡ true → holds x (remove n l) ≡ true
others-held x n [] d h = h
others-held x n (y ∷ l) d h =
    ⊎_elim
    (λ (s : same x y ≡ true).
    either (λ (r : List Span). holds x r ≡ true) (same n y) _ _ (λ t. absurd (d (same-is x y s ∙ sym (same-is n y t)))) (λ _. rw s))
    (λ (s : same x y ≡ false).
    let k : holds x l ≡ true = rw s at h in
    either (λ (r : List Span). holds x r ≡ true) (same n y) _ _ (λ _. k) (λ _. rw (s, others-held x n l d k)))
    (decided (same x y))

module _ (now need : ℕ) where
  abbrev First : List Span → Option Span → Type 0
  First l None = Unit {0}
  First l (Some e) = Parts now l e

  settle-first : (k : ℕ) (l : List Span) → First (settle k now need l).list (settle k now need l).chosen
  unfolding settle
  settle-first zero l = tt
  settle-first (suc k) [] = tt
  settle-first (suc k) (x ∷ l) =
      let n = nearest now x l in
      either (λ (c : Left). First c.list c.chosen) (leb need n.length.0) _ _
      (λ _. nearest-parts now x l)
      (λ _. settle-first k (remove n (x ∷ l)))

  -- a turn for each grant is enough
  abbrev is_due : Option Span → Bool
  is_due None = false
  is_due (Some e) = true

  abbrev Emptied : Left → Type 0
  Emptied c = (c.chosen ≡ None → c.list ≡ []) × (c.list ≡ [] → c.chosen ≡ None)

  settle-emptied : (k : ℕ) (l : List Span) → length l ≤ k → Emptied (settle k now need l)
  unfolding settle
  settle-emptied zero [] h = (λ _. refl, λ _. refl)
  settle-emptied zero (x ∷ l) h = absurd (omega arith)
  settle-emptied (suc k) [] h = (λ _. refl, λ _. refl)
  settle-emptied (suc k) (x ∷ l) h =
      let n = nearest now x l in
      let fewer = remove-fewer n (x ∷ l) (nearest_in now x l) in
      either Emptied (leb need n.length.0) _ _
      (λ _. (λ e. absurd (true≢false (ap is_due e)), λ e. absurd (cons≢nil e)))
      (λ _. settle-emptied k (remove n (x ∷ l)) (omega arith))

  settle-kept : (x : Span) → need ≤ x.length.0 → (k : ℕ) (l : List Span) → holds x l ≡ true → holds x (settle k now need l).list ≡ true
  unfolding settle
  settle-kept x f zero l h = h
  settle-kept x f (suc k) [] h = h
  settle-kept x f (suc k) (y ∷ l) h =
      let n = nearest now y l in
      either (λ (c : Left). holds x c.list ≡ true) (leb need n.length.0) _ _
      (λ _. h)
      (λ t.
      let short = leb-false need n.length.0 t in
      let other : x ≢ n = λ (e : x ≡ n). absurd (omega (arith, ap (λ (y : Span). y.length.0) e)) in
      settle-kept x f k (remove n (y ∷ l)) (others-held x n (y ∷ l) other h))

module _ (now need : ℕ) (s : GrantList) where
  abbrev some : List Span
  some = ahead now (list_of s)

  abbrev choose : Left
  choose = settle (length some) now need some

  left_is : list_of (choose_of now need s).list ≡ choose.list
  unfolding choose_of
  left_is = packed-list choose.list (omega (arith, settle-shorter now need (length some) some, ahead-shorter now (list_of s), listed-room s))

pub every-choice : EveryChoice
unfolding EveryChoice choose_of
every-choice now need s =
    let l = some now need s in
    let c = choose now need s in
    let is = left_is now need s in
    let e = settle-emptied now need (length l) l (omega arith) in
    record {
      nearest = λ x h. rw is (nearest-is now c.list x (rw h at (settle-first now need (length l) l)));
      none_left = λ h. is ∙ e.0 h;
      none-chosen = λ h. e.1 (sym is ∙ h);
      ahead = λ x h. held-ahead now x (list_of s) (settle-holds now need x (length l) l (rw is at h));
      kept = λ x h a f. rw is (settle-kept now need x f (length l) l (ahead-held now x (list_of s) a h));
    }
