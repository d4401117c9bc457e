-- Lemmas: R123: the list after a normal GATE is the list before it and, behind that, the grants taken.
-- Assumes nothing.
use Rattle.std.specs.Prelude.{ℕ, ◌+◌, ◌≤◌, ◌≡◌, refl, Bool, true, ◌&&◌, ltb, leb, length}
use Rattle.std.proofs.Common.{sym, ◌∙◌, arith, lt-ltb, leb-true, ltb-true, length-take}
use Rattle.std.proofs.Math.Bool.{and-eq-true_iff}
use mathlib.Core.List.{List, [], ◌∷◌, ◌++◌, map, foldl, append_assoc, append-nil}
use Rattle.std.proofs.lemmas.List.{length-map}
use Rattle.laws.specs.Cases.{either}
use Rattle.clock.specs.Numbers.{start_in_range}
use Rattle.clock.specs.declared.Span.{Span}
use Rattle.frame.specs.Layout.{listed}
use Rattle.frame.specs.declared.Grant.{Grant}
use Rattle.frame.specs.declared.Grants.{Grants}
use Rattle.frame.specs.declared.Grants.TheVariants.{None, One, Two, Three, Four}
use Rattle.frame_range.specs.Fits.{fits_grant, fits_all}
use Rattle.box_grants.specs.Activation.{holds}
use Rattle.box_grants.specs.Keeps.{sound-parts, pushed-entries, push-list, push-holds, pushed-sound}
use Rattle.box_grants.specs.Listed.{list_of, pushed}
use Rattle.box_grants.specs.Sound.{in_range, sound_of as list_sound}
use Rattle.box_grants.specs.declared.GrantList.{GrantList}
use Rattle.box_registration.specs.Registration.{is_registered}
use Rattle.box_telling.specs.declared.Notice.TheVariants.{Granted}
use Rattle.box_processes.specs.declared.Processes.{Processes}
use Rattle.box_hearing.specs.Gate.{entry_of, taken_all, gated}
use Rattle.box_hearing.specs.Page.{taken_of, taken_from, slots, pushed-number, taken-list, taken-notices}
use Rattle.box_laws.specs.Sound.{Sound}

-- a list that is sound, and holds what another did
pub record Takes (l s : GrantList) : Type 0 where
  pub list : list_sound s ≡ true
  pub places : length s.entries ≡ 16
  pub held : (e : Span) → holds e (list_of l) ≡ true → holds e (list_of s) ≡ true

pushes-take : (l : GrantList) (es : List Span) (s : GrantList) → in_range es ≡ true → Takes l s → Takes l (foldl pushed s es)
pushes-take l [] s h k = k
pushes-take l (e ∷ es) s h k =
    let r = (and-eq-true_iff (leb e.length.0 65535) (in_range es)).0 h in
    pushes-take l es (pushed s e) r.1
    (record {
      list = pushed-sound s e k.places k.list (leb-true e.length.0 65535 r.0);
      places = pushed-entries s e k.places;
      held = λ x m. push-holds s e k.places x (k.held x m);
    })

-- the test of a GATE's lengths goes on from what came before
fits-before : (gs : List Grant) (f : Bool) → fits_all f gs ≡ true → f ≡ true
fits-before [] f h = h
fits-before (g ∷ gs) f h = ((and-eq-true_iff f (fits_grant g)).0 (fits-before gs (f && fits_grant g) h)).0

taken-range : (now number : ℕ) (gs : List Grant) (f : Bool) → fits_all f gs ≡ true → in_range (map entry_of (taken_of now number gs)) ≡ true
taken-range now number [] f h = refl
taken-range now number (g ∷ gs) f h =
    let one = ((and-eq-true_iff f (fits_grant g)).0 (fits-before gs (f && fits_grant g) h)).1 in
    either (λ (r : List Grant). in_range (map entry_of r) ≡ true) (start_in_range now g.start.0 && ltb number 16) _ _
    (λ _. rw (one, taken-range now (number + 1) gs (f && fits_grant g) h))
    (λ _. taken-range now number gs (f && fits_grant g) h)

pub taken-takes : (p : Processes) (gs : List Grant) → list_sound p.list ≡ true → length p.list.entries ≡ 16 → fits_all true gs ≡ true
    → Takes p.list (taken_all p gs).list
taken-takes p gs s n h =
    rw (taken-list p gs)
    (pushes-take p.list (map entry_of (taken_from p gs)) p.list (taken-range p.count.0 p.list.number gs true h)
    (record { list = s; places = n; held = λ _ m. m }))

-- no more are taken than the list has room for
taken-room : (now number : ℕ) (gs : List Grant) → number ≤ 16 → number + length (taken_of now number gs) ≤ 16
taken-room now number [] h = omega arith
taken-room now number (g ∷ gs) h =
    let near = start_in_range now g.start.0 in
    either (λ (r : List Grant). number + length r ≤ 16) (near && ltb number 16) _ _
    (λ t.
    let room = ltb-true number 16 ((and-eq-true_iff near (ltb number 16)).0 t).1 in
    let more = taken-room now (number + 1) gs (omega arith) in
    omega arith)
    (λ _. taken-room now number gs h)

pushes-list : (es : List Span) (s : GrantList) → length s.entries ≡ 16 → s.number + length es ≤ 16
    → list_of (foldl pushed s es) ≡ list_of s ++ es
pushes-list [] s n h = sym (append-nil (list_of s))
pushes-list (e ∷ es) s n h =
    let room : ltb s.number 16 ≡ true = lt-ltb s.number 16 (omega arith) in
    let below : ltb (length (list_of s)) 16 ≡ true = lt-ltb (length (list_of s)) 16 (simp length-take (omega arith)) in
    let number = pushed-number s e room in
    let more : list_of (pushed s e) ≡ list_of s ++ (e ∷ []) = push-list s e n ∙ rw below in
    pushes-list es (pushed s e) (pushed-entries s e n) (omega arith) ∙ rw more (append_assoc (list_of s) (e ∷ []) es)

taken-behind : (p : Processes) (gs : List Grant) → Sound p → list_of (taken_all p gs).list ≡ list_of p.list ++ map entry_of (taken_from p gs)
taken-behind p gs s =
    let room = taken-room p.count.0 p.list.number gs (sound-parts p.list s.list).0 in
    rw (taken-list p gs)
    (pushes-list (map entry_of (taken_from p gs)) p.list s.places (rw (length-map (taken_from p gs) entry_of) room))

at-most-four : (grants : Grants) → length (listed grants) ≤ 4
at-most-four None = omega arith
at-most-four (One a) = omega arith
at-most-four (Two a b) = omega arith
at-most-four (Three a b c) = omega arith
at-most-four (Four a b c d) = omega arith

-- in REGISTERED the grants taken stand behind those that were in the list, and each has its notice, all in the order of the frame
module _ (p : Processes) (grants : Grants) (i : is_registered p.registration.state ≡ true) where
  pub gate-list : Sound p → list_of (gated p (listed grants)).next.list ≡ list_of p.list ++ map entry_of (taken_from p (listed grants))
  unfolding gated
  gate-list s = rw i (taken-behind p (listed grants) s)

  pub gate-notices : (gated p (listed grants)).notices ≡ slots (map Granted (taken_from p (listed grants)))
  unfolding gated
  gate-notices = rw i (taken-notices p (listed grants) (at-most-four grants))
