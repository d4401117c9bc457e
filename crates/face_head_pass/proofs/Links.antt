-- What the words of a link say by themselves: which are a sound link's, and when it rings.
-- Assumes nothing.
use Prim.Native.Nat.{ℕ, suc, ◌≤◌, min}
use mathlib.Core.Path.{◌≡◌, refl, sym, ap, ◌∙◌}
use mathlib.Core.Bool.{Bool, true, false, cond, ◌&&◌, and-eq-true_iff, false≢true}
use mathlib.Core.List.{List}
use native.Mathlib.Omega.{arith}
use borrow.Author.Tests.{eq-eqb, eqb-true, leb-true, le-leb, le-ltb}
use lib.Dec.{eqb, leb, ltb}
use lib.ListN.{get_or}
use Rattle.clock.specs.Laws.{runs-in, runs_of, quiet-off, quiet-on}
use Rattle.clock.specs.Numbers.{watchdog, periodic, wait}
use Rattle.clock.specs.Timers.{off, runs}
use Rattle.face_head.specs.Table.{state_word, state_of, link_words, link_of, five, is_link, no_link, link_in}
use Rattle.face_head.specs.declared.LinkWords.{LinkWords}
use Rattle.head_links.specs.Link.{is_held}
use Rattle.head_links.specs.Pass.{quiet_of}
use Rattle.head_links.specs.Sound.{sound_in, sound_of}
use Rattle.head_links.specs.declared.Link.{Link}
use Rattle.head_links.specs.declared.State.{State}
use Rattle.head_links.specs.declared.State.TheVariants.{Idle, Waiting, Registered}
use Rattle.frame_range.specs.Fits.{is_individual}
use Rattle.face_words.specs.Laws.{same-is}
use Rattle.face_words.specs.Words.{same}
use Rattle.face_head_pass.specs.Judge.{fits, near, behind}

parts : (a b c d : Bool) → (a && b && c && d) ≡ true → (a ≡ true) × (b ≡ true) × (c ≡ true) × (d ≡ true)
parts a b c d h =
    let p = (and-eq-true_iff (a && b && c) d).0 h in
    let q = (and-eq-true_iff (a && b) c).0 p.0 in
    let r = (and-eq-true_iff a b).0 q.0 in
    (r.0, r.1, q.1, p.1)

-- the words as the fields of a link
abbrev plain : State → LinkWords → Link
plain s w =
    record {
      address = record { 0 = w.address };
      state = s;
      wait = record { left = w.wait };
      watchdog = record { left = w.watchdog };
      periodic = record { left = w.periodic };
    }

abbrev most : ℕ
most = 4294967295

-- words that no field cuts are a link's
pub plain_in : (w : LinkWords) → state_word (state_of w.state) ≡ w.state → w.wait ≤ most → w.watchdog ≤ most → w.periodic ≤ most
    → link_in w ≡ plain (state_of w.state) w
unfolding link_in is_link
plain_in w s a b c =
    let x : min w.wait most ≡ w.wait = omega arith in
    let y : min w.watchdog most ≡ w.watchdog = omega arith in
    let z : min w.periodic most ≡ w.periodic = omega arith in
    rw (
      x,
      y,
      z,
      s,
      eq-eqb w.address w.address refl,
      eq-eqb w.state w.state refl,
      eq-eqb w.wait w.wait refl,
      eq-eqb w.watchdog w.watchdog refl,
      eq-eqb w.periodic w.periodic refl,
    )

-- a sound link's words are those
sound-plain : (w : LinkWords) → sound_of (link_in w) ≡ true → (link_in w ≡ plain (state_of w.state) w) × (state_word (state_of w.state) ≡ w.state)
unfolding link_in is_link sound_of off
sound-plain w h = by-test (is_link w) refl h
  where
    at : same (five (link_words (link_of w))) (five w) ≡ true → (i : ℕ) → get_or (five (link_words (link_of w))) i 0 ≡ get_or (five w) i 0
    at e i = ap (λ (us : List ℕ). get_or us i 0) (same-is (five (link_words (link_of w))) (five w) e)

    by-test : (t : Bool) → is_link w ≡ t → sound_of (cond t (link_of w) no_link) ≡ true
        → (cond t (link_of w) no_link ≡ plain (state_of w.state) w) × (state_word (state_of w.state) ≡ w.state)
    by-test true e s = (rw (at e 2, at e 3, at e 4), at e 1)
    by-test false e s = absurd (false≢true s)

module _ (w : LinkWords) where
  -- a registered link's
  module _ (e : w.state ≡ 2) where
    state-two : state_of w.state ≡ Registered
    unfolding state_of
    state-two = rw e

    two_fits : fits w ≡ (is_individual (record { 0 = w.address }) && eqb w.wait 0 && leb w.watchdog watchdog && leb w.periodic periodic)
    unfolding fits
    two_fits = rw (eq-eqb w.state 2 e)

    two-near : (m : ℕ) → near w m ≡ min (min m w.watchdog) w.periodic
    unfolding near
    two-near m = rw (eq-eqb w.state 2 e)

  -- a waiting one's
  module _ (e : w.state ≡ 1) where
    state-one : state_of w.state ≡ Waiting
    unfolding state_of
    state-one = rw e

    one-fits : fits w ≡ (is_individual (record { 0 = w.address }) && leb w.wait wait && eqb w.watchdog 0 && eqb w.periodic 0)
    unfolding fits
    one-fits = rw e

    one-near : (m : ℕ) → near w m ≡ min m w.wait
    unfolding near
    one-near m = rw e

  -- an idle one's
  module _ (e : w.state ≡ 0) where
    state-none : state_of w.state ≡ Idle
    unfolding state_of
    state-none = rw e

    none-fits : fits w ≡ (eqb w.address 0 && eqb w.wait 0 && eqb w.watchdog 0 && eqb w.periodic 0)
    unfolding fits
    none-fits = rw e

    none-near : (m : ℕ) → near w m ≡ m
    unfolding near
    none-near m = rw e

-- the tick at which a registered link rings, of what is left before it
least-two : (m d p x y z : ℕ) → m ≤ behind → x ≡ 65536 → d ≡ suc y → p ≡ suc z → min (min m d) p ≡ min m (suc (min x (min y z)))
least-two m d p x y z l a b c = rw (a, b, c) (omega (arith, l))

-- what is known of words that fit and of which no timer that must run is 0
pub record Sounds (w : LinkWords) : Type 0 where
  pub sound : sound_of (link_in w) ≡ true
  pub rings : (m : ℕ) → m ≤ behind → near w m ≡ min m (suc (quiet_of (link_in w)))
  pub held : is_held (link_in w).state ≡ ltb 0 w.address
  pub address : (link_in w).address.0 ≡ w.address
  pub packed : five (link_words (link_in w)) ≡ five w
  pub state : (link_in w).state ≡ state_of w.state

sounds-two : (w : LinkWords) → w.state ≡ 2 → fits w ≡ true → 1 ≤ near w behind → Sounds w
unfolding sound_of off quiet_of
sounds-two w e f n =
    let p = parts (is_individual (record { 0 = w.address })) (eqb w.wait 0) (leb w.watchdog watchdog) (leb w.periodic periodic) (sym (two_fits w e) ∙ f) in
    let z : w.wait ≡ 0 = eqb-true w.wait 0 p.1 in
    let d : w.watchdog ≤ watchdog = leb-true w.watchdog watchdog p.2 in
    let g : w.periodic ≤ periodic = leb-true w.periodic periodic p.3 in
    let k : 1 ≤ min (min behind w.watchdog) w.periodic = rw (two-near w e behind) at n in
    let i : link_in w ≡ plain Registered w = plain_in w (rw (state-two w e) (sym e)) (omega arith) (omega arith) (omega arith) ∙ rw (state-two w e) in
    let a = quiet-off (record { left = w.wait }) z in
    let b = quiet-on (record { left = w.watchdog }) (omega arith) in
    let c = quiet-on (record { left = w.periodic }) (omega arith) in
    let q = (and-eq-true_iff (leb w.address 0xFFFFFFFFFFFF && ltb 0 w.address) _).0 p.0 in
    record {
      sound = rw i (rw (p.0, p.1, runs_of (record { left = w.watchdog }) watchdog (omega arith) d, runs_of (record { left = w.periodic }) periodic (omega arith) g));
      rings = λ m l. two-near w e m ∙ rw i (least-two m w.watchdog w.periodic _ _ _ l a (omega arith) (omega arith));
      held = rw (i, ((and-eq-true_iff (leb w.address 0xFFFFFFFFFFFF) (ltb 0 w.address)).0 q.0).1);
      address = rw i;
      packed = rw (i, e);
      state = rw (i, state-two w e);
    }

sounds-one : (w : LinkWords) → w.state ≡ 1 → fits w ≡ true → 1 ≤ near w behind → Sounds w
unfolding sound_of off quiet_of
sounds-one w e f n =
    let p = parts (is_individual (record { 0 = w.address })) (leb w.wait wait) (eqb w.watchdog 0) (eqb w.periodic 0) (sym (one-fits w e) ∙ f) in
    let z : w.wait ≤ wait = leb-true w.wait wait p.1 in
    let d : w.watchdog ≡ 0 = eqb-true w.watchdog 0 p.2 in
    let g : w.periodic ≡ 0 = eqb-true w.periodic 0 p.3 in
    let k : 1 ≤ min behind w.wait = rw (one-near w e behind) at n in
    let i : link_in w ≡ plain Waiting w = plain_in w (rw (state-one w e) (sym e)) (omega arith) (omega arith) (omega arith) ∙ rw (state-one w e) in
    let a = quiet-on (record { left = w.wait }) (omega arith) in
    let b = quiet-off (record { left = w.watchdog }) d in
    let c = quiet-off (record { left = w.periodic }) g in
    let q = (and-eq-true_iff (leb w.address 0xFFFFFFFFFFFF && ltb 0 w.address) _).0 p.0 in
    record {
      sound = rw i (rw (p.0, p.2, p.3, runs_of (record { left = w.wait }) wait (omega arith) z));
      rings = λ m l. one-near w e m ∙ rw i (omega arith);
      held = rw (i, ((and-eq-true_iff (leb w.address 0xFFFFFFFFFFFF) (ltb 0 w.address)).0 q.0).1);
      address = rw i;
      packed = rw (i, e);
      state = rw (i, state-one w e);
    }

sounds-none : (w : LinkWords) → w.state ≡ 0 → fits w ≡ true → Sounds w
unfolding sound_of off quiet_of
sounds-none w e f =
    let p = parts (eqb w.address 0) (eqb w.wait 0) (eqb w.watchdog 0) (eqb w.periodic 0) (sym (none-fits w e) ∙ f) in
    let o : w.address ≡ 0 = eqb-true w.address 0 p.0 in
    let z : w.wait ≡ 0 = eqb-true w.wait 0 p.1 in
    let d : w.watchdog ≡ 0 = eqb-true w.watchdog 0 p.2 in
    let g : w.periodic ≡ 0 = eqb-true w.periodic 0 p.3 in
    let i : link_in w ≡ plain Idle w = plain_in w (rw (state-none w e) (sym e)) (omega arith) (omega arith) (omega arith) ∙ rw (state-none w e) in
    let a = quiet-off (record { left = w.wait }) z in
    let b = quiet-off (record { left = w.watchdog }) d in
    let c = quiet-off (record { left = w.periodic }) g in
    record {
      sound = rw i (rw (p.0, p.1, p.2, p.3));
      rings = λ m l. none-near w e m ∙ rw i (omega arith);
      held = rw (i, le-ltb 0 w.address (omega arith));
      address = rw i;
      packed = rw (i, e);
      state = rw (i, state-none w e);
    }

-- a word that is a state's
data Stated (n : ℕ) : Type 0 where
  idle : n ≡ 0 → Stated n
  waiting : n ≡ 1 → Stated n
  registered : n ≡ 2 → Stated n

stated : (n : ℕ) → state_word (state_of n) ≡ n → Stated n
unfolding state_of
stated n h = by_one (eqb n 1) refl (eqb n 2) refl h
  where
    by_one : (s : Bool) → eqb n 1 ≡ s → (t : Bool) → eqb n 2 ≡ t → state_word (cond s Waiting (cond t Registered Idle)) ≡ n → Stated n
    by_one true e t f k = waiting (sym k)
    by_one false e true f k = registered (sym k)
    by_one false e false f k = idle (sym k)

fits-stated : (w : LinkWords) → fits w ≡ true → Stated w.state
unfolding fits
fits-stated w h = by_two (eqb w.state 2) refl (eqb w.state 1) refl h
  where
    by_two : (s : Bool) → eqb w.state 2 ≡ s → (t : Bool) → eqb w.state 1 ≡ t
        → cond s (is_individual (record { 0 = w.address }) && eqb w.wait 0 && leb w.watchdog watchdog && leb w.periodic periodic)
        (cond t (is_individual (record { 0 = w.address }) && leb w.wait wait && eqb w.watchdog 0 && eqb w.periodic 0)
        (eqb w.state 0 && eqb w.address 0 && eqb w.wait 0 && eqb w.watchdog 0 && eqb w.periodic 0)) ≡ true
        → Stated w.state
    by_two true e t f k = registered (eqb-true w.state 2 e)
    by_two false e true f k = waiting (eqb-true w.state 1 f)
    by_two false e false f k =
        let p = parts (eqb w.state 0 && eqb w.address 0) (eqb w.wait 0) (eqb w.watchdog 0) (eqb w.periodic 0) k in
        idle (eqb-true w.state 0 ((and-eq-true_iff (eqb w.state 0) (eqb w.address 0)).0 p.0).0)

pub sounds : (w : LinkWords) → fits w ≡ true → 1 ≤ near w behind → Sounds w
sounds w f n = by_state (fits-stated w f)
  where
    by_state : Stated w.state → Sounds w
    by_state (idle e) = sounds-none w e f
    by_state (waiting e) = sounds-one w e f n
    by_state (registered e) = sounds-two w e f n

-- and no others are a sound link's
pub sound-fits : (w : LinkWords) → sound_of (link_in w) ≡ true → (fits w ≡ true) × (1 ≤ near w behind)
unfolding sound_of off
sound-fits w h =
    let p = sound-plain w h in
    by_state (stated w.state p.1) (ap sound_of (sym p.0) ∙ h)
  where
    by_state : Stated w.state → sound_of (plain (state_of w.state) w) ≡ true → (fits w ≡ true) × (1 ≤ near w behind)
    by_state (idle e) s =
        let k : sound_in Idle (plain Idle w) ≡ true = rw (state-none w e) at s in
        (none-fits w e ∙ k, rw (none-near w e behind) (omega arith))
    by_state (waiting e) s =
        let k : sound_in Waiting (plain Waiting w) ≡ true = rw (state-one w e) at s in
        let q = parts (is_individual (record { 0 = w.address })) (runs (record { left = w.wait }) wait) (eqb w.watchdog 0) (eqb w.periodic 0) k in
        let r = runs-in (record { left = w.wait }) wait q.1 in
        (one-fits w e ∙ rw (q.0, le-leb w.wait wait r.1, q.2, q.3), rw (one-near w e behind) (omega arith))
    by_state (registered e) s =
        let k : sound_in Registered (plain Registered w) ≡ true = rw (state-two w e) at s in
        let q = parts (is_individual (record { 0 = w.address })) (eqb w.wait 0) (runs (record { left = w.watchdog }) watchdog) (runs (record { left = w.periodic }) periodic) k in
        let r = runs-in (record { left = w.watchdog }) watchdog q.2 in
        let t = runs-in (record { left = w.periodic }) periodic q.3 in
        (two_fits w e ∙ rw (q.0, q.1, le-leb w.watchdog watchdog r.1, le-leb w.periodic periodic t.1), rw (two-near w e behind) (omega arith))
