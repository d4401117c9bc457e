-- Lemmas: the words of a block are judged as the box in it is.
-- Assumes nothing.
use Prim.Native.Nat.{ℕ, ◌+◌, ◌-◌, ◌%◌, ◌^◌, ◌≤◌, ◌<◌, min}
use Rattle.std.specs.Prelude.{◌≡◌, refl, Bool, cond, ◌&&◌, ◌⊎◌, leb, ltb}
use Rattle.std.proofs.Math.Path.{ap}
use Rattle.std.proofs.Common.{◌∙◌, inl, inr}
use Rattle.std.proofs.Math.Bool.{true, false, and-true, and-false}
use Rattle.std.proofs.lemmas.Bool.{false≢true}
use Rattle.std.proofs.Math.Logic.{⊎_elim}
use native.Mathlib.Omega.{arith}
use borrow.Author.Tests.{lt-ltb, le-ltb, le-leb, lt-leb, ltb-false, eq-eqb, ne_eqb}
use Rattle.std.proofs.Math.Dec.{eqb}
use Rattle.laws.specs.Cases.{cut, either}
use Rattle.face_box.specs.Box.{state_word, state_of, registration_of, phase_words, discovery_of as discovering, phase_of as phasing, light_of as told}
use Rattle.clock.specs.Numbers.{furthest}
use Rattle.clock.specs.Timers.{off, runs, quiet_of}
use Rattle.clock.specs.declared.Timer.{Timer}
use Rattle.face_fields.specs.Fields.{timer_of, quanta_of}
use Rattle.face_words.specs.Laws.{joined-again}
use Rattle.face_words.specs.Words.{lower}
use Rattle.box_light.specs.Light.{laser_on_for}
use Rattle.box_light.specs.Pass.{quiet_of as light_quiet}
use Rattle.box_light.specs.Sound.{wait_fits, served}
use Rattle.box_light.specs.declared.Light.{Light}
use Rattle.box_light.specs.declared.Phase.{Phase}
use Rattle.box_light.specs.declared.Phase.TheVariants.{Rest, Before, Random, Warming, Asking, Due, Lit, Open, Fading}
use Rattle.box_registration.specs.Pass.{quiet_of as registration_quiet}
use Rattle.box_registration.specs.Sound.{sound_in}
use Rattle.face_box_pass.specs.Judging.{rings_in, times_of, fits_beside, is_served, discovery_of, light_of}

-- so many, where the test holds
abbrev pub guard : Bool → ℕ → ℕ
guard t n = cond t n 0

abbrev pub wide : ℕ → Bool
wide w = eqb (min w 4294967295) w

pub fit : (w m : ℕ) → eqb (min w m) w ≡ leb w m
fit w m =
    ⊎_elim (λ (h : m < w).
    let n : min w m ≡ m = omega arith in
    rw (n, lt-leb w m h) (ne_eqb m w (omega arith)))
    (λ (h : w ≤ m).
    let n : min w m ≡ w = omega arith in
    rw (n, le-leb w m h) (eq-eqb w w refl))
    (cut m w)

rings : (l m : ℕ) → m ≤ 4294967295 → rings_in l m ≡ guard (wide l && runs (timer_of l) m) (quiet_of (timer_of l))
unfolding rings_in runs quiet_of
rings l m k =
    ⊎_elim (λ (h : l < 1).
    let z : l ≡ 0 = omega arith in
    rw z)
    (λ (h : 1 ≤ l).
    ⊎_elim (λ (g : m < l).
    ⊎_elim (λ (f : 4294967295 < l).
    let n : min l 4294967295 ≡ 4294967295 = omega arith in
    rw (n, ne_eqb l 0 (omega arith), lt-ltb m l g, ne_eqb 4294967295 l (omega arith)))
    (λ (f : l ≤ 4294967295).
    let n : min l 4294967295 ≡ l = omega arith in
    rw (n, ne_eqb l 0 (omega arith), lt-ltb m l g, eq-eqb l l refl, le-leb 1 l h, lt-leb l m g))
    (cut 4294967295 l))
    (λ (g : l ≤ m).
    let n : min l 4294967295 ≡ l = omega arith in
    rw (n, ne_eqb l 0 (omega arith), le-ltb m l g, eq-eqb l l refl, le-leb 1 l h, le-leb l m g))
    (cut m l))
    (cut l 1)

pub none : (t : Bool) → guard t 0 ≡ 0
none true = refl
none false = refl

-- two running timers, and one stopped
pair : (a b r s : Bool) (x y : ℕ) → min (min (guard (a && r) x) (guard (b && s) y)) 65536 ≡ guard ((a && b) && (r && s)) (min 65536 (min x y))
pair false b r s x y = omega arith
pair true false r s x y = omega arith
pair true true false s x y = omega arith
pair true true true false x y = omega arith
pair true true true true x y = omega arith

-- the words of a registration's state and timers are its own
abbrev pub times_words : ℕ → ℕ → ℕ → ℕ → Bool
times_words s a b c = eqb (state_word (state_of s)) s && (wide a && (wide b && wide c))

abbrev Timely : ℕ → ℕ → ℕ → ℕ → ℕ → ℕ → Type 0
Timely s a b c p y =
    let r = registration_of s a b c p y in
    min (times_of s a b c) 65536 ≡ guard (times_words s a b c && sound_in (state_of s) r) (registration_quiet r)

-- a timer runs that should not, or one that is none's
pub unlike : (a : ℕ) → 1 ≤ a → off (timer_of a) ≡ false
unfolding off
unlike a h = ne_eqb (min a 4294967295) 0 (omega arith)

module _ (a b c p y : ℕ) where
  -- WAIT and REGISTERING
  idle : (s : ℕ) → (s ≡ 0) ⊎ (s ≡ 1) → Timely s a b c p y
  unfolding times_of state_of registration_quiet quiet_of off
  idle s h =
      ⊎_elim (λ (ha : a < 1).
      ⊎_elim (λ (hb : b < 1).
      ⊎_elim (λ (hc : c < 1).
      let za : a ≡ 0 = omega arith in
      let zb : b ≡ 0 = omega arith in
      let zc : c ≡ 0 = omega arith in
      ⊎_elim (λ (e : s ≡ 0). rw (e, za, zb, zc)) (λ (e : s ≡ 1). rw (e, za, zb, zc)) h)
      (λ (hc : 1 ≤ c).
      ⊎_elim (λ (e : s ≡ 0). rw (e, ne_eqb c 0 (omega arith), unlike c hc) (simp and-false refl)) (λ (e : s ≡ 1). rw (e, ne_eqb c 0 (omega arith), unlike c hc) (simp and-false refl)) h)
      (cut c 1))
      (λ (hb : 1 ≤ b).
      ⊎_elim (λ (e : s ≡ 0). rw (e, ne_eqb b 0 (omega arith), unlike b hb) (simp and-false refl)) (λ (e : s ≡ 1). rw (e, ne_eqb b 0 (omega arith), unlike b hb) (simp and-false refl)) h)
      (cut b 1))
      (λ (ha : 1 ≤ a).
      ⊎_elim (λ (e : s ≡ 0). rw (e, ne_eqb a 0 (omega arith), unlike a ha) (simp (and-false, none) refl)) (λ (e : s ≡ 1). rw (e, ne_eqb a 0 (omega arith), unlike a ha) (simp (and-false, none) refl)) h)
      (cut a 1)

  -- REGISTER_REQ
  request : Timely 2 a b c p y
  unfolding times_of state_of registration_quiet quiet_of off
  request =
      ⊎_elim (λ (hb : b < 1).
      ⊎_elim (λ (hc : c < 1).
      let zb : b ≡ 0 = omega arith in
      let zc : c ≡ 0 = omega arith in
      rw (zb, zc, rings a 3125000 (omega arith)) (alone (wide a) (runs (timer_of a) 3125000) (quiet_of (timer_of a))))
      (λ (hc : 1 ≤ c). rw (ne_eqb c 0 (omega arith), unlike c hc) (simp and-false refl))
      (cut c 1))
      (λ (hb : 1 ≤ b). rw (ne_eqb b 0 (omega arith), unlike b hb) (simp and-false refl))
      (cut b 1)
    where
      alone : (t r : Bool) (q : ℕ) → min (guard (t && r) q) 65536 ≡ guard ((t && (true && true)) && ((r && true) && true)) (min q (min 65536 65536))
      alone false r q = omega arith
      alone true false q = omega arith
      alone true true q = omega arith

  -- REGISTERED
  registered : Timely 3 a b c p y
  unfolding times_of state_of registration_quiet quiet_of off
  registered =
      ⊎_elim (λ (ha : a < 1).
      let za : a ≡ 0 = omega arith in
      rw (za, rings b 62500000 (omega arith), rings c 3125000 (omega arith))
      (pair (wide b) (wide c) (runs (timer_of b) 62500000) (runs (timer_of c) 3125000) (quiet_of (timer_of b)) (quiet_of (timer_of c))))
      (λ (ha : 1 ≤ a). rw (ne_eqb a 0 (omega arith), unlike a ha) (simp and-false refl))
      (cut a 1)

  -- no state's word
  no-state : (s : ℕ) → 4 ≤ s → Timely s a b c p y
  unfolding times_of state_of
  no-state s h =
      rw (ne_eqb s 1 (omega arith), ne_eqb s 2 (omega arith), ne_eqb s 3 (omega arith), le-ltb s 2 (omega arith), ne_eqb 0 s (omega arith))
      (simp none refl)

  pub times-is : (s : ℕ) → Timely s a b c p y
  times-is s =
      ⊎_elim (λ (h : s < 2). idle s (⊎_elim (λ (k : s < 1). inl (omega arith)) (λ (k : 1 ≤ s). inr (omega arith)) (cut s 1)))
      (λ (h : 2 ≤ s).
      ⊎_elim (λ (k : s < 3).
      let e : s ≡ 2 = omega arith in
      rw e request)
      (λ (k : 3 ≤ s).
      ⊎_elim (λ (g : s < 4).
      let e : s ≡ 3 = omega arith in
      rw e registered)
      (λ (g : 4 ≤ s). no-state s g)
      (cut s 4))
      (cut s 3))
      (cut s 2)

-- the transmitter's soundness, but for the list
abbrev apart_in : Phase → Timer → Bool
apart_in Rest t = off t
apart_in (Before random sync) t = runs t furthest && wait_fits random.0 sync
apart_in (Random sync) t = runs t 65535 && wait_fits t.left sync
apart_in Warming t = runs t 65461
apart_in Asking t = runs t 42
apart_in (Due entry sync) t = runs t (2 ^ 31 - 1) && served entry.length sync
apart_in (Lit length sync) t = runs t (laser_on_for sync).left && served length sync
apart_in Open t = runs t 65471
apart_in Fading t = runs t 32

abbrev pub apart : Light → Bool
apart l = apart_in l.phase l.timer

-- the words of a transmitter are its own
abbrev pub light_same : ℕ → ℕ → ℕ → ℕ → Light → Bool
light_same p l g y t =
    let w = phase_words t.phase in
    eqb w.phase p && (eqb t.timer.left l && (eqb w.grant g && eqb w.sync y))

abbrev Lights : ℕ → ℕ → ℕ → ℕ → Type 0
Lights p l g y =
    light_of p l g y ≡ guard (light_same p l g y (told p l g y) && apart (told p l g y)) (light_quiet (told p l g y))

-- what needs room beside a grant
beside : (n y : ℕ) → fits_beside n y ≡ (wide n && (wide y && wait_fits (min n 4294967295) (quanta_of y)))
unfolding fits_beside wait_fits
beside n y =
    ⊎_elim (λ (h : 65429 < y).
    rw (lt-ltb 65429 y h, lt-leb (32 + min y 4294967295 + 42 + 32 + min n 4294967295) 65535 (omega arith)) (simp and-false refl))
    (λ (h : y ≤ 65429).
    let e : min y 4294967295 ≡ y = omega arith in
    ⊎_elim (λ (k : 65429 - y < n).
    rw (le-ltb 65429 y h, lt-leb n (65429 - y) k, e, lt-leb (32 + y + 42 + 32 + min n 4294967295) 65535 (omega arith)) (simp and-false refl))
    (λ (k : n ≤ 65429 - y).
    let f : min n 4294967295 ≡ n = omega arith in
    rw (le-ltb 65429 y h, le-leb n (65429 - y) k, e, f, eq-eqb y y refl, eq-eqb n n refl, le-leb (32 + y + 42 + 32 + n) 65535 (omega arith)))
    (cut (65429 - y) n))
    (cut 65429 y)

-- a length that serves
serves : (n y : ℕ) → is_served n y ≡ (wide y && served (record { 0 = n }) (quanta_of y))
unfolding is_served served
serves n y =
    ⊎_elim (λ (h : 65429 < y).
    ⊎_elim (λ (k : n < 32 + min y 4294967295 + 42 + 32). rw (lt-ltb 65429 y h, lt-leb (32 + min y 4294967295 + 42 + 32) n k) (simp and-false refl))
    (λ (k : 32 + min y 4294967295 + 42 + 32 ≤ n). rw (lt-ltb 65429 y h, lt-leb n 65535 (omega arith)) (simp and-false refl))
    (cut n (32 + min y 4294967295 + 42 + 32)))
    (λ (h : y ≤ 65429).
    let e : min y 4294967295 ≡ y = omega arith in
    let f : 106 + y ≡ 32 + y + 42 + 32 = omega arith in
    rw (le-ltb 65429 y h, e, eq-eqb y y refl, f))
    (cut 65429 y)

-- tests in the code's order, and in the page's
beside-join : (a b c r f : Bool) (q : ℕ) → guard (b && (c && f)) (guard (a && r) q) ≡ guard ((a && (b && c)) && (r && f)) q
beside-join false b c r f q = none (b && (c && f))
beside-join true false c r f q = refl
beside-join true true false r f q = refl
beside-join true true true false f q = none f
beside-join true true true true false q = refl
beside-join true true true true true q = refl

itself-join : (a c r f : Bool) (q : ℕ) → guard (a && (c && f)) (guard (a && r) q) ≡ guard ((a && c) && (r && f)) q
itself-join false c r f q = refl
itself-join true false r f q = refl
itself-join true true false f q = none f
itself-join true true true false q = refl
itself-join true true true true q = refl

served-join : (a c r f : Bool) (q : ℕ) → guard (c && f) (guard (a && r) q) ≡ guard ((a && c) && (r && f)) q
served-join false c r f q = none (c && f)
served-join true false r f q = refl
served-join true true false f q = none f
served-join true true true false q = refl
served-join true true true true q = refl

-- a phase that holds neither a grant nor a sync time
bare : (l g y m : ℕ) → m ≤ 4294967295
    → guard (eqb g 0 && eqb y 0) (rings_in l m) ≡ guard ((wide l && (eqb 0 g && eqb 0 y)) && runs (timer_of l) m) (quiet_of (timer_of l))
bare l g y m k =
    ⊎_elim (λ (h : g < 1).
    ⊎_elim (λ (f : y < 1).
    let zg : g ≡ 0 = omega arith in
    let zy : y ≡ 0 = omega arith in
    rw (zg, zy, rings l m k, and-true (wide l)))
    (λ (f : 1 ≤ y). rw (ne_eqb y 0 (omega arith), ne_eqb 0 y (omega arith)) (simp and-false refl))
    (cut y 1))
    (λ (h : 1 ≤ g). rw (ne_eqb g 0 (omega arith), ne_eqb 0 g (omega arith)) (simp and-false refl))
    (cut g 1)

too_long : (g y : ℕ) → 65535 < g → is_served g y ≡ false
unfolding is_served
too_long g y k =
    either (λ (x : Bool). x ≡ false) (ltb 65429 y) false (leb (106 + y) g && leb g 65535)
    (λ _. refl)
    (λ _. rw (lt-leb g 65535 k) (and-false (leb (106 + y) g)))

-- of a length that serves, both words fit
serves-wide : (g y : ℕ) → is_served g y ≡ (wide g && (wide y && served (quanta_of g) (quanta_of y)))
serves-wide g y =
    ⊎_elim (λ (h : 4294967295 < g).
    let e : min g 4294967295 ≡ 4294967295 = omega arith in
    rw (e, ne_eqb 4294967295 g (omega arith)) (too_long g y (omega arith)))
    (λ (h : g ≤ 4294967295).
    let e : min g 4294967295 ≡ g = omega arith in
    rw (e, eq-eqb g g refl) (serves g y))
    (cut 4294967295 g)

pub serves-sync : (g y : ℕ) → is_served g y ≡ true → y ≤ 65429
unfolding is_served
serves-sync g y =
    either (λ (x : Bool). x ≡ true → y ≤ 65429) (ltb 65429 y) false (leb (106 + y) g && leb g 65535)
    (λ _ f. absurd (false≢true f))
    (λ f _. ltb-false 65429 y f)

-- what a choice is where its test holds
pub inside : (t : Bool) (x y : ℕ) → (t ≡ true → x ≡ y) → guard t x ≡ guard t y
inside true x y f = f refl
inside false x y f = refl

module _ (l g y : ℕ) where
  before : Lights 1 l g y
  unfolding light_of discovery_of phasing discovering light_quiet
  before =
      rw (beside g y, rings l 62500000 (omega arith))
      (beside-join (wide l) (wide g) (wide y) (runs (timer_of l) 62500000) (wait_fits (min g 4294967295) (quanta_of y)) (quiet_of (timer_of l)))

  random : Lights 2 l g y
  unfolding light_of discovery_of phasing discovering light_quiet
  random =
      ⊎_elim (λ (h : g < 1).
      let z : g ≡ 0 = omega arith in
      rw (z, beside l y, rings l 65535 (omega arith))
      (itself-join (wide l) (wide y) (runs (timer_of l) 65535) (wait_fits (min l 4294967295) (quanta_of y)) (quiet_of (timer_of l))))
      (λ (h : 1 ≤ g). rw (ne_eqb g 0 (omega arith), ne_eqb 0 g (omega arith)) (simp and-false refl))
      (cut g 1)

  warming : Lights 3 l g y
  unfolding light_of discovery_of phasing discovering light_quiet
  warming = bare l g y 65461 (omega arith)

  asking : Lights 4 l g y
  unfolding light_of discovery_of phasing discovering light_quiet
  asking = bare l g y 42 (omega arith)

  due : Lights 5 l g y
  unfolding light_of phasing light_quiet
  due =
      rw (serves (lower g) y, rings l 2147483647 (omega arith), joined-again g, eq-eqb g g refl)
      (served-join (wide l) (wide y) (runs (timer_of l) 2147483647) (served (record { 0 = lower g }) (quanta_of y)) (quiet_of (timer_of l)))

  lit : Lights 6 l g y
  unfolding light_of phasing light_quiet laser_on_for
  lit =
      let m = (32 + min y 4294967295) % 4294967296 in
      inside (is_served g y) (rings_in l (32 + y)) (rings_in l m) (λ h.
      let e : 32 + y ≡ m = omega (arith, serves-sync g y h) in
      ap (rings_in l) e)
      ∙ rw (serves-wide g y, rings l m (omega arith))
      (beside-join (wide l) (wide g) (wide y) (runs (timer_of l) m) (served (quanta_of g) (quanta_of y)) (quiet_of (timer_of l)))

  opened : Lights 7 l g y
  unfolding light_of phasing light_quiet
  opened = bare l g y 65471 (omega arith)

  fading : Lights 8 l g y
  unfolding light_of discovery_of phasing discovering light_quiet
  fading = bare l g y 32 (omega arith)

  -- no phase's word
  no-phase : (p : ℕ) → 9 ≤ p → Lights p l g y
  unfolding light_of discovery_of phasing discovering
  no-phase p h =
      rw (ne_eqb p 1 (omega arith), ne_eqb p 2 (omega arith), ne_eqb p 3 (omega arith), ne_eqb p 4 (omega arith), ne_eqb p 5 (omega arith), ne_eqb p 6 (omega arith), ne_eqb p 7 (omega arith), ne_eqb p 8 (omega arith), ne_eqb 0 p (omega arith))
      (none (eqb g 0 && eqb y 0))

  pub light-is : (p : ℕ) → 1 ≤ p → Lights p l g y
  light-is p h =
      ⊎_elim (λ (k1 : p < 5).
      ⊎_elim (λ (k2 : p < 3).
      ⊎_elim (λ (k3 : p < 2).
      let e : p ≡ 1 = omega arith in
      rw e before)
      (λ (k4 : 2 ≤ p).
      let e : p ≡ 2 = omega arith in
      rw e random)
      (cut p 2))
      (λ (k5 : 3 ≤ p).
      ⊎_elim (λ (k6 : p < 4).
      let e : p ≡ 3 = omega arith in
      rw e warming)
      (λ (k7 : 4 ≤ p).
      let e : p ≡ 4 = omega arith in
      rw e asking)
      (cut p 4))
      (cut p 3))
      (λ (k8 : 5 ≤ p).
      ⊎_elim (λ (k9 : p < 7).
      ⊎_elim (λ (k10 : p < 6).
      let e : p ≡ 5 = omega arith in
      rw e due)
      (λ (k11 : 6 ≤ p).
      let e : p ≡ 6 = omega arith in
      rw e lit)
      (cut p 6))
      (λ (k12 : 7 ≤ p).
      ⊎_elim (λ (k13 : p < 8).
      let e : p ≡ 7 = omega arith in
      rw e opened)
      (λ (k14 : 8 ≤ p).
      ⊎_elim (λ (k15 : p < 9).
      let e : p ≡ 8 = omega arith in
      rw e fading)
      (λ (k16 : 9 ≤ p). no-phase p k16)
      (cut p 9))
      (cut p 8))
      (cut p 7))
      (cut p 5)
