-- The light of a window: dark ticks before it, the phases in which its laser settles, sends and fades, and what is told.
-- Assumes nothing.
use Prim.Native.Nat.{ℕ, suc, ◌+◌, ◌-◌, ◌≤◌, ◌<◌}
use mathlib.Core.Path.{◌≡◌, refl, ap, ◌∙◌}
use mathlib.Core.Bool.{true, false, cond}
use mathlib.Core.List.{[], ◌∷◌}
use mathlib.Core.Logic.{⊎_elim}
use native.Mathlib.Omega.{arith}
use Rattle.laws.specs.Cases.{cut}
use Rattle.clock.specs.Laws.{passed-left}
use Rattle.clock.specs.Numbers.{laser_on, laser_off}
use Rattle.clock.specs.declared.Timer.{Timer}
use Rattle.box_light.specs.Light.{light_in, fading, rests, shines, is_on, glows, is_lit, sends, remaining}
use Rattle.box_light.specs.Pass.{passed_of}
use Rattle.box_light.specs.Tick.{after}
use Rattle.box_light.specs.declared.Phase.{Phase}
use Rattle.box_light.specs.declared.Phase.TheVariants.{Fading}
use Rattle.box_registration.specs.declared.State.{State}
use Rattle.box_telling.specs.Told.{no_notices, notices_of}
use Rattle.box_telling.specs.declared.Notice.{Notice}
use Rattle.box_processes.specs.Parts.{with_light}
use Rattle.box_processes.specs.declared.Processes.{Processes}
use Rattle.box_ticking.specs.Tick.{shine}
use Rattle.box_calls.specs.Box.{tick_of}
use Rattle.box_calls.specs.declared.FloorBox.{FloorBox}
use Rattle.box_laws.specs.Served.{ticks_on, light_at, Lights, told_at, Tells}
use Rattle.box_laws.proofs.Lasting.{Lasts, Leaves, Ended, from, light, light-from, told-from, weaker, on, next, mute-on, told-last, mute-all, rest-next}

-- the laser j ticks on in a phase
pub seen : (f : Phase) (t : Timer) (j : ℕ)
    → (is_on (passed_of (light_in f t) j) ≡ shines f) × (is_lit (passed_of (light_in f t) j) ≡ glows f)
    × (remaining (passed_of (light_in f t) j) ≡ cond (sends f) (t.left - j) 0)
unfolding passed_of
seen f t j = (refl, refl, ap (λ (n : ℕ). cond (sends f) n 0) (passed-left t j))

-- dark and silent for d ticks
pub record Dark (d : ℕ) (b : FloorBox) : Type 0 where
  pub lit : (k : ℕ) → k < d → is_lit (light_at k b) ≡ false
  pub sends : (k : ℕ) → k < d → remaining (light_at k b) ≡ 0
  pub tells : (k : ℕ) → k < d → told_at k b ≡ no_notices

-- a phase that waits is dark to its end
pub waits-dark : (s : State) (n w : ℕ) (b : FloorBox) (t : Timer) → t.left ≡ suc n → Lasts s (suc n + w) b → (f : Phase) → light b ≡ light_in f t
    → rests f ≡ false → glows f ≡ false → sends f ≡ false
    → ((q : Processes) → (shine (after f).beam (with_light q (after f).light)).notice ≡ Notice.Nothing) → Dark (suc n) b
waits-dark s n w b t h o f is r g e m =
    let at : (k : ℕ) → k < suc n → light_at k b ≡ passed_of (light_in f t) k = λ k i. (on s n w b t h o f is r k (omega arith)).light in
    record {
      lit = λ k i. rw (at k i) ((seen f t k).1 ∙ g);
      sends = λ k i. rw (at k i) ((seen f t k).2 ∙ rw e);
      tells = λ k i. mute-all s n w b t h o f is r m k (omega arith);
    }

-- what comes behind them
module _ (d n sync : ℕ) (b : FloorBox) (z : Dark d b) (h : laser_off ≤ n) where
  pub lights-behind : Lights 0 n sync (ticks_on d b) → Lights d n sync b
  lights-behind l =
      record {
        dark = z.lit;
        on = λ k m x. rw (light-from d k b m) (l.on (k - d) (omega arith) (omega arith));
        settles =
            λ k x.
            ⊎_elim (z.sends k) (λ (m : d ≤ k). rw (light-from d k b m) (l.settles (k - d) (omega arith))) (cut k d);
        sends = λ k m x. rw (light-from d k b (omega arith)) (l.sends (k - d) (omega arith) (omega arith) ∙ omega arith);
        fades = λ k m x. rw (light-from d k b (omega arith)) (l.fades (k - d) (omega arith) (omega arith));
      }

  pub tells-behind : (x y : Notice) → Tells x y 0 n sync (ticks_on d b) → laser_on + sync + laser_off < n → Tells x y d n sync b
  tells-behind x y t i =
      record {
        opens = λ k e. rw (told-from d k b (omega arith)) (t.opens (k - d) (omega arith));
        closes = λ k e. rw (told-from d k b (omega arith)) (t.closes (k - d) (omega arith));
        silent =
            λ k m u v.
            ⊎_elim (z.tells k) (λ (e : d ≤ k). rw (told-from d k b e) (t.silent (k - d) (omega arith) (omega arith) (omega arith))) (cut k d);
      }

-- the laser settles in the phase f, transmission is enabled in the phase g, and then it fades
pub record Burns (s v : State) (n m w : ℕ) (f g : Phase) (x y : Notice) (t u : Timer) (b : FloorBox) : Type 0 where
  pub lasts : Lasts s (suc n + w) b
  pub first : light b ≡ light_in f t
  pub settling : t.left ≡ suc n
  pub sending : u.left ≡ suc m
  pub opens : (c : FloorBox) → Lasts s (suc w) c → (r : Timer) → light c ≡ light_in f r → r.left ≡ 1
      → Leaves v (suc m + laser_off) (light_in g u) c.processes.list c (tick_of c).next
  pub closes : (c : FloorBox) → Lasts v (suc laser_off) c → (r : Timer) → light c ≡ light_in g r → r.left ≡ 1
      → Leaves v laser_off fading c.processes.list c (tick_of c).next
  pub busy : (rests f ≡ false) × (rests g ≡ false)
  pub on : (shines f ≡ true) × (shines g ≡ true)
  pub enabled : (sends f ≡ false) × (sends g ≡ true)
  pub told : (q : Processes)
      → ((shine (after f).beam (with_light q (after f).light)).notice ≡ x) × ((shine (after g).beam (with_light q (after g).light)).notice ≡ y)

module _ {s v : State} {n m w : ℕ} {f g : Phase} {x y : Notice} {t u : Timer} {b : FloorBox} (z : Burns s v n m w f g x y t u b) where
  abbrev b₁ : FloorBox
  b₁ = ticks_on (suc n) b

  abbrev b₂ : FloorBox
  b₂ = ticks_on (suc m) b₁

  opened : Leaves v (suc m + laser_off) (light_in g u) b.processes.list b b₁
  opened = next s n w b t z.settling z.lasts f z.first z.busy.0 v (suc m + laser_off) (light_in g u) (λ l. l) z.opens

  closed : Leaves v laser_off fading b₁.processes.list b₁ b₂
  closed = next v m laser_off b₁ u z.sending opened.lasts g opened.light z.busy.1 v laser_off fading (λ l. l) z.closes

  lasts-fading : Lasts v (suc 31 + 0) b₂
  lasts-fading = weaker v laser_off (suc 31 + 0) b₂ (omega arith) closed.lasts

  -- the light k ticks on
  settling-at : (k : ℕ) → k < suc n → light_at k b ≡ passed_of (light_in f t) k
  settling-at k h = (on s n w b t z.settling z.lasts f z.first z.busy.0 k (omega arith)).light

  sending-at : (k : ℕ) → suc n ≤ k → k < suc n + suc m → light_at k b ≡ passed_of (light_in g u) (k - suc n)
  sending-at k h l =
      light-from (suc n) k b h
      ∙ (on v m laser_off b₁ u z.sending opened.lasts g opened.light z.busy.1 (k - suc n) (omega arith)).light

  fading-at : (k : ℕ) → suc n + suc m ≤ k → k < suc n + suc m + laser_off → light_at k b ≡ passed_of fading (k - suc n - suc m)
  fading-at k h l =
      light-from (suc n) k b (omega arith)
      ∙ light-from (suc m) (k - suc n) b₁ (omega arith)
      ∙ (on v 31 0 b₂ (record { left = laser_off }) refl lasts-fading Fading closed.light refl (k - suc n - suc m) (omega arith)).light

  -- what the tick behind k others tells
  settling-mute : (k : ℕ) → k < n → told_at k b ≡ no_notices
  settling-mute k h = mute-on s n w b t z.settling z.lasts f z.first z.busy.0 k h

  opens-told : told_at n b ≡ notices_of (x ∷ [])
  opens-told = told-last s n w b t z.settling z.lasts f z.first z.busy.0 x (λ q. (z.told q).0)

  sending-mute : (k : ℕ) → k < m → told_at k b₁ ≡ no_notices
  sending-mute k h = mute-on v m laser_off b₁ u z.sending opened.lasts g opened.light z.busy.1 k h

  closes-told : told_at m b₁ ≡ notices_of (y ∷ [])
  closes-told = told-last v m laser_off b₁ u z.sending opened.lasts g opened.light z.busy.1 y (λ q. (z.told q).1)

  fading-mute : (k : ℕ) → k ≤ 31 → told_at k b₂ ≡ no_notices
  fading-mute k h =
      mute-all v 31 0 b₂ (record { left = laser_off }) refl lasts-fading Fading closed.light refl (λ q. refl) k h

  -- at the end
  pub end : Ended v b.processes.list b (ticks_on (suc n + suc m + laser_off) b)
  end =
      let r = rest-next v 31 0 b₂ (record { left = laser_off }) refl lasts-fading closed.light in
      let k = suc n + suc m + laser_off in
      let j : k - suc n - suc m ≡ laser_off = omega arith in
      record {
        rests = r.rests;
        is = rw (from (suc n) k b (omega arith), from (suc m) (k - suc n) b₁ (omega arith), j) r.is;
        list = r.list ∙ closed.list ∙ opened.list;
        light = r.light;
        state = r.state;
        sync = r.sync ∙ closed.sync ∙ opened.sync;
      }

  -- of a length that is just these three
  module _ (length sync : ℕ) (whole : length ≡ suc n + suc m + laser_off) (on-time : laser_on + sync ≡ suc n) where
    pub lights-of : Lights 0 length sync b
    lights-of =
        record {
          dark = λ k h. absurd (omega arith);
          on =
              λ k h l.
              ⊎_elim (λ (i : k < suc n). rw (settling-at k i) ((seen f t k).0 ∙ z.on.0))
              (λ (i : suc n ≤ k). rw (sending-at k i (omega arith)) ((seen g u (k - suc n)).0 ∙ z.on.1))
              (cut k (suc n));
          settles = λ k l. rw (settling-at k (omega arith)) ((seen f t k).2 ∙ rw z.enabled.0);
          sends =
              λ k h l.
              rw (sending-at k (omega arith) (omega arith)) ((seen g u (k - suc n)).2 ∙ rw z.enabled.1 (omega (arith, z.sending)));
          fades = λ k h l. rw (fading-at k (omega arith) (omega arith)) (seen Fading (record { left = laser_off }) (k - suc n - suc m));
        }

    pub tells-of : Tells x y 0 length sync b
    tells-of =
        record {
          opens =
              λ k e.
              let j : k ≡ n = omega arith in
              rw j opens-told;
          closes =
              λ k e.
              let j : k - suc n ≡ m = omega arith in
              told-from (suc n) k b (omega arith) ∙ rw j closes-told;
          silent =
              λ k h i j.
              ⊎_elim (λ (c : k < suc n). settling-mute k (omega arith))
              (λ (c : suc n ≤ k).
              ⊎_elim (λ (d : k < suc n + suc m). told-from (suc n) k b c ∙ sending-mute (k - suc n) (omega arith))
              (λ (d : suc n + suc m ≤ k). told-from (suc n) k b c ∙ told-from (suc m) (k - suc n) b₁ (omega arith) ∙ fading-mute (k - suc n - suc m) (omega arith))
              (cut k (suc n + suc m)))
              (cut k (suc n));
        }
