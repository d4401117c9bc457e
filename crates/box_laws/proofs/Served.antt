-- The laser serves a grant: it is waited for, lit, open and fading, and what comes at its end.
-- Assumes nothing.
use Rattle.std.proofs.Common.{Some}
use Prim.Native.Nat.{ℕ, zero, suc, ◌+◌, ◌-◌, ◌^◌, ◌≤◌}
use mathlib.Core.Path.{◌≡◌, refl, ap, ◌∙◌}
use mathlib.Core.Bool.{false, ◌&&◌}
use mathlib.Core.List.{[], ◌∷◌}
use native.Mathlib.Omega.{arith}
use borrow.Author.Tests.{le-leb}
use lib.IntN.{pos}
use lib.ListN.{length}
use Rattle.laws.specs.Cases.{either}
use Rattle.clock.specs.Counts.{distance, is_past, reach}
use Rattle.clock.specs.Laws.{runs-in}
use Rattle.clock.specs.Numbers.{laser_on, laser_off, needed}
use Rattle.clock.specs.declared.Quanta.{Quanta}
use Rattle.clock.specs.declared.Span.{Span}
use Rattle.clock.specs.declared.Timer.{Timer}
use Rattle.box_grants.specs.Activation.{remove, settle}
use Rattle.box_grants.specs.Keeps.{remove-shorter, listed-room}
use Rattle.box_grants.specs.Laws.{packed-list}
use Rattle.box_grants.specs.Listed.{list_of, packed, choose_of}
use Rattle.box_grants.specs.declared.GrantList.{GrantList}
use Rattle.box_light.proofs.Laws.{served-in, due-parts, on-for}
use Rattle.box_light.specs.Light.{light_in, resting, fading, laser_on_for, open_for, is_at_rest}
use Rattle.box_light.specs.declared.Phase.TheVariants.{Due, Lit, Open}
use Rattle.box_registration.specs.Registration.{is_registered}
use Rattle.box_registration.specs.declared.State.TheVariants.{Registered}
use Rattle.box_telling.specs.declared.Notice.{Notice}
use Rattle.box_processes.specs.declared.Processes.{Processes}
use Rattle.box_activation.specs.Activation.{light_up, begin, activate}
use Rattle.box_calls.specs.Box.{tick_of}
use Rattle.box_calls.specs.declared.FloorBox.{FloorBox}
use Rattle.box_laws.specs.Activation.{held-registered}
use Rattle.box_laws.proofs.Runs.{run_holds}
use Rattle.box_laws.specs.Served.{ticks_on, light_at, Lights, Tells, Waits, Serves, GrantServed}
use Rattle.box_laws.specs.Sound.{registered-is}
use Rattle.box_laws.proofs.Activated.{activate-leaves}
use Rattle.box_laws.proofs.Lasting.{Lasts, Leaves, Ended, on-time, left_as, rung, from, light, weaker, next}
use Rattle.box_laws.proofs.Lit.{Dark, waits-dark, lights-behind, tells-behind, Burns, end, lights-of, tells-of}

-- THE LAST TICK of each phase
module _ (w : ℕ) (b : FloorBox) (o : Lasts Registered (suc w) b) (t : Timer) (h : t.left ≡ 1) where
  due-ends : (e : Span) (sync : Quanta) → light b ≡ light_in (Due e sync) t
      → Leaves Registered w (light_in (Lit e.length sync) (laser_on_for sync)) (packed (remove e (list_of b.processes.list))) b (tick_of b).next
  unfolding light_up
  due-ends e sync is =
      left_as Registered w b o _ (rung Registered w b o (light_in (Due e sync) t) is h) (packed (remove e (list_of b.processes.list))) refl refl
      (ap (λ (g : GrantList). packed (remove e (list_of g))) (on-time Registered w b o).list)

  lit-ends : (length sync : Quanta) → light b ≡ light_in (Lit length sync) t
      → Leaves Registered w (light_in Open (open_for length sync)) b.processes.list b (tick_of b).next
  lit-ends length sync is =
      left_as Registered w b o _ (rung Registered w b o (light_in (Lit length sync) t) is h) b.processes.list refl refl (on-time Registered w b o).list

  open-ends : light b ≡ light_in Open t → Leaves Registered w fading b.processes.list b (tick_of b).next
  open-ends is = left_as Registered w b o _ (rung Registered w b o (light_in Open t) is h) b.processes.list refl refl (on-time Registered w b o).list

-- AFTER THE END
-- nothing to choose from
none-lit : (r : Processes) → r.light ≡ resting → r.list ≡ packed [] → (activate r).light ≡ resting
unfolding activate choose_of settle
none-lit r e l =
    rw l
    (either (λ (x : Processes). x.light ≡ resting) (is_at_rest r.light && is_registered r.registration.state) _ _ (λ _. e) (λ _. e))

-- one that starts now
now-ahead : (now start : ℕ) → distance now start ≡ pos 0 → (is_past now start ≡ false) × (reach now start ≡ Some (record { 0 = 0 }))
unfolding is_past reach
now-ahead now start e = (rw e, rw e)

pub chosen-one : (now need : ℕ) (s : GrantList) (x : Span) → list_of s ≡ x ∷ [] → is_past now x.start.0 ≡ false → need ≤ x.length.0
    → choose_of now need s ≡ record { list = packed (x ∷ []); chosen = Some x }
unfolding choose_of settle
chosen-one now need s x e a f = rw (e, a, le-leb need x.length.0 f)

one-lit : (r : Processes) (x : Span) → r.light ≡ resting → r.registration.state ≡ Registered → list_of r.list ≡ x ∷ []
    → distance r.count.0 x.start.0 ≡ pos 0 → needed r.registration.sync.0 ≤ x.length.0
    → (activate r).light ≡ light_in (Lit x.length r.registration.sync) (laser_on_for r.registration.sync)
unfolding activate begin light_up
one-lit r x e i l d f =
    let a = now-ahead r.count.0 x.start.0 d in
    rw (e, i, chosen-one r.count.0 (needed r.registration.sync.0) r.list x l a.0 f, a.1)

-- THE WHOLE
-- what a sound box that waits for a grant stands on
record Sure (d : ℕ) (e : Span) (sync : Quanta) (b : FloorBox) : Type 0 where
  some : 1 ≤ d
  long : needed sync.0 ≤ e.length.0
  short : e.length.0 ≤ 65535
  state : b.processes.registration.state ≡ Registered

sure : (d : ℕ) (e : Span) (sync : Quanta) (b : FloorBox) → Waits d e sync b → Sure d e sync b
sure d e sync b u =
    let p = b.processes in
    let s = (run_holds u.reached).processes.sound in
    let t : Timer = record { left = d } in
    let x = due-parts t e sync p.list (rw u.due at s.light) in
    let f = served-in e.length sync x.2 in
    record {
      some = (runs-in t (2 ^ 31 - 1) x.0).0;
      long = f.0;
      short = f.1;
      state = registered-is p.registration.state (held-registered p s e x.1);
    }

open-for : (length sync : Quanta) → (open_for length sync).left ≡ length.0 - (laser_on + sync.0 + laser_off)
unfolding open_for
open-for length sync = refl

module _ (d : ℕ) (e : Span) (sync : Quanta) (b : FloorBox) (u : Waits (suc d) e sync b) (f : Sure (suc d) e sync b) where
  abbrev whole : ℕ
  whole = e.length.0

  -- one less than the ticks of each phase
  abbrev n : ℕ
  n = laser_on + sync.0 - 1

  abbrev m : ℕ
  m = whole - (laser_on + sync.0 + laser_off) - 1

  parts : whole ≡ suc n + suc m + laser_off
  parts = omega (arith, f.long)

  abbrev left : GrantList
  left = packed (remove e (list_of b.processes.list))

  abbrev due : Timer
  due = record { left = suc d }

  lasts : Lasts Registered (suc d + whole) b
  lasts = record { reached = u.reached; state = f.state; enough = u.lasts }

  abbrev b₁ : FloorBox
  b₁ = ticks_on (suc d) b

  lit : Leaves Registered whole (light_in (Lit e.length sync) (laser_on_for sync)) left b b₁
  lit =
      next Registered d whole b due refl lasts (Due e sync) u.due refl Registered whole (light_in (Lit e.length sync) (laser_on_for sync))
      (λ g. packed (remove e (list_of g))) (λ x o t i h. due-ends whole x o t h e sync i)

  burns : Burns Registered Registered n m (suc m + laser_off) (Lit e.length sync) Open Notice.Open Notice.Close (laser_on_for sync) (open_for e.length sync) b₁
  burns =
      record {
        lasts = weaker Registered whole (suc n + (suc m + laser_off)) b₁ (omega (arith, parts)) lit.lasts;
        first = lit.light;
        settling = omega (arith, on-for sync (omega (arith, f.long, f.short)));
        sending = omega (arith, open-for e.length sync, f.long);
        opens = λ c o r i h. lit-ends (suc m + laser_off) c o r h e.length sync i;
        closes = λ c o r i h. open-ends laser_off c o r h i;
        busy = (refl, refl);
        on = (refl, refl);
        enabled = (refl, refl);
        told = λ q. (refl, refl);
      }

  dark : Dark (suc d) b
  dark = waits-dark Registered d whole b due refl lasts (Due e sync) u.due refl refl refl (λ q. refl)

  lights : Lights (suc d) whole sync.0 b
  lights =
      lights-behind (suc d) whole sync.0 b dark (omega (arith, f.long))
      (lights-of burns whole sync.0 parts (omega arith))

  tells : Tells Notice.Open Notice.Close (suc d) whole sync.0 b
  tells =
      tells-behind (suc d) whole sync.0 b dark (omega (arith, f.long)) Notice.Open Notice.Close
      (tells-of burns whole sync.0 parts (omega arith))
      (omega (arith, f.long))

  -- at the end
  ended : Ended Registered b₁.processes.list b₁ (ticks_on (suc d + whole) b)
  ended =
      let z : suc d + whole - suc d ≡ suc n + suc m + laser_off = omega (arith, parts) in
      rw (from (suc d) (suc d + whole) b (omega arith), z)
      (end burns)

  end_list : ended.rests.list ≡ left
  end_list = ended.list ∙ lit.list

  end-sync : ended.rests.registration.sync ≡ b.processes.registration.sync
  end-sync = ended.sync ∙ lit.sync

  end-light : light_at (suc d + whole) b ≡ (activate ended.rests).light
  end-light = ap (λ (p : Processes). p.light) ended.is

  end-count : (ticks_on (suc d + whole) b).processes.count ≡ ended.rests.count
  end-count = ap (λ (p : Processes). p.count) ended.is ∙ (activate-leaves ended.rests).0

  room : length (remove e (list_of b.processes.list)) ≤ 16
  room = omega (arith, remove-shorter e (list_of b.processes.list), listed-room b.processes.list)

  serves : Serves (suc d) e sync b
  serves =
      record {
        lights = lights;
        tells = tells;
        ends = λ h. end-light ∙ none-lit ended.rests ended.light (end_list ∙ ap packed h);
        next =
            λ x h c m.
            end-light
            ∙ one-lit ended.rests x ended.light ended.state
            (ap list_of end_list ∙ packed-list (remove e (list_of b.processes.list)) room ∙ h) (rw end-count at c) (rw end-sync m)
            ∙ ap (λ (q : Quanta). light_in (Lit x.length q) (laser_on_for q)) end-sync;
      }

pub grant-served : GrantServed
unfolding GrantServed
grant-served zero e sync b u = absurd (omega (arith, (sure zero e sync b u).some))
grant-served (suc d) e sync b u = serves d e sync b u (sure (suc d) e sync b u)
