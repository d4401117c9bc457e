-- What a tick does to the registration of a steady box, in each state.
-- Assumes nothing.
use Rattle.std.proofs.Common.{None}
use Prim.Native.Nat.{◌-◌, ◌≤◌, ◌<◌}
use mathlib.Core.Path.{◌≡◌, refl, sym, ap, subst, ◌∙◌}
use mathlib.Core.Bool.{false, false≢true}
use mathlib.Core.Logic.{⊎_elim}
use native.Mathlib.Omega.{arith}
use Rattle.laws.specs.Cases.{cut}
use Rattle.clock.specs.Laws.{ticked-falls, ticked-rings}
use Rattle.clock.specs.declared.Timer.{Timer}
use Rattle.box_registration.specs.Registration.{is_registered, is_registering}
use Rattle.box_registration.specs.declared.State.{State}
use Rattle.box_registration.specs.declared.State.TheVariants.{Wait, Registering, RegisterReq, Registered}
use Rattle.box_registration.specs.declared.Registration.{Registration}
use Rattle.box_processes.specs.declared.Processes.{Processes}
use Rattle.box_ticking.specs.Tick.{timed, tick_of}
use Rattle.box_laws.specs.Awaited.{timed-calm}
use Rattle.box_laws.specs.Steady.{Steady}
use Rattle.pair_box.proofs.Gauge.{watchdog-runs, wait-runs}
use Rattle.pair_box.proofs.Moves.{MovedBy, Idle, idle-unregistered, gone, unheld}
use Rattle.pair_box.proofs.Timed.{idle-timed, retry-timed, asking-timed, lost-timed, registered-timed}
use Rattle.pair_box.proofs.Transmitted.{Shut, shut-of, asking-shut, shut-still, transmitted-unregistered}

module _ (p : Processes) (s : Steady p) where
  abbrev before : Registration
  before = p.registration

  -- the second stage leaves what the first did, where no window can open
  settled : is_registering (timed p).next.registration.state ≡ false
      → ((tick_of p).next.registration ≡ (timed p).next.registration) × ((tick_of p).second ≡ None)
  unfolding tick_of
  settled e = shut-still (timed p).next (shut-of (timed p).next e (timed-calm p s.awaited))

  -- with more than one tick left the state stays, and its timer falls by one
  pub registered-ticks : before.state ≡ Registered → 1 < before.watchdog.left
      → ((tick_of p).next.registration.state ≡ Registered) × ((tick_of p).next.registration.watchdog.left ≡ before.watchdog.left - 1)
  registered-ticks e h =
      let g = ticked-falls before.watchdog h in
      let t = registered-timed p e g.0 in
      rw (settled (rw t.0)).0 (t.0, ap (λ (x : Timer). x.left) t.1 ∙ g.1)

  pub asking-ticks : before.state ≡ RegisterReq → 1 < before.wait.left
      → ((tick_of p).next.registration.state ≡ RegisterReq)
      × ((tick_of p).next.registration.wait.left ≡ before.wait.left - 1)
      × ((tick_of p).first ≡ None)
      × ((tick_of p).second ≡ None)
  unfolding tick_of
  asking-ticks e h =
      let g = ticked-falls before.wait h in
      let t = asking-timed p e g.0 in
      let x = settled (rw t.0) in
      rw x.0 (t.0, ap (λ (x : Timer). x.left) t.1 ∙ g.1, t.2, x.1)

  -- so each state moves as the pair's laws ask
  abbrev Ticks : Type 0
  Ticks = MovedBy 1 false before (tick_of p)

  idle-moves : Idle before.state → Ticks
  unfolding tick_of
  idle-moves i =
      let t = idle-timed p i in
      let x = transmitted-unregistered (timed p).next (rw t.0 (idle-unregistered before.state i)) in
      unheld i x.0 (rw t.1 tt) x.1

  retry-moves : before.state ≡ RegisterReq → before.wait.left ≤ 1 → Ticks
  unfolding tick_of
  retry-moves e h =
      let t = retry-timed p e (ticked-rings before.wait (omega (arith, (wait-runs before s.sound.registration e).0))) in
      let x = shut-still (timed p).next (subst Shut (sym t.2) (asking-shut p s.awaited e)) in
      gone (rw (x.0, t.0) tt) (λ _. (rw t.1 tt, rw x.1 tt))

  asking-moves : before.state ≡ RegisterReq → 1 < before.wait.left → Ticks
  asking-moves e h =
      let x = asking-ticks e h in
      record {
        dog = λ _ k. absurd (false≢true (ap is_registered (sym x.0 ∙ k)));
        wait = λ _ _. omega (arith, x.1);
        mute = λ _ _. (rw x.2 tt, rw x.3 tt);
      }

  lost-moves : before.state ≡ Registered → before.watchdog.left ≤ 1 → Ticks
  lost-moves e h =
      let t = lost-timed p e (ticked-rings before.watchdog (omega (arith, (watchdog-runs before s.sound.registration e).0))) in
      gone (rw ((settled (rw t)).0, t) tt) (λ n. absurd (n e))

  registered-moves : before.state ≡ Registered → 1 < before.watchdog.left → Ticks
  registered-moves e h =
      record {
        dog = λ _ _. (e, omega (arith, (registered-ticks e h).1));
        wait = λ k _. absurd (false≢true (ap is_registered (sym k ∙ e)));
        mute = λ n _. absurd (n e);
      }

  moves-in : (t : State) → before.state ≡ t → Ticks
  moves-in Wait e = idle-moves (rw e tt)
  moves-in Registering e = idle-moves (rw e tt)
  moves-in RegisterReq e = ⊎_elim (asking-moves e) (retry-moves e) (cut 1 before.wait.left)
  moves-in Registered e = ⊎_elim (registered-moves e) (lost-moves e) (cut 1 before.watchdog.left)

  pub tick-moves : Ticks
  tick-moves = moves-in before.state refl
