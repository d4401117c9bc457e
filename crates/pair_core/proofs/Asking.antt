-- A fresh box on its way to REGISTER_REQ: what its calls leave of its processes, whatever its address.
-- Assumes nothing.
use Prim.Native.Nat.{ℕ, zero, suc}
use mathlib.Core.Path.{◌≡◌, refl, ap, sym, ◌∙◌}
use mathlib.Core.Bool.{true, false, or-true}
use mathlib.Core.List.{List}
use mathlib.Core.Option.{some}
use mathlib.Core.Logic.{◌≢◌}
use native.Mathlib.Omega.{arith}
use borrow.Author.Tests.{eq-eqb, ne_eqb}
use lib.Dec.{eqb}
use Rattle.clock.specs.Counts.{distance, reach, next_of}
use Rattle.clock.specs.Numbers.{start_in_range}
use Rattle.clock.specs.Timers.{ticked}
use Rattle.frame.specs.declared.Address.{Address}
use Rattle.frame.specs.declared.Body.TheVariants.{Discovery}
use Rattle.frame.specs.declared.Message.{Message}
use Rattle.frame_range.specs.Fits.{is_individual}
use Rattle.frame_range.specs.Laws.{individual-parts}
use Rattle.box_grants.specs.Listed.{choose_of}
use Rattle.box_light.specs.Light.{laser_on_for, randomly}
use Rattle.box_light.specs.Tick.{tick_of as light_tick}
use Rattle.box_registration.specs.Registration.{registering}
use Rattle.box_registration.specs.Tick.{tick_wait}
use Rattle.box_registration.specs.declared.State.TheVariants.{RegisterReq}
use Rattle.box_processes.specs.Parts.{fresh, with_count, with_registration}
use Rattle.box_processes.specs.declared.Processes.{Processes}
use Rattle.box_activation.specs.Activation.{activate}
use Rattle.box_ticking.specs.Tick.{timed, transmitted, tick_of as processes_tick}
use Rattle.box_hearing.specs.Discovery.{random_for, discover}
use Rattle.box_calls.specs.Answer.{accepted}
use Rattle.box_calls.specs.Box.{sound_of, fresh_of, register_of}
use Rattle.box_calls.specs.Hear.{is_for}
use Rattle.box_calls.specs.declared.Answer.{Answer}
use Rattle.box_calls.specs.declared.FloorBox.{FloorBox}
use Rattle.box_laws.specs.Calls.{step, drift}
use Rattle.box_laws.specs.Stated.{Call, hear, tick, answer}
use Rattle.box_laws.specs.Sound.{sound-test}
use Rattle.pair_wire.specs.Carried.{carries-valid}
use Rattle.pair_wire.specs.Message.{message_in}
use Rattle.pair_box.specs.End.{register, BoxEnd}
use Rattle.pair_box.proofs.Accepted.{tick-accepted, hear-accepted}
use Rattle.pair_box.proofs.Exact.{AskingFor, tick-done}
use Rattle.pair_box.proofs.Gauge.{Ok, fresh_ok}
use Rattle.pair_box.proofs.Laws.{box_laws}
use Rattle.pair_core.proofs.Quiet.{grant_at, sync, now}

-- the client asks for registration, the box hears that call, and ticks
abbrev pub begins : Processes
begins = activate (with_registration fresh (registering fresh.registration))

abbrev pub called : Processes
called = activate (discover (with_count begins now) (grant_at now) sync false 0)

abbrev pub ticked-on : Processes → Processes
ticked-on p = activate (processes_tick p).next

unfoldable pub ticks_of : ℕ → Processes → Processes
ticks_of zero p = p
ticks_of (suc k) p = ticks_of k (ticked-on p)

-- 32 ticks later the laser is on: the box asks, with a full wait
pub opened : Processes
opened = ticks_of 32 called

pub opened-is : ticks_of 32 called ≡ opened
unfolding opened
opened-is = refl

opens : (opened.registration.state ≡ RegisterReq) × (opened.registration.wait.left ≡ 3125000)
unfolding opened ticks_of random_for discover timed transmitted processes_tick activate tick_wait light_tick laser_on_for randomly choose_of ticked start_in_range distance reach next_of
opens = (refl, refl)

left_by : (c : Call) (b : FloorBox) → answer c b ≡ accepted b (drift c b) (step c b) → (answer c b).next.processes ≡ activate (step c b).next
unfolding accepted
left_by c b e = ap (λ (x : Answer). x.next.processes) e

module _ (A : Address) where
  -- a box that a run reaches, with these processes
  pub record At (p : Processes) (b : FloorBox) : Type 0 where
    pub ok : Ok A b
    pub processes : b.processes ≡ p

  pub at-fresh : is_individual A ≡ true → (BoxEnd A).Fresh (fresh_of A).next × At fresh (fresh_of A).next
  unfolding fresh_of
  at-fresh i = let f : (BoxEnd A).Fresh (fresh_of A).next = (rw i, refl) in (f, record { ok = fresh_ok A (fresh_of A).next f; processes = rw i })

  pub at-begins : (b : FloorBox) → At fresh b → At begins ((BoxEnd A).call b register).next
  unfolding register_of sound_of accepted
  at-begins b w =
      record {
        ok = ((box_laws A).of-call b register w.ok tt).ok;
        processes = rw (w.ok.holds.address, sound-test w.ok.holds.processes.sound, w.processes);
      }

  not_own : {a : Address} → is_individual a ≡ true → 0x0180C2000001 ≢ a.0
  not_own {a} i e = omega (arith, e, (individual-parts a.0 i).2)

  pub at-ticked : (b : FloorBox) (p : Processes) → At p b → At (ticked-on p) ((BoxEnd A).tick b tt).next
  at-ticked b p w =
      let o = w.ok in
      record {
        ok = ((box_laws A).of-tick b tt o (tick-done A b o)).ok;
        processes = left_by tick b (tick-accepted b o.holds) ∙ ap ticked-on w.processes;
      }

  pub at_called : (b : FloorBox) (os : List ℕ) (m : Message) → message_in os ≡ some m → m.body ≡ Discovery (grant_at now) sync
      → m.destination.0 ≡ 0x0180C2000001 → m.timestamp ≡ now → At begins b → At called ((BoxEnd A).hear b 0 os).next
  unfolding is_for
  at_called b os m e g d t w =
      let o = w.ok in
      let all = eq-eqb m.destination.0 0x0180C2000001 d in
      let meant = or-true (eqb m.destination.0 b.address.0) in
      let other : eqb m.destination.0 b.address.0 ≡ false =
      ne_eqb m.destination.0 b.address.0 (λ (q : m.destination.0 ≡ b.address.0). not_own o.holds.address (sym d ∙ q)) in
      let a = hear-accepted b o.holds m 0 (carries-valid os m e) (rw g) (rw (g, all) meant) in
      record {
        ok = ((box_laws A).of-hear b 0 os o).ok;
        processes = rw e (left_by (hear m 0) b a ∙ rw (g, other, t, w.processes));
      }

  pub asks : (b : FloorBox) → At opened b → AskingFor A 3_125_000 b
  asks b w =
      record {
        ok = w.ok;
        state = ap (λ (p : Processes). p.registration.state) w.processes ∙ opens.0;
        left = ap (λ (p : Processes). p.registration.wait.left) w.processes ∙ opens.1;
      }
