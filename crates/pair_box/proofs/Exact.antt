-- The laws' numbers are the box's own: a tick takes one off a timer, no less, and a normal GATE gives the watchdog back in full.
-- Assumes nothing.
use Prim.Native.Nat.{ℕ, suc}
use mathlib.Core.Path.{◌≡◌, ap, ◌∙◌}
use mathlib.Core.List.{List}
use mathlib.Core.Option.{some}
use native.Mathlib.Omega.{arith}
use borrow.Author.Tests.{eq-eqb}
use Rattle.clock.specs.Numbers.{watchdog}
use Rattle.frame.specs.Card.{number_of}
use Rattle.frame.specs.Layout.{listed}
use Rattle.frame.specs.declared.Address.{Address}
use Rattle.frame.specs.declared.Body.TheVariants.{Gate}
use Rattle.frame.specs.declared.Grant.{Grant}
use Rattle.frame.specs.declared.Grants.{Grants}
use Rattle.frame.specs.declared.Message.{Message}
use Rattle.box_registration.specs.Registration.{heard}
use Rattle.box_registration.specs.declared.Registration.{Registration}
use Rattle.box_registration.specs.declared.State.TheVariants.{RegisterReq, Registered}
use Rattle.box_processes.specs.declared.Processes.{Processes}
use Rattle.box_hearing.specs.Gate.{gated}
use Rattle.box_calls.specs.Answer.{accepted}
use Rattle.box_calls.specs.Hear.{is_for, hear_of}
use Rattle.box_calls.specs.declared.Answer.{Answer}
use Rattle.box_calls.specs.declared.FloorBox.{FloorBox}
use Rattle.box_laws.specs.Stated.{hear, tick}
use Rattle.pair_wire.specs.Carried.{carries-valid}
use Rattle.pair_wire.specs.Message.{message_in}
use Rattle.pair_box.specs.End.{state_of, BoxEnd}
use Rattle.pair_box.proofs.Accepted.{tick-accepted, hear-accepted}
use Rattle.pair_box.proofs.Calls.{next-registration}
use Rattle.pair_box.proofs.Gauge.{dog_of, wait_of, Ok}
use Rattle.pair_box.proofs.Laws.{box_laws}
use Rattle.pair_box.proofs.Ticks.{registered-ticks, asking-ticks}

gated-heard : (p : Processes) (gs : List Grant) → p.registration.state ≡ Registered → (gated p gs).next.registration ≡ heard p.registration
unfolding gated
gated-heard p gs e = rw e

module _ (A : Address) where
  -- no tick is refused
  pub tick-done : (b : FloorBox) → Ok A b → ((BoxEnd A).tick b tt).reply ≡ 0
  unfolding accepted
  tick-done b o = ap (λ (x : Answer). number_of x.reply) (tick-accepted b o.holds)

  -- in REGISTERED, with so many ticks left to the watchdog
  pub record RegisteredFor (n : ℕ) (b : FloorBox) : Type 0 where
    pub ok : Ok A b
    pub state : state_of b ≡ Registered
    pub left : dog_of b ≡ n

  -- in REGISTER_REQ, with so many ticks left to the wait
  pub record AskingFor (n : ℕ) (b : FloorBox) : Type 0 where
    pub ok : Ok A b
    pub state : state_of b ≡ RegisterReq
    pub left : wait_of b ≡ n

  module _ (b : FloorBox) (n : ℕ) where
    pub registered-tick : RegisteredFor (suc (suc n)) b → RegisteredFor (suc n) ((BoxEnd A).tick b tt).next
    registered-tick w =
        let o = w.ok in
        let x = registered-ticks b.processes o.holds.processes w.state (omega (arith, w.left)) in
        let r = next-registration tick b (tick-accepted b o.holds) in
        record {
          ok = ((box_laws A).of-tick b tt o (tick-done b o)).ok;
          state = ap (λ (t : Registration). t.state) r ∙ x.0;
          left = ap (λ (t : Registration). t.watchdog.left) r ∙ omega (arith, x.1, w.left);
        }

    pub asking-tick : AskingFor (suc (suc n)) b → AskingFor (suc n) ((BoxEnd A).tick b tt).next
    asking-tick w =
        let o = w.ok in
        let x = asking-ticks b.processes o.holds.processes w.state (omega (arith, w.left)) in
        let r = next-registration tick b (tick-accepted b o.holds) in
        record {
          ok = ((box_laws A).of-tick b tt o (tick-done b o)).ok;
          state = ap (λ (t : Registration). t.state) r ∙ x.0;
          left = ap (λ (t : Registration). t.wait.left) r ∙ omega (arith, x.1, w.left);
        }

    -- octets that carry a normal GATE to the box, whatever it grants
    pub gate-restarts : (random : ℕ) (os : List ℕ) (m : Message) (grants : Grants) → message_in os ≡ some m → m.body ≡ Gate grants
        → m.destination.0 ≡ A.0 → RegisteredFor n b → RegisteredFor watchdog ((BoxEnd A).hear b random os).next
    unfolding is_for
    gate-restarts random os m grants e g d w =
        let own = eq-eqb m.destination.0 b.address.0 (rw w.ok.address d) in
        let a = hear-accepted b w.ok.holds m random (carries-valid os m e) (rw g) (rw own) in
        let r : (hear_of b m random).next.processes.registration ≡ heard b.processes.registration =
        next-registration (hear m random) b a ∙ rw g (gated-heard _ (listed grants) w.state) in
        record {
          ok = ((box_laws A).of-hear b random os w.ok).ok;
          state = rw e (ap (λ (t : Registration). t.state) r ∙ w.state);
          left = rw e (ap (λ (t : Registration). t.watchdog.left) r);
        }
