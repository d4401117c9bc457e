-- The floor box has the laws that the pair theorem asks of a box.
-- Assumes nothing.
use Prim.Native.Nat.{ℕ}
use mathlib.Core.Path.{◌≡◌, refl, sym, ◌∙◌}
use mathlib.Core.Bool.{false, true≢false}
use mathlib.Core.List.{List}
use mathlib.Core.Option.{Option, none, some}
use lib.Dec.{eqb}
use Rattle.frame.specs.declared.Address.{Address}
use Rattle.frame.specs.declared.Message.{Message}
use Rattle.box_processes.specs.Parts.{with_count}
use Rattle.box_calls.specs.Box.{tick_of}
use Rattle.box_calls.specs.Hear.{hear_of}
use Rattle.box_calls.specs.declared.FloorBox.{FloorBox}
use Rattle.box_laws.specs.Stated as calls
use Rattle.box_laws.specs.Calls.{outcome}
use Rattle.box_laws.specs.Sound.{registered-is}
use Rattle.box_laws.specs.Steady.{tick-ok}
use Rattle.pair_wire.specs.Carried.{carries-valid}
use Rattle.pair_wire.specs.Message.{message_in}
use Rattle.pair_wire.specs.Restarts.{calls_box, tested, down_restarts, up_restarts}
use Rattle.pair_demand.specs.Run.{HasRegistered}
use Rattle.pair_demand.specs.Laws.{Step, Laws}
use Rattle.pair_demand.proofs.Steps.{same}
use Rattle.pair_box.specs.End.{Request, register, deregister, report, asked, Fair, heard_in, BoxEnd}
use Rattle.pair_box.proofs.Accepted.{tick-accepted}
use Rattle.pair_box.proofs.Calls.{Does, accepted-does, call-does}
use Rattle.pair_box.proofs.Gauge.{Ok, gauge, fresh_ok, watchdog-runs, wait-runs}
use Rattle.pair_box.proofs.Hears.{hear-moves, calls-box}
use Rattle.pair_box.proofs.Moves.{gone, speaks}
use Rattle.pair_box.proofs.Ticks.{tick-moves}
use Rattle.pair_box.proofs.Typed.{typed-of}

module _ (A : Address) where
  request-does : (q : Request) (b : FloorBox) → Ok A b → Fair q → Does A 0 false b (asked q b)
  request-does register b o f = call-does A calls.register b o tt (λ _. gone tt (λ _. (tt, tt))) (outcome calls.register b)
  request-does deregister b o f = call-does A calls.deregister b o tt (λ _. gone tt (λ _. (refl, tt))) (outcome calls.deregister b)
  request-does (report sets) b o f =
      call-does A (calls.report sets) b o f (λ h. speaks (registered-is b.processes.registration.state h.0) refl refl)
      (outcome (calls.report sets) b)

  hear-does : (b : FloorBox) (random : ℕ) (os : List ℕ) → Ok A b → (x : Option Message) → message_in os ≡ x
      → Step (BoxEnd A) (gauge A) (HasRegistered (BoxEnd A)) up_restarts 0 (tested (calls_box A) x) b (heard_in hear_of x b random)
  hear-does b random os o none e = same o
  hear-does b random os o (some m) e =
      let c = calls.hear m random in
      let p = with_count b.processes m.timestamp in
      call-does A c b o (typed-of m (carries-valid os m e))
      (λ h.
      hear-moves p (calls_box A m) m.body (eqb m.destination.0 b.address.0) random
      (λ r n. true≢false (sym (calls-box A b m o.address h.1.0 r) ∙ n)))
      (outcome c b)

  tick-does : (b : FloorBox) → Ok A b → Does A 1 false b (tick_of b)
  tick-does b o =
      let s = o.holds.processes in
      accepted-does A calls.tick b o tt (tick-ok b.processes s, tt) (tick-accepted b o.holds) (tick-moves b.processes s)

  pub box_laws : Laws (BoxEnd A) (gauge A) (HasRegistered (BoxEnd A)) up_restarts (down_restarts A) 62_500_000 3_125_000
  box_laws =
      record {
        fresh_ok = fresh_ok A;
        dog-range = λ b o p r. watchdog-runs b.processes.registration o.holds.processes.sound.registration r;
        wait-range = λ b o p w. wait-runs b.processes.registration o.holds.processes.sound.registration w;
        of-call = λ b c o f. request-does c b o f;
        of-hear = λ b random os o. hear-does b random os o (message_in os) refl;
        of-tick = λ b l o z. tick-does b o;
      }
