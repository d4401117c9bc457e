-- A call of the box is one of the pair's steps if its own step, should it be accepted, moves the registration as it may.
-- Assumes nothing.
use Prim.Native.Nat.{ℕ}
use mathlib.Core.Path.{◌≡◌, ap}
use mathlib.Core.Bool.{Bool}
use Rattle.frame.specs.Tests.{Passed}
use Rattle.frame.specs.declared.Address.{Address}
use Rattle.box_calls.specs.Answer.{accepted}
use Rattle.box_calls.specs.declared.Answer.{Answer}
use Rattle.box_calls.specs.declared.FloorBox.{FloorBox}
use Rattle.box_laws.specs.Calls.{tests, step, drift, Outcome, unsound, refuses, accepts}
use Rattle.box_laws.specs.Stated.{Call, answer, CallTyped}
use Rattle.box_laws.specs.Frames.{count_after}
use Rattle.box_laws.proofs.Frames.{step_count, call-frames}
use Rattle.box_laws.proofs.Steady.{call-steady}
use Rattle.box_laws.proofs.Activated.{activate-leaves}
use Rattle.pair_wire.specs.Restarts.{up_restarts}
use Rattle.pair_demand.specs.Run.{HasRegistered}
use Rattle.pair_demand.specs.Laws.{Step}
use Rattle.pair_demand.proofs.Steps.{same}
use Rattle.pair_box.specs.End.{told, BoxEnd}
use Rattle.pair_box.proofs.Gauge.{Ok, gauge}
use Rattle.pair_box.proofs.Moves.{Moves, MovedBy}
use Rattle.pair_box.proofs.Silent.{mute-frames}

-- after an accepted call the registration is that of its step
pub next-registration : (c : Call) (b : FloorBox) → answer c b ≡ accepted b (drift c b) (step c b)
    → (answer c b).next.processes.registration ≡ (step c b).next.registration
unfolding accepted
next-registration c b e = rw e (activate-leaves (step c b).next).1

module _ (A : Address) where
  abbrev pub Does : ℕ → Bool → FloorBox → Answer → Type 0
  Does loss kept b x = Step (BoxEnd A) (gauge A) (HasRegistered (BoxEnd A)) up_restarts loss kept b (told x)

  module _ (c : Call) (b : FloorBox) (o : Ok A b) (t : CallTyped c) where
    module _ (h : Passed (tests c b)) (e : answer c b ≡ accepted b (drift c b) (step c b)) where
      pub next-ok : Ok A (answer c b).next
      unfolding accepted
      next-ok =
          record {
            address = rw e o.address;
            holds = record { address = rw e o.holds.address; processes = call-steady c b o.holds.processes };
            count = rw (e, (activate-leaves (step c b).next).0) (step_count c b t h o.count);
          }

      pub accepted-does : {loss : ℕ} {kept : Bool} → MovedBy loss kept b.processes.registration (step c b) → Does loss kept b (answer c b)
      unfolding accepted
      accepted-does {loss} {kept} m =
          let f = call-frames c b t o.count (ap (λ (x : Answer). x.reply) e) in
          let n : Moves loss kept b.processes.registration (answer c b).next.processes.registration (step c b).first (step c b).second =
          rw (next-registration c b e) m in
          record {
            ok = next-ok;
            dog-falls = λ k _ r. n.dog k r;
            wait-falls = λ _ w v. n.wait w v;
            silent = λ q v.
                let g = n.mute (λ r. q (tt, r)) (λ r. v (tt, r)) in
                mute-frames b.address (count_after c b) (step c b).first (step c b).second (answer c b).frames f g.0 g.1;
          }

    -- a refusal changes nothing
    pub call-does : {kept : Bool} → (Passed (tests c b) → MovedBy 0 kept b.processes.registration (step c b)) → Outcome c b (answer c b)
        → Does 0 kept b (answer c b)
    call-does f (unsound s e) = rw e (same o)
    call-does f (refuses s r n k e) = rw e (same o)
    call-does f (accepts s h e) = accepted-does h e (f h)
