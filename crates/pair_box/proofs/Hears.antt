-- A message moves the registration only if it is one that restarts the watchdog, or ends it.
-- Assumes nothing.
use Prim.Native.Nat.{ℕ}
use mathlib.Core.Path.{◌≡◌, refl}
use mathlib.Core.Bool.{Bool, true, false, ◌&&◌, ◌||◌, and-eq-true_iff, false≢true}
use mathlib.Core.List.{List}
use lib.Dec.{eqb}
use Rattle.laws.specs.Cases.{either}
use Rattle.clock.specs.declared.Quanta.{Quanta}
use Rattle.frame.specs.Layout.{listed}
use Rattle.frame.specs.declared.Address.{Address}
use Rattle.frame.specs.declared.Body.{Body}
use Rattle.frame.specs.declared.Body.TheVariants.{Gate, Discovery, Report, RegisterReq as Request, Register, RegisterAck}
use Rattle.frame.specs.declared.Grant.{Grant}
use Rattle.frame.specs.declared.Message.{Message}
use Rattle.frame.specs.declared.RegisterFlag.{RegisterFlag}
use Rattle.frame.specs.declared.RegisterFlag.TheVariants.{Reregister, Deregister, Ack, Nack}
use Rattle.box_registration.specs.Registration.{is_registered}
use Rattle.box_registration.specs.declared.State.{State}
use Rattle.box_registration.specs.declared.State.TheVariants.{Wait, Registering, RegisterReq, Registered}
use Rattle.box_processes.specs.declared.Processes.{Processes}
use Rattle.box_hearing.specs.Gate.{gated}
use Rattle.box_hearing.specs.Hear.{hear_of}
use Rattle.box_hearing.specs.Register.{register_of}
use Rattle.box_calls.specs.Hear.{is_discovery, is_for}
use Rattle.box_calls.specs.declared.FloorBox.{FloorBox}
use Rattle.box_laws.specs.Sound.{registered-is}
use Rattle.box_laws.specs.Watchdog.{discovery-keeps}
use Rattle.pair_wire.specs.Restarts.{registers, restarts_box, calls_box}
use Rattle.pair_box.proofs.Moves.{MovedBy, gone, full, stays}

module _ (p : Processes) (kept : Bool) where
  gated-moves : (gs : List Grant) → ¬ (kept ≡ false) → MovedBy 0 kept p.registration (gated p gs)
  unfolding gated
  gated-moves gs k =
      either (MovedBy 0 kept p.registration) (is_registered p.registration.state) _ _
      (λ i. full k (registered-is p.registration.state i))
      (λ _. stays refl tt tt)

  register-moves : (t : State) (flag : RegisterFlag) (port : ℕ) (sync : Quanta) → (registers flag ≡ true → ¬ (kept ≡ false))
      → MovedBy 0 kept p.registration (register_of t flag p port sync)
  register-moves RegisterReq Ack port sync k = full (k refl) refl
  register-moves RegisterReq Nack port sync k = gone tt (λ _. (refl, tt))
  register-moves RegisterReq Reregister port sync k = stays refl tt tt
  register-moves RegisterReq Deregister port sync k = stays refl tt tt
  register-moves Registered Reregister port sync k = full (k refl) refl
  register-moves Registered Deregister port sync k = gone tt (λ _. (tt, tt))
  register-moves Registered Ack port sync k = stays refl tt tt
  register-moves Registered Nack port sync k = stays refl tt tt
  register-moves Wait flag port sync k = stays refl tt tt
  register-moves Registering flag port sync k = stays refl tt tt

  pub hear-moves : (body : Body) (own : Bool) (random : ℕ) → (restarts_box body ≡ true → ¬ (kept ≡ false))
      → MovedBy 0 kept p.registration (hear_of body p own random)
  hear-moves (Gate grants) own random k = gated-moves (listed grants) (k refl)
  hear-moves (Discovery grant sync) own random k = stays (discovery-keeps p grant sync own random) tt tt
  hear-moves (Register port flag sync pending) own random k = register-moves p.registration.state flag port sync k
  hear-moves (Report sets) own random k = stays refl tt tt
  hear-moves (Request flag pending) own random k = stays refl tt tt
  hear-moves (RegisterAck flag port sync) own random k = stays refl tt tt

-- a message that is for a box and restarts its watchdog carries its address
restarts-normal : (body : Body) → restarts_box body ≡ true → is_discovery body ≡ false
restarts-normal (Gate grants) h = refl
restarts-normal (Discovery grant sync) h = absurd (false≢true h)
restarts-normal (Register port flag sync pending) h = refl
restarts-normal (Report sets) h = refl
restarts-normal (Request flag pending) h = refl
restarts-normal (RegisterAck flag port sync) h = refl

meant : (own discovery all : Bool) → (own || (discovery && all)) ≡ true → discovery ≡ false → own ≡ true
meant true discovery all h e = refl
meant false discovery all h e = absurd (false≢true (rw e at h))

pub calls-box : (A : Address) (b : FloorBox) (m : Message) → b.address ≡ A → is_for b m.destination m.body ≡ true
    → restarts_box m.body ≡ true → calls_box A m ≡ true
unfolding is_for
calls-box A b m e i h =
    let to = m.destination.0 in
    let own = meant (eqb to b.address.0) (is_discovery m.body) (eqb to 0x0180C2000001) i (restarts-normal m.body h) in
    (and-eq-true_iff (eqb to A.0) (restarts_box m.body)).1 (rw e at own, h)
