-- A box in REGISTER_REQ that hears REGISTER ack is registered with a full watchdog, and hands out REGISTER_ACK 1 and a REPORT.
-- Assumes nothing.
use Prim.Native.Nat.{ℕ}
use mathlib.Core.Path.{◌≡◌, ap, ◌∙◌}
use mathlib.Core.List.{List, [], ◌∷◌}
use mathlib.Core.Option.{some}
use borrow.Author.Tests.{eq-eqb}
use Rattle.clock.specs.Numbers.{watchdog}
use Rattle.clock.specs.declared.Quanta.{Quanta}
use Rattle.frame.specs.Layout.{encode}
use Rattle.frame.specs.declared.Address.{Address}
use Rattle.frame_queues.specs.Queues.{no_sets}
use Rattle.frame.specs.declared.Body.TheVariants.{Report, Register, RegisterAck}
use Rattle.frame.specs.declared.Message.{Message}
use Rattle.frame.specs.declared.RegisterAckFlag.{RegisterAckFlag}
use Rattle.frame.specs.declared.RegisterFlag.{RegisterFlag}
use Rattle.box_registration.specs.declared.Registration.{Registration}
use Rattle.box_telling.specs.Told.{handed}
use Rattle.box_telling.specs.declared.Frames.{Frames}
use Rattle.box_processes.specs.Parts.{with_count}
use Rattle.box_processes.specs.declared.Step.{Step}
use Rattle.box_hearing.specs.Register.{admitted}
use Rattle.box_calls.specs.Answer.{accepted, message_of}
use Rattle.box_calls.specs.Hear.{is_for}
use Rattle.box_calls.specs.declared.Answer.{Answer}
use Rattle.box_calls.specs.declared.FloorBox.{FloorBox}
use Rattle.box_laws.specs.Calls.{step}
use Rattle.box_laws.specs.Stated.{hear}
use Rattle.box_laws.proofs.Frames.{call-frames}
use Rattle.pair_wire.specs.Carried.{carries-valid}
use Rattle.pair_wire.specs.Message.{message_in}
use Rattle.pair_box.specs.End.{frames_in, BoxEnd}
use Rattle.pair_box.proofs.Accepted.{hear-accepted}
use Rattle.pair_box.proofs.Calls.{next-registration}
use Rattle.pair_box.proofs.Exact.{RegisteredFor, AskingFor}
use Rattle.pair_box.proofs.Laws.{box_laws}
use Rattle.pair_box.proofs.Typed.{typed-of}

module _ (A : Address) (b : FloorBox) (n random : ℕ) (os : List ℕ) (m : Message) (port : ℕ) (sync : Quanta) (pending : ℕ)
    (e : message_in os ≡ some m) (g : m.body ≡ Register port RegisterFlag.Ack sync pending) (d : m.destination.0 ≡ A.0) (w : AskingFor A n b) where
  -- what it does, once it is accepted
  admits : step (hear m random) b ≡ admitted (with_count b.processes m.timestamp) port sync
  admits = rw (g, w.state)

  pub ack-admits : RegisteredFor A watchdog ((BoxEnd A).hear b random os).next
      × (((BoxEnd A).hear b random os).sent
      ≡ encode (message_of A m.timestamp (RegisterAck RegisterAckFlag.Ack port sync)) ∷ encode (message_of A m.timestamp (Report no_sets)) ∷ [])
  unfolding is_for accepted handed
  ack-admits =
      let v = carries-valid os m e in
      let own = eq-eqb m.destination.0 b.address.0 (rw w.ok.address d) in
      let a = hear-accepted b w.ok.holds m random v (rw g) (rw own) in
      let r = next-registration (hear m random) b a ∙ ap (λ (s : Step). s.next.registration) admits in
      let f = (call-frames (hear m random) b (typed-of m v) w.ok.count (ap (λ (x : Answer). x.reply) a)).frames in (
        record {
          ok = ((box_laws A).of-hear b random os w.ok).ok;
          state = rw e (ap (λ (t : Registration). t.state) r);
          left = rw e (ap (λ (t : Registration). t.watchdog.left) r);
        },
        rw e (ap (λ (x : Frames). frames_in x.number x) f ∙ rw (admits, w.ok.address)),
      )
