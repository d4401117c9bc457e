-- The way on to a registered pair, and to a head that has just dropped it: the box asks, the head admits it, each hears the other.
-- Assumes nothing.
use Prim.Native.Nat.{ℕ}
use mathlib.Core.Path.{◌≡◌, refl, sym, subst}
use mathlib.Core.Bool.{true}
use mathlib.Core.List.{List, [], ◌∷◌, ◌++◌, map, Memᴰ}
use native.Mathlib.Omega.{arith}
use Rattle.frame.specs.declared.Address.{Address}
use Rattle.frame_queues.specs.Laws.{none-fit}
use Rattle.frame_queues.specs.Queues.{no_sets}
use Rattle.frame.specs.declared.Body.TheVariants.{Report, RegisterAck}
use Rattle.frame.specs.declared.Message.{Message}
use Rattle.frame.specs.declared.RegisterAckFlag.{RegisterAckFlag}
use Rattle.frame_range.specs.Fits.{is_individual}
use Rattle.box_calls.specs.Answer.{message_of}
use Rattle.box_calls.specs.declared.Answer as floor
use Rattle.box_calls.specs.declared.FloorBox.{FloorBox}
use Rattle.head_judging.specs.declared.Call.{Call}
use Rattle.pair_wire.specs.Carried.{carries-valid}
use Rattle.pair_demand.specs.Run.{Answer, stamp, head-call, head-hears, box-hears}
use Rattle.pair_box.specs.End.{EndThat, BoxEnd}
use Rattle.pair_box.proofs.Exact as boxes
use Rattle.pair_box.proofs.Exact.{AskingFor}
use Rattle.pair_head.specs.End.{asks, asked}
use Rattle.pair_core.specs.Ends.{ends}
use Rattle.pair_core.proofs.Admitted.{ack-admits}
use Rattle.pair_core.proofs.Alike.{Alike, as-box}
use Rattle.pair_core.proofs.Messages.{IsOffer, IsAccept, IsGate, IsReport, of-box-valid}
use Rattle.pair_core.proofs.Offering.{Waits, Serves, admit, admits, accepts, drops}
use Rattle.pair_core.proofs.OnWay.{OnWay, sent-on, stays_on}
use Rattle.pair_core.proofs.OneLink.{out}
use Rattle.pair_core.proofs.Quiet.{sync, later, later-idle, Shut}
use Rattle.pair_core.proofs.Reach.{Way, next, then, Any}
use Rattle.pair_core.proofs.Way.{start, Asks, to-asks}

-- both of two frames were handed out
both : {f g : List ℕ} {fs : List (List ℕ)} → fs ≡ f ∷ g ∷ [] → Memᴰ f fs × Memᴰ g fs
both {f} {g} e =
    subst (λ (l : List (List ℕ)). Memᴰ f l × Memᴰ g l) (sym e) (Memᴰ.head refl, Memᴰ.tail (Memᴰ.head refl))

module _ (A : Address) (i : is_individual A ≡ true) (hears : FloorBox → Message → ℕ → floor.Answer) (same : Alike hears) (D : ℕ) where
  open ends A (EndThat hears) use {HE, BE, M}

  -- a box that is registered, with a full watchdog
  abbrev Full : FloorBox → Type 0
  Full = boxes.RegisteredFor A 62_500_000

  -- the head admits the box
  abbrev Offered : M → Type 0
  Offered m = Waits A later m.head × AskingFor A 3_125_000 m.box × OnWay (IsOffer A) 0 m.down

  offers : (m : M) → Asks A i hears same D m → Way HE BE D m 0 Offered
  offers m q =
      let a = admits A i later m.head q.0 in
      then HE BE D m Offered (head-call (asks (admit A i later m.head) out)) (omega arith, tt, tt) (a.0, q.1, a.1 m.down)

  -- the box hears that, and answers
  abbrev Met : M → Type 0
  Met m = Waits A later m.head × Full m.box × OnWay (IsAccept A) 0 m.up × OnWay (IsReport A) 0 m.up

  abbrev Answers : M → Answer FloorBox (List ℕ) → Type 0
  Answers m x = Full x.next × OnWay (IsAccept A) 0 (map stamp x.sent ++ m.up) × OnWay (IsReport A) 0 (map stamp x.sent ++ m.up)

  answers : (m : M) (w : OnWay (IsOffer A) 0 m.down) → AskingFor A 3_125_000 m.box → Answers m ((BoxEnd A).hear m.box 0 w.octets)
  answers m w q =
      let t = w.message.timestamp in
      let k = (carries-valid w.octets w.message w.carries).timestamp in
      let x = (BoxEnd A).hear m.box 0 w.octets in
      let accept = RegisterAck RegisterAckFlag.Ack 1 sync in
      let a = ack-admits A m.box 3_125_000 0 w.octets w.message 1 sync 0 w.carries w.is.0 w.is.1 q in
      let s = both a.1 in (
        a.0,
        sent-on (IsAccept A) (message_of A t accept) (of-box-valid A i accept (omega arith) t k) (refl, refl, refl) x.sent m.up s.0,
        sent-on (IsReport A) (message_of A t (Report no_sets)) (of-box-valid A i (Report no_sets) none-fit t k) (refl, refl, refl) x.sent m.up s.1,
      )

  meets : (m : M) → Offered m → Way HE BE D m 0 Met
  meets m q =
      let w = q.2 in
      let a = subst (Answers m) (as-box A hears same m.box 0 w.octets w.message w.carries (rw w.is.0)) (answers m w q.1) in
      then HE BE D m Met (box-hears 0 (record { frame = w.octets; age = 0 })) (w.among, omega arith) (q.0, a.0, a.1, a.2)

  -- the head hears the answer
  abbrev pub Paired : M → Type 0
  Paired m = Serves A later m.head × Full m.box × OnWay (IsGate A) 0 m.down × OnWay (IsReport A) 0 m.up

  pairs : (m : M) → Met m → Way HE BE D m 0 Paired
  pairs m q =
      let w = q.2 in
      let a = accepts A i later m.head q.0 w in
      then HE BE D m Paired (head-hears (record { link = 1; output = out }) (record { frame = w.octets; age = 0 })) (w.among, omega arith)
      (a.0, q.1, a.1 m.down, q.3)

  pub to-pair : Way HE BE D (start A i hears same D) 32 Paired
  to-pair =
      next HE BE D (Any HE BE D) 32 0 (Asks A i hears same D) Paired (to-asks A i hears same D)
      (λ x p.
      next HE BE D (Any HE BE D) 0 0 Offered Paired (offers x p)
      (λ y q. next HE BE D (Any HE BE D) 0 0 Met Paired (meets y q) pairs))

  -- the head drops the link, and the frame that says so is lost
  abbrev pub Dropped : M → Type 0
  Dropped m = Shut A m.head × Full m.box × OnWay (IsGate A) 0 m.down

  dropped : (m : M) → Paired m → Way HE BE D m 0 Dropped
  dropped m q =
      then HE BE D m Dropped (head-call (asks (Call.Deregister 1) out)) (tt, tt, tt) (
        record { h = later; quiet = drops A i later m.head q.0; shut = later-idle },
        q.1,
        stays_on (IsGate A) (asked m.head (Call.Deregister 1) out).sent q.2,
      )

  pub to-dropped : Way HE BE D (start A i hears same D) 32 Dropped
  to-dropped = next HE BE D (Any HE BE D) 32 0 Paired Dropped to-pair dropped
