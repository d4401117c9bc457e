-- The head's part in a pair: it admits A, hears the box's REGISTER_ACK 1, and drops the link; its count and window stay.
-- Assumes nothing.
use Prim.Native.Nat.{ℕ}
use mathlib.Core.Path.{◌≡◌, refl, sym, ap, subst, ◌∙◌}
use mathlib.Core.Bool.{true}
use mathlib.Core.List.{List, [], ◌∷◌, ◌++◌, map}
use mathlib.Core.Option.{Option}
use native.Mathlib.Omega.{arith}
use Rattle.laws.specs.Cases.{either}
use Rattle.clock.specs.Counts.{round_trip}
use Rattle.clock.specs.declared.Quanta.{Quanta}
use Rattle.frame.specs.Layout.{encode}
use Rattle.frame.specs.declared.Address.{Address}
use Rattle.frame.specs.declared.Body.{Body}
use Rattle.frame.specs.declared.Body.TheVariants.{Gate, Register}
use Rattle.frame.specs.declared.Grants.TheVariants.{None}
use Rattle.frame.specs.declared.Message.{Message}
use Rattle.frame.specs.declared.RegisterAckFlag.{RegisterAckFlag}
use Rattle.frame.specs.declared.RegisterFlag.{RegisterFlag}
use Rattle.frame_range.specs.Fits.{is_individual}
use Rattle.head_state.specs.declared.Head.{Head}
use Rattle.head_hearing.specs.Hear.{is_for, heard_of, confirmed_by, no_step, confirmed}
use Rattle.head_links.specs.Link.{is_held, is_registered}
use Rattle.head_links.specs.declared.Link.{Link}
use Rattle.head_plans.specs.declared.Plan.{Plan}
use Rattle.head_survey.specs.Facts.{idle_from}
use Rattle.head_table.specs.Output.{message_of}
use Rattle.head_judging.specs.declared.Call.{Call}
use Rattle.head_laws.specs.Calls.{known}
use Rattle.head_laws.specs.Stated.{from}
use Rattle.head_laws.specs.Numbered.{held-has}
use Rattle.pair_wire.specs.Message.{message_in}
use Rattle.pair_demand.specs.Run.{Answer, Aged, stamp}
use Rattle.pair_head.specs.End.{HeadState, link_at, asked, heard}
use Rattle.pair_head.proofs.Asked.{admit-waits, deregister-none}
use Rattle.pair_head.proofs.Exact.{RegisteredFor, WaitingFor}
use Rattle.pair_head.proofs.Heard.{group-for, ack-registers}
use Rattle.pair_head.proofs.Ready.{Ready}
use Rattle.pair_core.proofs.Messages.{IsOffer, IsAccept, IsGate, to-box-valid}
use Rattle.pair_core.proofs.OnWay.{OnWay, sent-on, only}
use Rattle.pair_core.proofs.OneLink.{out, head-stays, one_link}
use Rattle.pair_core.proofs.Quiet.{sync, Quiet, Free}

-- REGISTER_ACK leaves the head itself
confirmed-head : (h : Head) (l : Link) (link : ℕ) (trip : Quanta) → (confirmed RegisterAckFlag.Ack h l link trip).head ≡ h
unfolding confirmed
confirmed-head h l link trip =
    either (λ (p : Plan). p.head ≡ h) (is_registered l.state) (no_step h) (confirmed_by RegisterAckFlag.Ack h link trip) (λ _. refl) (λ _. refl)

module _ (A : Address) where
  -- this head's link waits, with a full wait
  pub record Waits (h : Head) (s : HeadState) : Type 0 where
    pub ready : Ready out s
    pub head : s.head ≡ h
    pub link : WaitingFor A 3_125_000 (link_at s 1)

  -- is registered, with a full watchdog
  pub record Serves (h : Head) (s : HeadState) : Type 0 where
    pub ready : Ready out s
    pub head : s.head ≡ h
    pub link : RegisteredFor A 62_500_000 (link_at s 1)

  module _ (i : is_individual A ≡ true) (h : Head) (s : HeadState) where
    abbrev pub admit : Call
    admit = Call.Admit A 0 sync

    pub admits : Free A h s
        → Waits h (asked s admit out).next × ((l : List (Aged (List ℕ))) → OnWay (IsOffer A) 0 (map stamp (asked s admit out).sent ++ l))
    admits f =
        let y = f.quiet.ready in
        let x = asked s admit out in
        let n = idle_from 1 s.table in
        let a = admit-waits y A 0 sync i refl (omega arith) f.quiet.none 1 (omega arith, omega (arith, one_link s y)) (ap is_held f.idle) in
        let has = held-has n 1 x.next.table (ap is_held a.1.0) in
        let first : n ≡ 1 = omega (arith, has.0, has.1, one_link x.next a.0.ready) in
        let offer : ℕ → Message = λ k. message_of (from s.head) A (Register k RegisterFlag.Ack sync 0) in (
          record {
            ready = a.0.ready;
            head = head-stays s admit refl ∙ f.quiet.head;
            link = subst (λ (k : ℕ). WaitingFor A 3_125_000 (link_at x.next k)) first a.1;
          },
          λ l.
              sent-on (IsOffer A) (offer 1) (to-box-valid A i (Register 1 RegisterFlag.Ack sync 0) (omega arith) s y) (refl, refl) x.sent l
              (only (a.2 ∙ ap (λ (k : ℕ). encode (offer k) ∷ []) first)),
        )

    -- a frame that carries REGISTER_ACK 1 on the link
    module _ {age : ℕ} {up : List (Aged (List ℕ))} (w : Waits h s) (o : OnWay (IsAccept A) age up) where
      abbrev confirms : Answer HeadState (List ℕ)
      confirms = heard s 1 out (message_in o.octets)

      stays : confirms.next.head ≡ s.head
      stays =
          let m = o.message in
          let f = known s.table (Call.Hear 1 m) in
          let trip : Quanta = record { 0 = round_trip s.head.count.0 m.timestamp.0 } in
          ap (λ (x : Option Message). (heard s 1 out x).next.head) o.carries
          ∙ head-stays s (Call.Hear 1 m)
          (ap (λ (b : Body). (heard_of b s.head f.link 1 trip).head) o.is.0 ∙ confirmed-head s.head f.link 1 trip)

      pub accepts : Serves h confirms.next × ((l : List (Aged (List ℕ))) → OnWay (IsGate A) 0 (map stamp confirms.sent ++ l))
      accepts =
          let y = w.ready in
          let meant = subst (λ (d : Address). is_for s.head d ≡ true) (sym o.is.2) (group-for s.head) in
          let a = ack-registers y A 1 o.octets o.message o.carries o.is.1 meant 1 sync 3_125_000 o.is.0 w.link in (
            record { ready = a.0.0.ready; head = stays ∙ w.head; link = a.0.1 },
            λ l.
                sent-on (IsGate A) (message_of (from s.head) A (Gate None)) (to-box-valid A i (Gate None) tt s y) (refl, refl) confirms.sent l
                (only a.1),
          )

    -- the client of the head drops the link
    pub drops : Serves h s → Quiet A h (asked s (Call.Deregister 1) out).next
    drops w =
        let d = deregister-none w.ready A 1 w.link.0 in
        record { ready = d.0.ready; head = head-stays s (Call.Deregister 1) refl ∙ w.head; none = d.1 }
