-- The way from a fresh start to a box that asks, 32 ticks later, at any individual address A: the head calls for newcomers, the box hears it.
-- Assumes nothing.
use Prim.Native.Nat.{ℕ, suc}
use mathlib.Core.Path.{◌≡◌, refl, ap, subst, ◌∙◌}
use mathlib.Core.Bool.{true, false}
use mathlib.Core.List.{List, []}
use native.Mathlib.Omega.{arith}
use Rattle.frame.specs.declared.Address.{Address}
use Rattle.frame.specs.declared.Message.{Message}
use Rattle.frame_range.specs.Fits.{is_individual}
use Rattle.box_registration.specs.Registration.{registering, is_registered}
use Rattle.box_registration.specs.declared.Registration.{Registration}
use Rattle.box_processes.specs.Parts.{fresh, with_registration}
use Rattle.box_processes.specs.declared.Processes.{Processes}
use Rattle.box_calls.specs.Box.{fresh_of}
use Rattle.box_calls.specs.declared.Answer.{Answer}
use Rattle.box_calls.specs.declared.FloorBox.{FloorBox}
use Rattle.box_laws.proofs.Activated.{activate-leaves}
use Rattle.head_state.specs.Head.{begun}
use Rattle.head_state.specs.declared.Head.{Head}
use Rattle.pair_demand.specs.Run as run
use Rattle.pair_demand.specs.Run.{head-call, box-call, box-hears, both-tick, Start}
use Rattle.pair_box.specs.End.{register, state_of, EndThat}
use Rattle.pair_box.proofs.Exact.{AskingFor, tick-done}
use Rattle.pair_head.specs.End.{asks, asked}
use Rattle.pair_head.proofs.Exact.{ready-tick}
use Rattle.pair_core.specs.Ends.{ends}
use Rattle.pair_core.proofs.Alike.{Alike, as-box}
use Rattle.pair_core.proofs.Asking as asking
use Rattle.pair_core.proofs.Asking.{At, begins, called, opened, opened-is, at-fresh, at-begins, at_called, at-ticked}
use Rattle.pair_core.proofs.Messages.{IsCall, call-valid}
use Rattle.pair_core.proofs.OnWay.{OnWay, sent-on, only}
use Rattle.pair_core.proofs.OneLink.{out, H, begun_head, begun_fresh}
use Rattle.pair_core.proofs.Quiet.{ticks_of, opening, opened_at, discovery, now, later, later-is, Free, begun-free, free-ticks, free-opens}
use Rattle.pair_core.proofs.Reach.{Way, then, so, next, again, Any}

module _ (A : Address) (i : is_individual A ≡ true) (hears : FloorBox → Message → ℕ → Answer) (same : Alike hears) (D : ℕ) where
  open ends A (EndThat hears) use {HE, BE, M}

  abbrev pub start : M
  start = record { head = begun_head; box = (fresh_of A).next; down = []; up = [] }

  pub start-fresh : Start HE BE start
  start-fresh = (begun_fresh, (at-fresh A i).0, refl, refl)

  -- the box's client asks for registration
  abbrev Begun : M → Type 0
  Begun m = Free A (begun H) m.head × At A begins m.box

  begin : Way HE BE D start 0 Begun
  begin = then HE BE D start Begun (box-call register) tt (begun-free A, at-begins A (fresh_of A).next (at-fresh A i).1)

  -- the head calls for newcomers, at its first count
  abbrev First : Message → Type 0
  First m = IsCall now m × (m.timestamp ≡ now)

  abbrev Called : M → Type 0
  Called m = Free A (opened_at now (begun H)) m.head × At A begins m.box × OnWay First 0 m.down

  calls : (m : M) → Begun m → Way HE BE D m 0 Called
  calls m q =
      let s = m.head in
      let f = free-opens A (begun H) s refl (omega arith) q.0 in
      let v = call-valid now (omega arith) s q.0.quiet.ready in
      let first = ap (λ (h : Head). h.count) q.0.quiet.head in
      then HE BE D m Called (head-call (asks (opening now) out)) (omega arith, tt, tt)
      (f.0, q.1, sent-on First (discovery now s.head) v ((refl, refl), first) (asked s (opening now) out).sent m.down (only f.1))

  -- the box hears it
  abbrev Heeds : M → Type 0
  Heeds m = Free A (opened_at now (begun H)) m.head × At A called m.box

  heeds : (m : M) → Called m → Way HE BE D m 0 Heeds
  heeds m q =
      let b = m.box in
      let w = q.2 in
      let off : is_registered (state_of b) ≡ false =
      ap (λ (p : Processes). is_registered p.registration.state) q.1.processes
      ∙ ap (λ (r : Registration). is_registered r.state) (activate-leaves (with_registration fresh (registering fresh.registration))).1 in
      then HE BE D m Heeds (box-hears 0 (record { frame = w.octets; age = 0 })) (w.among, omega arith) (
        q.0,
        subst (λ (x : run.Answer FloorBox (List ℕ)). At A called x.next)
            (as-box A hears same b 0 w.octets w.message w.carries (rw (w.is.0.0, off)))
            (at_called A b w.octets w.message w.carries w.is.0.0 w.is.0.1 w.is.1 q.1),
      )

  -- and asks, 32 ticks later
  abbrev pub Asks : M → Type 0
  Asks m = Free A later m.head × AskingFor A 3_125_000 m.box

  record Turns (k : ℕ) (m : M) : Type 0 where
    h : Head
    p : Processes
    head : Free A h m.head
    box : At A p m.box
    head-ends : ticks_of k h ≡ later
    box-ends : asking.ticks_of k p ≡ opened

  turns : (k : ℕ) (m : M) → Turns (suc k) m → Way HE BE D m 1 (Turns k)
  unfolding ticks_of asking.ticks_of
  turns k m t =
      then HE BE D m (Turns k) (both-tick out tt) ((ready-tick t.head.quiet.ready).reply, tick-done A m.box t.box.ok)
      (record {
        h = _;
        p = _;
        head = free-ticks A t.h m.head t.head;
        box = at-ticked A m.box t.p t.box;
        head-ends = t.head-ends;
        box-ends = t.box-ends;
      })

  turned : (m : M) → Turns 0 m → Asks m
  unfolding ticks_of asking.ticks_of
  turned m t = (
    subst (λ (h : Head). Free A h m.head) t.head-ends t.head,
    asking.asks A m.box (subst (λ (p : Processes). At A p m.box) t.box-ends t.box),
  )

  turning : (m : M) → Heeds m → Way HE BE D m 32 Asks
  turning m q =
      so HE BE D (Any HE BE D) (Turns 0) Asks
      (again HE BE D (Any HE BE D) Turns (λ k y t. tt) turns 32 m
      (record { h = _; p = _; head = q.0; box = q.1; head-ends = later-is; box-ends = opened-is }))
      turned

  pub to-asks : Way HE BE D start 32 Asks
  to-asks =
      next HE BE D (Any HE BE D) 0 32 Begun Asks begin
      (λ x p.
      next HE BE D (Any HE BE D) 0 32 Called Asks (calls x p)
      (λ y q. next HE BE D (Any HE BE D) 0 32 Heeds Asks (heeds y q) turning))
