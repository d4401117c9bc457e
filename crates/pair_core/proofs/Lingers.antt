-- A box that the head has dropped stays registered: for D ticks it hears the head's last GATE again after each, then its watchdog runs down.
-- Assumes nothing.
use Prim.Native.Nat.{ℕ, suc, ◌+◌}
use mathlib.Core.Path.{◌≡◌, subst}
use mathlib.Core.Bool.{true}
use mathlib.Core.List.{List}
use native.Mathlib.Omega.{arith}
use Rattle.frame.specs.declared.Address.{Address}
use Rattle.frame.specs.declared.Grants.TheVariants.{None}
use Rattle.frame.specs.declared.Message.{Message}
use Rattle.frame_range.specs.Fits.{is_individual}
use Rattle.box_calls.specs.declared.Answer as floor
use Rattle.box_calls.specs.declared.FloorBox.{FloorBox}
use Rattle.head_judging.specs.declared.Call.{Call}
use Rattle.pair_demand.specs.Run.{Answer, Holds, Event, box-hears, both-tick, after, Allowed}
use Rattle.pair_box.specs.End.{EndThat}
use Rattle.pair_box.proofs.Exact.{RegisteredFor, tick-done, registered-tick, gate-restarts}
use Rattle.pair_head.specs.End.{asked}
use Rattle.pair_head.proofs.Exact.{ready-tick, none-ticks}
use Rattle.pair_head.proofs.Ready.{Ready}
use Rattle.pair_core.specs.Ends.{ends}
use Rattle.pair_core.proofs.Alike.{Alike, as-box}
use Rattle.pair_core.proofs.Messages.{IsGate}
use Rattle.pair_core.proofs.OnWay.{OnWay, ticks-on}
use Rattle.pair_core.proofs.OneLink.{out}
use Rattle.pair_core.proofs.Pairs.{Dropped}
use Rattle.pair_core.proofs.Quiet.{Shut, shut-ticks}
use Rattle.pair_core.proofs.Reach.{Reach, by, one, again}

module _ (A : Address) (i : is_individual A ≡ true) (hears : FloorBox → Message → ℕ → floor.Answer) (same : Alike hears) (D : ℕ) where
  open ends A (EndThat hears) use {HE, BE, M}

  -- the head holds no link for A
  abbrev pub Silent : M → Type 0
  Silent m = ¬ Holds HE m.head

  -- the box has so many ticks left, and one
  pub record Lingers (k : ℕ) (m : M) : Type 0 where
    pub ready : Ready out m.head
    pub none : Silent m
    pub box : RegisteredFor A (suc k) m.box

  -- a tick of both
  module _ (k : ℕ) (m : M) (w : Lingers (suc k) m) where
    pub allowed : Allowed HE BE D m (both-tick out tt)
    allowed = ((ready-tick w.ready).reply, tick-done A m.box w.box.ok)

    pub ticked : Lingers k (after HE BE m (both-tick out tt))
    ticked =
        record { ready = (ready-tick w.ready).ready; none = none-ticks w.ready A w.none; box = registered-tick A m.box k w.box }

    lingers-on : Reach HE BE D Silent m 1 (Lingers k)
    lingers-on = one HE BE D Silent m (Lingers k) (both-tick out tt) allowed w.none ticked.none ticked

  pub lingers : (n : ℕ) (m : M) → Lingers n m → Reach HE BE D Silent m n (Lingers 0)
  lingers = again HE BE D Silent Lingers (λ k m w. w.none) lingers-on

  -- with a full watchdog, and the GATE has k of its D ticks left
  pub record Echoes (k : ℕ) (m : M) : Type 0 where
    pub full : Lingers 62_499_999 m
    pub head : Shut A m.head
    age : ℕ
    late : age + k ≡ D
    gate : OnWay (IsGate A) age m.down

  heard : (m : M) (n age : ℕ) (w : OnWay (IsGate A) age m.down) → RegisteredFor A n m.box
      → RegisteredFor A 62_500_000 (BE.hear m.box 0 w.octets).next
  heard m n age w b =
      subst (λ (x : Answer FloorBox (List ℕ)). RegisteredFor A 62_500_000 x.next)
      (as-box A hears same m.box 0 w.octets w.message w.carries (rw w.is.0))
      (gate-restarts A m.box n 0 w.octets w.message None w.carries w.is.0 w.is.1 b)

  echoes-on : (k : ℕ) (m : M) → Echoes (suc k) m → Reach HE BE D Silent m 1 (Echoes k)
  echoes-on k m e =
      let y = after HE BE m (both-tick out tt) in
      let w = ticked 62_499_998 m e.full in
      let g = ticks-on (IsGate A) (asked m.head Call.Tick out).sent e.gate in
      let hearing : Event HE BE = box-hears 0 (record { frame = g.octets; age = suc e.age }) in
      let full : Lingers 62_499_999 (after HE BE y hearing) =
      record { ready = w.ready; none = w.none; box = heard y 62_499_999 (suc e.age) g w.box } in
      by HE BE D Silent 0 (Echoes k) (both-tick out tt) (allowed 62_499_998 m e.full) e.full.none
      (one HE BE D Silent y (Echoes k) hearing (g.among, omega (arith, e.late)) w.none w.none
      (record { full = full; head = shut-ticks A m.head e.head; age = suc e.age; late = omega (arith, e.late); gate = g }))

  pub echoes : (m : M) → Dropped A i hears same D m → Reach HE BE D Silent m D (Echoes 0)
  echoes m q =
      let x = q.0.quiet in
      again HE BE D Silent Echoes (λ k y e. e.full.none) echoes-on D m
      (record { full = record { ready = x.ready; none = x.none; box = q.1 }; head = q.0; age = 0; late = omega arith; gate = q.2 })
