-- The waits of demand 3 are exact: a box asks, and a head's link waits, at every moment of a span of 3,124,999 ticks.
-- Assumes nothing.
use Prim.Native.Nat.{ℕ, suc}
use mathlib.Core.Path.{◌≡◌}
use mathlib.Core.Bool.{true}
use native.Mathlib.Omega.{arith}
use Rattle.frame.specs.declared.Address.{Address}
use Rattle.frame_range.specs.Fits.{is_individual}
use Rattle.head_state.specs.Head.{begun}
use Rattle.box_calls.specs.Hear.{hear_of}
use Rattle.pair_demand.specs.Run.{BoxWaits, HeadWaits, head-call, both-tick}
use Rattle.pair_box.specs.End.{BoxEnd}
use Rattle.pair_box.proofs.Exact.{AskingFor, tick-done, asking-tick}
use Rattle.pair_box.proofs.Gauge.{Ok}
use Rattle.pair_box.proofs.Laws.{box_laws}
use Rattle.pair_head.specs.End.{link_at, asks}
use Rattle.pair_head.proofs.Exact.{WaitingFor, ready-tick, waiting-ticks}
use Rattle.pair_head.proofs.Ready.{Ready}
use Rattle.pair_core.specs.Ends.{ends}
use Rattle.pair_core.proofs.Alike.{floor-alike}
use Rattle.pair_core.proofs.Asking.{at-fresh}
use Rattle.pair_core.proofs.Offering.{Waits, admit, admits}
use Rattle.pair_core.proofs.OneLink.{out, H, begun_head}
use Rattle.pair_core.proofs.Quiet.{begun-free}
use Rattle.pair_core.proofs.Reach.{Reach, Way, one, again, then, shown}
use Rattle.pair_core.proofs.Way.{start, start-fresh, Asks, to-asks}

module _ (A : Address) (i : is_individual A ≡ true) (D : ℕ) where
  open ends A BoxEnd use {HE, BE, M}

  abbrev from : M
  from = start A i hear_of floor-alike D

  -- the box asks
  abbrev Asking : M → Type 0
  Asking m = BE.Waiting m.box tt

  abbrev AsksFor : ℕ → M → Type 0
  AsksFor k m = Ready out m.head × AskingFor A (suc k) m.box

  asks-on : (k : ℕ) (m : M) → AsksFor (suc k) m → Reach HE BE D Asking m 1 (AsksFor k)
  asks-on k m w =
      let y = ready-tick w.0 in
      let b = asking-tick A m.box k w.1 in
      one HE BE D Asking m (AsksFor k) (both-tick out tt) (y.reply, tick-done A m.box w.1.ok) w.1.state b.state (y.ready, b)

  asking : (m : M) → Asks A i hear_of floor-alike D m → Reach HE BE D Asking m 3_124_999 (AsksFor 0)
  asking m w = again HE BE D Asking AsksFor (λ k y v. v.1.state) asks-on 3_124_999 m (w.0.quiet.ready, w.1)

  pub exact-box-wait : ¬ BoxWaits HE BE D 3_124_999
  exact-box-wait f =
      let fresh = start-fresh A i hear_of floor-alike D in
      let x = shown HE BE D fresh 32 3_124_999 Asking (Asks A i hear_of floor-alike D) (AsksFor 0) (to-asks A i hear_of floor-alike D) asking in
      omega (arith, x.length, f x.span tt x.through)

  -- a link waits: the head admits a box that never answers
  abbrev Waiting : M → Type 0
  Waiting m = HE.Waiting m.head 1

  abbrev Admitted : M → Type 0
  Admitted m = Waits A (begun H) m.head × Ok A m.box

  admitting : Way HE BE D from 0 Admitted
  admitting =
      then HE BE D from Admitted (head-call (asks (admit A i (begun H) begun_head) out)) (omega arith, tt, tt)
      ((admits A i (begun H) begun_head (begun-free A)).0, (at-fresh A i).1.ok)

  abbrev WaitsFor : ℕ → M → Type 0
  WaitsFor k m = Ready out m.head × WaitingFor A (suc k) (link_at m.head 1) × Ok A m.box

  waits-on : (k : ℕ) (m : M) → WaitsFor (suc k) m → Reach HE BE D Waiting m 1 (WaitsFor k)
  waits-on k m w =
      let y = ready-tick w.0 in
      let l = waiting-ticks w.0 A 1 k w.1 in
      let done = tick-done A m.box w.2 in
      one HE BE D Waiting m (WaitsFor k) (both-tick out tt) (y.reply, done) w.1.0 l.0
      (y.ready, l, ((box_laws A).of-tick m.box tt w.2 done).ok)

  waiting : (m : M) → Admitted m → Reach HE BE D Waiting m 3_124_999 (WaitsFor 0)
  waiting m w = again HE BE D Waiting WaitsFor (λ k y v. v.1.0) waits-on 3_124_999 m (w.0.ready, w.0.link, w.1)

  pub exact-head-wait : ¬ HeadWaits HE BE D 3_124_999
  exact-head-wait f =
      let fresh = start-fresh A i hear_of floor-alike D in
      let x = shown HE BE D fresh 0 3_124_999 Waiting Admitted (WaitsFor 0) admitting waiting in
      omega (arith, x.length, f x.span 1 x.through)
