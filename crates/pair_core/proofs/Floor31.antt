-- The night on floor 31: the head has dropped the box, and its farewell got lost. It goes on calling for newcomers, and the box takes the call
-- as proof that all is well.
-- Assumes nothing.
use Prim.Native.Nat.{ℕ, ◌+◌, ◌^◌, ◌<◌}
use mathlib.Core.Path.{◌≡◌, refl, subst}
use mathlib.Core.Bool.{true}
use native.Mathlib.Omega.{arith}
use Rattle.clock.specs.Numbers.{watchdog, wait}
use Rattle.clock.specs.declared.Count.{Count}
use Rattle.frame.specs.declared.Address.{Address}
use Rattle.frame_range.specs.Fits.{is_individual}
use Rattle.head_state.specs.declared.Head.{Head}
use Rattle.head_laws.specs.Runs.{run-count}
use Rattle.pair_demand.specs.Run.{Event, head-call, box-hears, both-tick, after, NoHalfOpen}
use Rattle.pair_box.specs.Spoiled.{spoiled_hear, SpoiledEnd}
use Rattle.pair_box.proofs.Spoiled.{spoiled-else, discovery-restarts}
use Rattle.pair_head.specs.End.{asks}
use Rattle.pair_core.specs.Ends.{ends}
use Rattle.pair_core.specs.Floor31.{Floor31}
use Rattle.pair_core.proofs.Lingers.{Silent, Lingers, Echoes, allowed, ticked, lingers, echoes}
use Rattle.pair_core.proofs.Messages.{IsCall, call-valid}
use Rattle.pair_core.proofs.OnWay.{OnWay, sent-on, only}
use Rattle.pair_core.proofs.OneLink.{out}
use Rattle.pair_core.proofs.Pairs.{Dropped, to-dropped}
use Rattle.pair_core.proofs.Quiet.{grant_at, sync, opening, discovery, Shut, calling, quiet-opens, shut-ticks}
use Rattle.pair_core.proofs.Reach.{Reach, by, next, shown}
use Rattle.pair_core.proofs.Way.{start-fresh}

module _ (A : Address) (i : is_individual A ≡ true) (D : ℕ) where
  open ends A SpoiledEnd use {HE, BE, M}

  abbrev P : M → Type 0
  P = Silent A i spoiled_hear spoiled-else D

  abbrev Q : M → Type 0
  Q = Dropped A i spoiled_hear spoiled-else D

  abbrev R : M → Type 0
  R = Lingers A i spoiled_hear spoiled-else D 0

  -- the head calls for newcomers, and the box hears it: its watchdog is full, and runs down
  abbrev Calls : M → Type 0
  Calls m = Lingers A i spoiled_hear spoiled-else D 62_499_998 m × ((start : Count) × OnWay (IsCall start) 0 m.down)

  wakes : (m : M) → Calls m → Reach HE BE D P m 62_499_999 R
  wakes m c =
      let w = c.0 in
      let g = c.1.1 in
      let hearing : Event HE BE = box-hears 0 (record { frame = g.octets; age = 0 }) in
      let grant = grant_at c.1.0 in
      let b = discovery-restarts A m.box 62_499_999 0 g.octets g.message grant sync g.carries g.is.0 g.is.1 w.box in
      by HE BE D P 62_499_999 R hearing (g.among, omega arith) w.none
      (lingers A i spoiled_hear spoiled-else D 62_499_999 (after HE BE m hearing) (record { ready = w.ready; none = w.none; box = b }))

  calls : (m : M) → Lingers A i spoiled_hear spoiled-else D 62_499_998 m → Shut A m.head → Reach HE BE D P m 62_499_999 R
  calls m w x =
      let s = m.head in
      let h = x.h in
      let k = subst (λ (y : Head). y.count.0 < 2 ^ 32) x.quiet.head (run-count w.ready.ok) in
      let o = quiet-opens A h s x.shut k x.quiet in
      let call : Event HE BE = head-call (asks (opening h.count) out) in
      let v = call-valid h.count k s w.ready in
      let g = sent-on (IsCall h.count) (discovery h.count s.head) v (refl, refl) (calling A h s).sent m.down (only o.1) in
      by HE BE D P 62_499_999 R call (k, tt, tt) w.none
      (wakes (after HE BE m call) (record { ready = o.0.ready; none = o.0.none; box = w.box }, (h.count, g)))

  stays : (m : M) → Q m → Reach HE BE D P m (D + 62_500_000) R
  stays m q =
      next HE BE D P D 62_500_000 (Echoes A i spoiled_hear spoiled-else D 0) R (echoes A i spoiled_hear spoiled-else D m q)
      (λ y e.
      by HE BE D P 62_499_999 R (both-tick out tt) (allowed A i spoiled_hear spoiled-else D 62_499_998 y e.full) e.full.none
      (calls (after HE BE y (both-tick out tt)) (ticked A i spoiled_hear spoiled-else D 62_499_998 y e.full)
      (shut-ticks A y.head e.head)))

  lasts : ¬ NoHalfOpen HE BE D watchdog wait
  lasts f =
      let fresh = start-fresh A i spoiled_hear spoiled-else D in
      let x = shown HE BE D fresh 32 (D + 62_500_000) P Q R (to-dropped A i spoiled_hear spoiled-else D) stays in
      f.box-drops x.span (omega (arith, x.length)) x.through (tt, x.ends.box.state)

pub floor-31 : Floor31
unfolding Floor31
floor-31 A i D = lasts A i D
