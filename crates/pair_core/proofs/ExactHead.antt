-- The head's end of demand 3 is exact: the box isn't registered through D + 62,499,999 ticks, and the head has a registered link at their end.
-- The box's client deregisters it, and its farewell is lost. For D ticks the head hears the box's REPORT again after each.
-- Assumes nothing.
use Prim.Native.Nat.{ℕ, suc, ◌+◌}
use mathlib.Core.Path.{◌≡◌, refl, sym, ap, subst, ◌∙◌}
use mathlib.Core.Bool.{true, false≢true}
use native.Mathlib.Omega.{arith}
use Rattle.frame_queues.specs.Queues.{no_sets}
use Rattle.frame.specs.declared.Address.{Address}
use Rattle.frame_range.specs.Fits.{is_individual}
use Rattle.box_registration.specs.Registration.{is_registered}
use Rattle.box_registration.specs.declared.Registration.{Registration}
use Rattle.box_registration.specs.declared.State.TheVariants.{Registered}
use Rattle.box_calls.specs.Box.{sound_of, deregister_of}
use Rattle.box_calls.specs.Hear.{hear_of}
use Rattle.box_calls.specs.declared.FloorBox.{FloorBox}
use Rattle.head_hearing.specs.Hear.{is_for}
use Rattle.box_laws.specs.Stated.{deregister as leaving}
use Rattle.box_laws.specs.Sound.{sound-test}
use Rattle.pair_demand.specs.Run.{HeadDrops, HasRegistered, Event, head-hears, box-call, both-tick, after, Allowed}
use Rattle.pair_box.specs.End.{deregister, asked, state_of, BoxEnd}
use Rattle.pair_box.proofs.Calls.{next-registration}
use Rattle.pair_box.proofs.Exact as boxes
use Rattle.pair_box.proofs.Exact.{tick-done}
use Rattle.pair_box.proofs.Gauge.{Ok}
use Rattle.pair_box.proofs.Laws.{box_laws}
use Rattle.pair_head.specs.End.{link_at}
use Rattle.pair_head.proofs.Exact.{RegisteredFor, ready-tick, registered-ticks}
use Rattle.pair_head.proofs.Heard.{group-for, report-restarts}
use Rattle.pair_head.proofs.Ready.{Ready}
use Rattle.pair_core.specs.Ends.{ends}
use Rattle.pair_core.proofs.Alike.{floor-alike}
use Rattle.pair_core.proofs.Messages.{IsReport}
use Rattle.pair_core.proofs.OnWay.{OnWay, stays_on, ticks-on}
use Rattle.pair_core.proofs.OneLink.{out}
use Rattle.pair_core.proofs.Pairs.{Paired, to-pair}
use Rattle.pair_core.proofs.Reach.{Reach, Way, by, one, next, again, Any, then, shown}
use Rattle.pair_core.proofs.Way.{start-fresh}

module _ (A : Address) (i : is_individual A ≡ true) (D : ℕ) where
  open ends A BoxEnd use {HE, BE, M}

  abbrev Out : M → Type 0
  Out m = ¬ HasRegistered BE m.box

  -- the link has so many ticks left, and one
  record Lingers (k : ℕ) (m : M) : Type 0 where
    ready : Ready out m.head
    link : RegisteredFor A (suc k) (link_at m.head 1)
    ok : Ok A m.box
    none : Out m

  -- a tick of both: what isn't registered stays so
  module _ (k : ℕ) (m : M) (w : Lingers (suc k) m) where
    done : (BE.tick m.box tt).reply ≡ 0
    done = tick-done A m.box w.ok

    allowed : Allowed HE BE D m (both-tick out tt)
    allowed = ((ready-tick w.ready).reply, done)

    ticked : Lingers k (after HE BE m (both-tick out tt))
    ticked =
        let t = (box_laws A).of-tick m.box tt w.ok done in
        record {
          ready = (ready-tick w.ready).ready;
          link = registered-ticks w.ready A 1 k w.link;
          ok = t.ok;
          none = λ r. w.none (tt, (t.dog-falls refl tt r.1).0);
        }

    lingers-on : Reach HE BE D Out m 1 (Lingers k)
    lingers-on = one HE BE D Out m (Lingers k) (both-tick out tt) allowed w.none ticked.none ticked

  -- with a full watchdog, and the REPORT has k of its D ticks left
  record Echoes (k : ℕ) (m : M) : Type 0 where
    full : Lingers 62_499_999 m
    age : ℕ
    late : age + k ≡ D
    report : OnWay (IsReport A) age m.up

  echoes-on : (k : ℕ) (m : M) → Echoes (suc k) m → Reach HE BE D Out m 1 (Echoes k)
  echoes-on k m e =
      let y = after HE BE m (both-tick out tt) in
      let w = ticked 62_499_998 m e.full in
      let g = ticks-on (IsReport A) (BE.tick m.box tt).sent e.report in
      let hearing : Event HE BE = head-hears (record { link = 1; output = out }) (record { frame = g.octets; age = suc e.age }) in
      let meant = subst (λ (d : Address). is_for y.head.head d ≡ true) (sym g.is.2) (group-for y.head.head) in
      let r = report-restarts w.ready A 1 g.octets g.message g.carries g.is.1 meant no_sets g.is.0 w.link.0 in
      let full : Lingers 62_499_999 (after HE BE y hearing) = record { ready = r.0.ready; link = r.1; ok = w.ok; none = w.none } in
      by HE BE D Out 0 (Echoes k) (both-tick out tt) (allowed 62_499_998 m e.full) e.full.none
      (one HE BE D Out y (Echoes k) hearing (g.among, omega (arith, e.late)) w.none w.none
      (record { full = full; age = suc e.age; late = omega (arith, e.late); report = g }))

  -- the client of the box deregisters it
  leaves : (b : FloorBox) (n : ℕ) → boxes.RegisteredFor A n b
      → Ok A (asked deregister b).next × (¬ (state_of (asked deregister b).next ≡ Registered))
  unfolding deregister_of sound_of
  leaves b n w =
      let o = w.ok in
      let r = next-registration leaving b (rw (o.holds.address, sound-test o.holds.processes.sound, w.state)) in (
        ((box_laws A).of-call b deregister o tt).ok,
        λ e. false≢true (sym (ap (λ (x : Registration). is_registered x.state) r) ∙ ap is_registered e),
      )

  left : (m : M) → Paired A i hear_of floor-alike D m → Way HE BE D m 0 (Echoes D)
  left m q =
      let x = leaves m.box 62_500_000 q.1 in
      then HE BE D m (Echoes D) (box-call deregister) tt
      (record {
        full = record { ready = q.0.ready; link = q.0.link; ok = x.0; none = λ r. x.1 r.1 };
        age = 0;
        late = omega arith;
        report = stays_on (IsReport A) (BE.call m.box deregister).sent q.3;
      })

  stays : (m : M) → Echoes D m → Reach HE BE D Out m (D + 62_499_999) (Lingers 0)
  stays m e =
      next HE BE D Out D 62_499_999 (Echoes 0) (Lingers 0) (again HE BE D Out Echoes (λ k y v. v.full.none) echoes-on D m e)
      (λ y v. again HE BE D Out Lingers (λ k z w. w.none) lingers-on 62_499_999 y v.full)

  pub exact-head-drops : ¬ HeadDrops HE BE D (D + 62_499_999)
  exact-head-drops f =
      let fresh = start-fresh A i hear_of floor-alike D in
      let way = next HE BE D (Any HE BE D) 32 0 (Paired A i hear_of floor-alike D) (Echoes D) (to-pair A i hear_of floor-alike D) left in
      let x = shown HE BE D fresh 32 (D + 62_499_999) Out (Echoes D) (Lingers 0) way stays in
      f x.span (omega (arith, x.length)) x.through (1, x.ends.link.0)
