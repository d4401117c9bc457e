-- Sums 11 and 12: the box that has heard the GATE waits 100 ticks for its first grant, and serves it.
-- Assumes nothing.
use Rattle.std.proofs.Common.{Some}
use Prim.Native.Nat.{ℕ, zero, suc, ◌+◌, ◌^◌, ◌≤◌, ◌<◌}
use mathlib.Core.Path.{◌≡◌, refl, ap, ◌∙◌}
use mathlib.Core.Bool.{false}
use mathlib.Core.List.{List, [], ◌∷◌, map}
use mathlib.Core.Logic.{◌≢◌}
use native.Mathlib.Omega.{arith}
use borrow.Author.Tests.{le-leb, ne_eqb}
use lib.ListN.{length}
use Rattle.clock.specs.Counts.{next_of, is_past, nearer, reach}
use Rattle.clock.specs.Laws.{distance-near, is_past-near, reach_near, nearer-ahead, start-gap}
use Rattle.clock.specs.Numbers.{needed}
use Rattle.clock.specs.declared.Count.{Count}
use Rattle.clock.specs.declared.Quanta.{Quanta}
use Rattle.frame.specs.Layout.{listed}
use Rattle.frame.specs.declared.Grants.{Grants}
use Rattle.frame.specs.declared.Grants.TheVariants.{One, Two}
use Rattle.frame.specs.declared.Message.{Message}
use Rattle.box_grants.specs.Activation.{settle}
use Rattle.box_grants.specs.Laws.{packed-list}
use Rattle.box_grants.specs.Listed.{list_of, packed, choose_of}
use Rattle.clock.specs.declared.Span.{Span}
use Rattle.box_grants.specs.declared.GrantList.{GrantList}
use Rattle.box_light.specs.Light.{light_in, resting, laser_on_for}
use Rattle.box_light.specs.declared.Phase.TheVariants.{Due, Lit}
use Rattle.box_registration.specs.Registration.{heard}
use Rattle.box_registration.specs.declared.State.TheVariants.{Registered}
use Rattle.box_processes.specs.Parts.{with_count}
use Rattle.box_processes.specs.declared.Processes.{Processes}
use Rattle.box_activation.specs.Activation.{begin, activate}
use Rattle.box_hearing.specs.Gate.{entry_of, gated}
use Rattle.box_hearing.specs.Page.{taken_of}
use Rattle.box_ticking.specs.Tick.{tick_of as processes_tick}
use Rattle.box_calls.specs.Answer.{accepted}
use Rattle.box_calls.specs.Box.{tick_of}
use Rattle.box_calls.specs.Hear.{hear_of}
use Rattle.box_calls.specs.declared.Answer.{Answer}
use Rattle.box_calls.specs.declared.FloorBox.{FloorBox}
use Rattle.box_laws.specs.Calls.{call-accepted}
use Rattle.box_laws.specs.Stated.{hear, tick, Run, calls}
use Rattle.box_laws.specs.Gate.{gate-list}
use Rattle.box_laws.proofs.Runs.{run_holds}
use Rattle.box_laws.specs.Sends.{tick-sends}
use Rattle.box_laws.specs.Served.{ticks_on, Waits, Serves, GrantServed}
use Rattle.box_laws.specs.Sound.{count-keeps}
use Rattle.box_laws.specs.Sums.{Hears, grant, Played, SumEleven, SumTwelve}
use Rattle.box_laws.proofs.Activated.{activate-leaves}
use Rattle.box_laws.proofs.Lasting.{tick_is}
use Rattle.box_laws.proofs.Served.{chosen-one, grant-served}

-- THE COUNT
counts : (k : ℕ) (b : FloorBox) → Run b → b.processes.count.0 + k < 2 ^ 32 → (ticks_on k b).processes.count.0 ≡ b.processes.count.0 + k
unfolding next_of
counts zero b u h = omega arith
counts (suc k) b u h =
    let n : (tick_of b).next.processes.count ≡ next_of b.processes.count =
    ap (λ (p : Processes). p.count) (tick_is b u) ∙ (activate-leaves (processes_tick b.processes).next).0 ∙ (tick-sends b.processes).count in
    let c : (tick_of b).next.processes.count.0 ≡ b.processes.count.0 + 1 = ap (λ (x : Count). x.0) n ∙ omega arith in
    counts k (tick_of b).next (calls b u tick) (omega arith) ∙ omega arith

abbrev first : Span
first = record { start = record { 0 = 1100 }; length = record { 0 = 200 } }

-- THE MESSAGE
-- what activation waits for
waits-for : (r : Processes) (x : Span) (l : List Span) (w : ℕ) → r.light ≡ resting → r.registration.state ≡ Registered
    → choose_of r.count.0 (needed r.registration.sync.0) r.list ≡ record { list = packed l; chosen = Some x }
    → reach r.count.0 x.start.0 ≡ Some (record { 0 = w }) → w ≢ 0
    → ((activate r).light ≡ light_in (Due x r.registration.sync) (record { left = w })) × ((activate r).list ≡ packed l)
unfolding activate begin
waits-for r x l w e i c a d = rw (e, i, c, a, ne_eqb w 0 d) (refl, refl)

-- the first of two that are ahead, where the other is not nearer
chosen-first : (now need : ℕ) (s : GrantList) (e x : Span) → list_of s ≡ e ∷ x ∷ [] → is_past now e.start.0 ≡ false → is_past now x.start.0 ≡ false
    → nearer now x.start.0 e.start.0 ≡ false → need ≤ e.length.0
    → choose_of now need s ≡ record { list = packed (e ∷ x ∷ []); chosen = Some e }
unfolding choose_of settle
chosen-first now need s e x l a b n f = rw (l, a, b, n, le-leb need e.length.0 f)

module _ (b : FloorBox) (m : Message) (random : ℕ) (grants : Grants) (u : Hears b m random grants) where
  abbrev p : Processes
  p = with_count b.processes (record { 0 = 1000 })

  abbrev r : Processes
  r = (gated p (listed grants)).next

  heard-is : (hear_of b m random).next.processes ≡ activate r
  unfolding accepted
  heard-is =
      ap (λ (x : Answer). x.next.processes) (call-accepted (hear m random) b u.accepted).answered
      ∙ rw (u.body, u.count)

  gate-leaves : (r.light ≡ resting) × (r.count ≡ record { 0 = 1000 }) × (r.registration ≡ heard b.processes.registration)
  unfolding gated
  gate-leaves = rw u.registered (u.rest, refl, refl)

  gate-holds : list_of r.list ≡ map entry_of (taken_of 1000 0 (listed grants))
  gate-holds =
      let s = count-keeps b.processes (run_holds u.reached).processes.sound (record { 0 = 1000 }) in
      gate-list p grants (rw u.registered) s ∙ rw u.empty

  after-count : (hear_of b m random).next.processes.count ≡ record { 0 = 1000 }
  after-count = ap (λ (q : Processes). q.count) heard-is ∙ (activate-leaves r).0 ∙ gate-leaves.1

  counted : (k : ℕ) → k ≤ 300 → (ticks_on k (hear_of b m random).next).processes.count ≡ record { 0 = 1000 + k }
  counted k h =
      let c = counts k (hear_of b m random).next (calls b u.reached (hear m random)) (rw after-count (omega arith)) in
      ap (λ (n : ℕ). record { 0 = n }) (c ∙ rw after-count)

  after-sync : (hear_of b m random).next.processes.registration.sync ≡ record { 0 = 10 }
  after-sync = ap (λ (q : Processes). q.registration.sync) heard-is ∙ rw ((activate-leaves r).1, gate-leaves.2) u.sync

  -- 100 ticks before its first grant, with these in its list
  module _ (l : List Span) (c : choose_of 1000 (needed 10) r.list ≡ record { list = packed l; chosen = Some first }) where
    chooses : ((activate r).light ≡ light_in (Due first (record { 0 = 10 })) (record { left = 100 })) × ((activate r).list ≡ packed l)
    chooses =
        let g = gate-leaves in
        let i : r.registration.state ≡ Registered = rw g.2 u.registered in
        let s : r.registration.sync ≡ record { 0 = 10 } = rw g.2 u.sync in
        let w = waits-for r first l 100 g.0 i (rw (g.1, s) c) (rw g.1 (reach_near 1000 1100 (omega arith))) (omega arith) in
        (w.0 ∙ ap (λ (q : Quanta). light_in (Due first q) (record { left = 100 })) s, w.1)

    waits : Waits 100 first (record { 0 = 10 }) (hear_of b m random).next
    waits =
        record {
          reached = calls b u.reached (hear m random);
          due = ap (λ (q : Processes). q.light) heard-is ∙ chooses.0;
          lasts = rw (heard-is, (activate-leaves r).1, gate-leaves.2) (omega arith);
        }

    held : length l ≤ 16 → list_of (hear_of b m random).next.processes.list ≡ l
    held h = ap (λ (q : Processes). list_of q.list) heard-is ∙ ap list_of chooses.1 ∙ packed-list l h

    serves : Serves 100 first (record { 0 = 10 }) (hear_of b m random).next
    unfolding GrantServed
    serves = grant-served 100 first (record { 0 = 10 }) (hear_of b m random).next waits

    played : Played (hear_of b m random).next
    played = record { count = counted; lights = serves.lights; tells = serves.tells }

pub sum-eleven : SumEleven
unfolding SumEleven
sum-eleven b m random force u =
    let g = One (grant 1100 200 force) in
    let e : list_of (r b m random g u).list ≡ first ∷ [] = gate-holds b m random g u ∙ rw (start-gap 1000 1100) in
    let c = chosen-one 1000 (needed 10) (r b m random g u).list first e (is_past-near 1000 1100 (omega arith)) (omega arith) in
    let s = serves b m random g u (first ∷ []) c in
    (played b m random g u (first ∷ []) c, s.ends (rw (held b m random g u (first ∷ []) c (omega arith))))

pub sum-twelve : SumTwelve
unfolding SumTwelve
sum-twelve b m random length force other f u =
    let g = Two (grant 1100 200 force) (grant 1300 length other) in
    let x : Span = record { start = record { 0 = 1300 }; length = record { 0 = length } } in
    let q = r b m random g u in
    let e : list_of q.list ≡ first ∷ x ∷ [] = gate-holds b m random g u ∙ rw (start-gap 1000 1100, start-gap 1000 1300) in
    let n : nearer 1000 1300 1100 ≡ false = nearer-ahead 1000 1300 1100 (omega arith) (omega arith) in
    let c =
    chosen-first 1000 (needed 10) q.list first x e (is_past-near 1000 1100 (omega arith)) (is_past-near 1000 1300 (omega arith)) n (omega arith) in
    let s = serves b m random g u (first ∷ x ∷ []) c in
    let a = (hear_of b m random).next in
    let there : (ticks_on 300 a).processes.count.0 ≡ 1300 = ap (λ (x : Count). x.0) (counted b m random g u 300 (omega arith)) in
    let sync = after-sync b m random g u in
    let lit =
    s.next x (rw (held b m random g u (first ∷ x ∷ []) c (omega arith))) (rw there (distance-near 1300 1300 (omega arith))) (rw sync f) in
    (played b m random g u (first ∷ x ∷ []) c, lit ∙ ap (λ (q : Quanta). light_in (Lit (record { 0 = length }) q) (laser_on_for q)) sync)
