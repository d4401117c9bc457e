-- What every call of the box keeps beside its soundness: the port fits its type, and nothing stands behind the list in its array.
-- Assumes nothing.
use Rattle.std.proofs.Common.{Option, None, Some}
use Prim.Native.Nat.{ℕ, ◌^◌, ◌≤◌, ◌<◌}
use mathlib.Core.Path.{◌≡◌, refl, sym, ap, subst}
use mathlib.Core.Bool.{Bool, ◌&&◌}
use mathlib.Core.List.{List, [], ◌∷◌, ◌++◌, map, foldl}
use mathlib.Core.Logic.{⊎_elim}
use native.Mathlib.Omega.{arith}
use borrow.Author.Tests.{le-ltb}
use lib.Dec.{eqb}
use lib.ListN.{length, length-append}
use Rattle.laws.specs.Cases.{either, cut}
use Rattle.clock.specs.Counts.{reach, next_of}
use Rattle.clock.specs.Numbers.{start_in_range, serves, needed}
use Rattle.clock.specs.Timers.{ticked}
use Rattle.clock.specs.declared.Quanta.{Quanta}
use Rattle.clock.specs.declared.Span.{Span}
use Rattle.frame.specs.Layout.{listed}
use Rattle.frame.specs.Range.{BodyTyped}
use Rattle.frame.specs.declared.Body.{Body}
use Rattle.frame.specs.declared.Body.TheVariants.{Gate, Discovery, Report, RegisterReq as Request, Register, RegisterAck}
use Rattle.frame.specs.declared.Grant.{Grant}
use Rattle.frame.specs.declared.RegisterFlag.{RegisterFlag}
use Rattle.frame.specs.declared.RegisterFlag.TheVariants.{Reregister, Deregister, Ack, Nack}
use Rattle.box_grants.specs.Activation.{ahead, remove, settle}
use Rattle.box_grants.specs.Keeps.{listed-room, remove-shorter, settle-shorter}
use Rattle.box_grants.specs.Laws.{push-packed, ahead-shorter, Packs}
use Rattle.box_grants.specs.Listed.{list_of, packed, pushed, choose_of}
use Rattle.box_grants.specs.declared.GrantList.{GrantList}
use Rattle.box_light.specs.Light.{is_at_rest}
use Rattle.box_light.specs.Tick.{tick_of as light_tick}
use Rattle.box_light.specs.declared.Beam.{Beam}
use Rattle.box_registration.specs.Registration.{is_registered, is_registering}
use Rattle.box_registration.specs.Tick.{tick_wait, tick_report, tick_watchdog, tick_in, tick_of as registration_tick}
use Rattle.box_registration.specs.declared.Bell.{Bell}
use Rattle.box_registration.specs.declared.Registration.{Registration}
use Rattle.box_registration.specs.declared.State.{State}
use Rattle.box_registration.specs.declared.State.TheVariants.{Wait, Registering, RegisterReq, Registered}
use Rattle.box_registration.specs.declared.Ticked.{Ticked}
use Rattle.box_processes.specs.Parts.{fresh, with_count, with_registration, with_list, with_light}
use Rattle.box_processes.specs.declared.Processes.{Processes}
use Rattle.box_processes.specs.declared.Step.{Step}
use Rattle.box_activation.specs.Activation.{light_up, begin, head_for, serve, activate}
use Rattle.box_ticking.specs.Tick.{ring, shine, timed, transmitted, tick_of}
use Rattle.box_hearing.specs.Discovery.{discover}
use Rattle.box_hearing.specs.Gate.{entry_of, gated}
use Rattle.box_hearing.specs.Hear.{hear_of}
use Rattle.box_hearing.specs.Page.{taken_from, taken-list}
use Rattle.box_hearing.specs.Register.{register_of}
use Rattle.box_calls.specs.Answer.{accepted}
use Rattle.box_calls.specs.declared.Answer.{Answer}
use Rattle.box_calls.specs.declared.FloorBox.{FloorBox}
use Rattle.box_laws.specs.Calls.{step, Outcome, unsound, refuses, accepts, outcome}
use Rattle.box_laws.specs.Stated.{Call, register, deregister, report, hear, tick, answer, CallTyped}
use Rattle.box_laws.proofs.Activated.{activate-leaves}

pub record Neat (p : Processes) : Type 0 where
  pub port : p.registration.port < 2 ^ 16
  pub list : Packs p.list

-- the list
packs-of : (l : List Span) → length l ≤ 16 → Packs (packed l)
packs-of l h = record { list = l; is = refl; room = h }

packs-none : Packs (packed [])
packs-none = packs-of [] (omega arith)

push-full : (l : List Span) (e : Span) → 16 ≤ length l → pushed (packed l) e ≡ packed l
unfolding pushed
push-full l e h = rw (le-ltb (length l) 16 h)

push-packs : (l : List Span) (e : Span) → length l ≤ 16 → Packs (pushed (packed l) e)
push-packs l e h =
    ⊎_elim
    (λ (k : length l < 16).
    let long : length (l ++ (e ∷ [])) ≤ 16 = rw (length-append l (e ∷ [])) (omega arith) in
    subst Packs (sym (push-packed l e k)) (packs-of (l ++ (e ∷ [])) long))
    (λ (k : 16 ≤ length l). subst Packs (sym (push-full l e k)) (packs-of l h))
    (cut (length l) 16)

pushes-pack : (es : List Span) (s : GrantList) → Packs s → Packs (foldl pushed s es)
pushes-pack [] s w = w
pushes-pack (e ∷ es) s w = pushes-pack es (pushed s e) (subst (λ (x : GrantList). Packs (pushed x e)) (sym w.is) (push-packs w.list e w.room))

without-packs : (s : GrantList) (e : Span) → Packs (packed (remove e (list_of s)))
without-packs s e = packs-of (remove e (list_of s)) (omega (arith, listed-room s, remove-shorter e (list_of s)))

choose-packs : (now need : ℕ) (s : GrantList) → Packs (choose_of now need s).list
unfolding choose_of
choose-packs now need s =
    let l = ahead now (list_of s) in
    packs-of (settle (length l) now need l).list (omega (arith, settle-shorter now need (length l) l, ahead-shorter now (list_of s), listed-room s))

-- activation
begin-packs : (p : Processes) (e : Span) (sync wait : Quanta) → Packs p.list → Packs (begin p e sync wait).list
unfolding begin light_up
begin-packs p e sync wait w = either (λ (q : Processes). Packs q.list) (eqb wait.0 0) _ _ (λ _. without-packs p.list e) (λ _. w)

head-packs : (r : Option Quanta) (p : Processes) (e : Span) (sync : Quanta) → Packs p.list → Packs (head_for p e sync r).list
head-packs None p e sync w = w
head-packs (Some wait) p e sync w = begin-packs p e sync wait w

serve-packs : (c : Option Span) (p : Processes) → Packs p.list → Packs (serve c p).list
serve-packs None p w = w
serve-packs (Some e) p w = head-packs (reach p.count.0 e.start.0) p e p.registration.sync w

activate-packs : (p : Processes) → Packs p.list → Packs (activate p).list
unfolding activate
activate-packs p w =
    let need = needed p.registration.sync.0 in
    let c = choose_of p.count.0 need p.list in
    either (λ (q : Processes). Packs q.list) (is_at_rest p.light && is_registered p.registration.state) _ _
    (λ _. serve-packs c.chosen (with_list p c.list) (choose-packs p.count.0 need p.list))
    (λ _. w)

activate-neat : (p : Processes) → Neat p → Neat (activate p)
activate-neat p w =
    record {
      port = rw (ap (λ (r : Registration). r.port) (activate-leaves p).1) w.port;
      list = activate-packs p w.list;
    }

-- a message
gated-neat : (p : Processes) (gs : List Grant) → Neat p → Neat (gated p gs).next
unfolding gated
gated-neat p gs w =
    either (λ (x : Step). Neat x.next) (is_registered p.registration.state) _ _
    (λ _.
    record {
      port = w.port;
      list = subst Packs (sym (taken-list p gs)) (pushes-pack (map entry_of (taken_from p gs)) p.list w.list);
    })
    (λ _. w)

discover-neat : (p : Processes) (grant : Grant) (sync : Quanta) (own : Bool) (random : ℕ) → Neat p → Neat (discover p grant sync own random)
unfolding discover
discover-neat p grant sync own random w =
    either Neat (is_registering p.registration.state && is_at_rest p.light && (start_in_range p.count.0 grant.start.0 && serves sync.0 grant.length.0)) _ _
    (λ _. record { port = w.port; list = w.list })
    (λ _. w)

left-neat : {p : Processes} → Neat p → (q : Processes) → q.registration.port ≡ p.registration.port → q.list ≡ packed [] → Neat q
left-neat w q e f = record { port = rw e w.port; list = subst Packs (sym f) packs-none }

register-neat : (t : State) (flag : RegisterFlag) (p : Processes) (port : ℕ) (sync : Quanta) → Neat p → port < 2 ^ 16
    → Neat (register_of t flag p port sync).next
register-neat RegisterReq Ack p port sync w h = record { port = h; list = w.list }
register-neat RegisterReq Nack p port sync w h = left-neat w _ refl refl
register-neat RegisterReq Reregister p port sync w h = w
register-neat RegisterReq Deregister p port sync w h = w
register-neat Registered Reregister p port sync w h = record { port = h; list = w.list }
register-neat Registered Deregister p port sync w h = left-neat w _ refl refl
register-neat Registered Ack p port sync w h = w
register-neat Registered Nack p port sync w h = w
register-neat Wait flag p port sync w h = w
register-neat Registering flag p port sync w h = w

hear-neat : (body : Body) (p : Processes) (own : Bool) (random : ℕ) → Neat p → BodyTyped body → Neat (hear_of body p own random).next
hear-neat (Gate grants) p own random w h = gated-neat p (listed grants) w
hear-neat (Discovery grant sync) p own random w h = discover-neat p grant sync own random w
hear-neat (Register port flag sync pending) p own random w h = register-neat p.registration.state flag p port sync w h.0
hear-neat (Report sets) p own random w h = w
hear-neat (Request flag pending) p own random w h = w
hear-neat (RegisterAck flag port sync) p own random w h = w

-- a tick
abbrev PortOf : Registration → Ticked → Type 0
PortOf r t = t.registration.port ≡ r.port

report-port : (r : Registration) → PortOf r (tick_report r)
unfolding tick_report
report-port r = either (PortOf r) (ticked r.report).rang _ _ (λ _. refl) (λ _. refl)

tick-port : (s : State) (r : Registration) → PortOf r (tick_in s r)
unfolding tick_wait tick_watchdog
tick-port Wait r = refl
tick-port Registering r = refl
tick-port RegisterReq r = either (PortOf r) (ticked r.wait).rang _ _ (λ _. refl) (λ _. refl)
tick-port Registered r = either (PortOf r) (ticked r.watchdog).rang _ _ (λ _. refl) (λ _. report-port _)

ring-neat : (bell : Bell) (p : Processes) → Neat p → Neat (ring bell p).next
ring-neat Bell.Quiet p w = w
ring-neat Bell.Retry p w = w
ring-neat Bell.Lost p w = left-neat w _ refl refl
ring-neat Bell.Report p w = w

timed-neat : (p : Processes) → Neat p → Neat (timed p).next
unfolding timed
timed-neat p w =
    let t = registration_tick p.registration in
    ring-neat t.bell (with_registration (with_count p (next_of p.count)) t.registration)
    (record { port = rw (tick-port p.registration.state p.registration) w.port; list = w.list })

shine-neat : (beam : Beam) (p : Processes) → Neat p → Neat (shine beam p).next
unfolding light_up
shine-neat Beam.Quiet p w = w
shine-neat Beam.Window p w = record { port = w.port; list = w.list }
shine-neat (Beam.Start entry sync) p w = record { port = w.port; list = without-packs p.list entry }
shine-neat Beam.Opened p w = w
shine-neat Beam.Closed p w = w

tick-neat : (p : Processes) → Neat p → Neat (tick_of p).next
unfolding tick_of transmitted
tick-neat p w =
    let q = (timed p).next in
    let v = timed-neat p w in
    shine-neat (light_tick q.light).beam (with_light q (light_tick q.light).light) (record { port = v.port; list = v.list })

-- every call
step-neat : (c : Call) (b : FloorBox) → CallTyped c → Neat b.processes → Neat (step c b).next
step-neat register b t w = record { port = w.port; list = w.list }
step-neat deregister b t w = left-neat w _ refl refl
step-neat (report sets) b t w = record { port = w.port; list = w.list }
step-neat (hear m random) b t w =
    hear-neat m.body (with_count b.processes m.timestamp) (eqb m.destination.0 b.address.0) random
    (record { port = w.port; list = w.list }) t.1
step-neat tick b t w = tick-neat b.processes w

next-neat : (c : Call) (b : FloorBox) (x : Answer) → CallTyped c → Neat b.processes → Outcome c b x → Neat x.next.processes
unfolding accepted
next-neat c b x t w (unsound s e) = rw e w
next-neat c b x t w (refuses s r n u e) = rw e w
next-neat c b x t w (accepts s h e) = rw e (activate-neat (step c b).next (step-neat c b t w))

pub call-neat : (c : Call) (b : FloorBox) → CallTyped c → Neat b.processes → Neat (answer c b).next.processes
call-neat c b t w = next-neat c b (answer c b) t w (outcome c b)

pub fresh-neat : Neat fresh
fresh-neat = record { port = omega arith; list = packs-none }
