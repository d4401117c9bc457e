-- Lemmas: a discovery window is on its way only in REGISTERING: every step keeps that, and then no tick is answered 14.
-- Assumes nothing.
use Rattle.std.specs.Prelude.{Option, None, Some, ℕ, ◌≡◌, refl, Bool, true, false, ◌&&◌, List, eqb}
use Rattle.std.proofs.Common.{sym, ◌∙◌}
use Rattle.std.proofs.Math.Bool.{and-eq-true_iff}
use Rattle.std.proofs.lemmas.Bool.{false≢true}
use Rattle.laws.specs.Cases.{either}
use Rattle.clock.specs.Counts.{reach, next_of}
use Rattle.clock.specs.Numbers.{start_in_range, needed, serves}
use Rattle.clock.specs.Timers.{ticked}
use Rattle.clock.specs.declared.Quanta.{Quanta}
use Rattle.clock.specs.declared.Span.{Span}
use Rattle.frame.specs.Layout.{listed}
use Rattle.frame.specs.declared.Body.{Body}
use Rattle.frame.specs.declared.Body.TheVariants.{Gate, Discovery, Report, RegisterReq as Request, Register, RegisterAck}
use Rattle.frame.specs.declared.Grant.{Grant}
use Rattle.frame.specs.declared.RegisterFlag.{RegisterFlag}
use Rattle.frame.specs.declared.RegisterFlag.TheVariants.{Reregister, Deregister, Ack, Nack}
use Rattle.box_grants.specs.Listed.{choose_of}
use Rattle.box_light.specs.Light.{randomly, is_at_rest}
use Rattle.box_light.specs.Tick.{after, tick_of as light_tick}
use Rattle.box_light.specs.declared.Beam.{Beam}
use Rattle.box_light.specs.declared.Light.{Light}
use Rattle.box_light.specs.declared.Phase.{Phase}
use Rattle.box_light.specs.declared.Phase.TheVariants.{Rest, Before, Random, Warming, Asking, Due, Lit, Open, Fading}
use Rattle.box_light.specs.declared.LightTicked.{LightTicked}
use Rattle.box_registration.specs.Registration.{is_registered, is_registering}
use Rattle.box_registration.specs.Tick.{tick_of as registration_tick}
use Rattle.box_registration.specs.declared.Bell.{Bell}
use Rattle.box_registration.specs.declared.Registration.{Registration}
use Rattle.box_registration.specs.declared.State.{State}
use Rattle.box_registration.specs.declared.State.TheVariants.{Wait, Registering, RegisterReq, Registered}
use Rattle.box_processes.specs.Parts.{with_count, with_registration, with_list, with_light}
use Rattle.box_processes.specs.declared.Processes.{Processes}
use Rattle.box_processes.specs.declared.Step.{Step}
use Rattle.box_activation.specs.Activation.{light_up, begin, head_for, serve, activate}
use Rattle.box_ticking.specs.Tick.{ring, shine, timed, transmitted, tick_of}
use Rattle.box_hearing.specs.Discovery.{discover}
use Rattle.box_hearing.specs.Gate.{gated}
use Rattle.box_hearing.specs.Hear.{hear_of}
use Rattle.box_hearing.specs.Register.{register_of}
use Rattle.box_laws.specs.Tick.{Says, bell-says}

-- a window is on its way while it is waited for, or its laser on
abbrev awaits : Phase → Bool
awaits Rest = false
awaits (Before random sync) = true
awaits (Random sync) = true
awaits Warming = true
awaits Asking = false
awaits (Due entry sync) = false
awaits (Lit length sync) = false
awaits Open = false
awaits Fading = false

abbrev pub Awaited : Phase → State → Type 0
Awaited p s = awaits p ≡ true → is_registering s ≡ true

-- of the box
abbrev pub Calm : Processes → Type 0
Calm p = Awaited p.light.phase p.registration.state

-- a phase that has none on its way
pub none : {P : Type 0} → false ≡ true → P
none a = absurd (false≢true a)

-- where a state was other than REGISTERING none is on its way
none-awaited : (p : Phase) (s t : State) → is_registering s ≡ false → Awaited p s → Awaited p t
none-awaited p s t e h a = absurd (false≢true (sym e ∙ h a))

-- activation waits for grants alone
begin-calm : (p : Processes) (e : Span) (sync wait : Quanta) → Calm (begin p e sync wait)
unfolding begin light_up
begin-calm p e sync wait = either Calm (eqb wait.0 0) _ _ (λ _. none) (λ _. none)

head-calm : (r : Option Quanta) (p : Processes) (e : Span) (sync : Quanta) → Calm p → Calm (head_for p e sync r)
head-calm None p e sync h = h
head-calm (Some wait) p e sync h = begin-calm p e sync wait

serve-calm : (c : Option Span) (p : Processes) → Calm p → Calm (serve c p)
serve-calm None p h = h
serve-calm (Some e) p h = head-calm (reach p.count.0 e.start.0) p e p.registration.sync h

pub activate-calm : (p : Processes) → Calm p → Calm (activate p)
unfolding activate
activate-calm p h =
    let c = choose_of p.count.0 (needed p.registration.sync.0) p.list in
    either Calm (is_at_rest p.light && is_registered p.registration.state) _ _ (λ _. serve-calm c.chosen (with_list p c.list) h) (λ _. h)

-- a tick of the registration
ring-calm : (bell : Bell) (p : Processes) (r : Registration) → Calm p → Says bell p.registration.state r.state
    → Calm (ring bell (with_registration p r)).next
ring-calm Bell.Quiet p r h e = rw e h
ring-calm Bell.Retry p r h e = none-awaited p.light.phase p.registration.state r.state (rw e.0) h
ring-calm Bell.Lost p r h e = none
ring-calm Bell.Report p r h e = rw e h

pub timed-calm : (p : Processes) → Calm p → Calm (timed p).next
unfolding timed
timed-calm p h =
    let t = registration_tick p.registration in
    ring-calm t.bell (with_count p (next_of p.count)) t.registration h (bell-says p.registration)

-- a tick of the transmitter: a window that opens was on its way
abbrev pub Brings : Beam → Phase → State → Type 0
Brings Beam.Quiet p s = Awaited p s
Brings Beam.Window p s = (is_registering s ≡ true) × Awaited p RegisterReq
Brings (Beam.Start entry sync) p s = Unit {0}
Brings Beam.Opened p s = Awaited p s
Brings Beam.Closed p s = Awaited p s

after-brings : (p : Phase) (s : State) → Awaited p s → Brings (after p).beam (after p).light.phase s
unfolding randomly
after-brings Rest s h = h
after-brings (Before random sync) s h = either (λ (l : Light). Awaited l.phase s) (eqb random.0 0) _ _ (λ _. h) (λ _. h)
after-brings (Random sync) s h = h
after-brings Warming s h = (h refl, none)
after-brings Asking s h = h
after-brings (Due entry sync) s h = tt
after-brings (Lit length sync) s h = h
after-brings Open s h = h
after-brings Fading s h = h

pub tick-brings : (l : Light) (s : State) → Awaited l.phase s → Brings (light_tick l).beam (light_tick l).light.phase s
unfolding light_tick
tick-brings l s h =
    either (λ (x : LightTicked). Brings x.beam x.light.phase s) (ticked l.timer).rang _ _ (λ _. after-brings l.phase s h) (λ _. h)

shine-calm : (beam : Beam) (p : Processes) → Brings beam p.light.phase p.registration.state
    → ((shine beam p).ok ≡ true) × Calm (shine beam p).next
unfolding light_up
shine-calm Beam.Quiet p h = (refl, h)
shine-calm Beam.Window p h = h
shine-calm (Beam.Start entry sync) p h = (refl, none)
shine-calm Beam.Opened p h = (refl, h)
shine-calm Beam.Closed p h = (refl, h)

transmitted-calm : (p : Processes) → Calm p → ((transmitted p).ok ≡ true) × Calm (transmitted p).next
unfolding transmitted
transmitted-calm p h =
    let t = light_tick p.light in
    shine-calm t.beam (with_light p t.light) (tick-brings p.light p.registration.state h)

pub tick_calm : (p : Processes) → Calm p → ((tick_of p).ok ≡ true) × Calm (tick_of p).next
unfolding tick_of
tick_calm p h = transmitted-calm (timed p).next (timed-calm p h)

-- a message
gated-calm : (p : Processes) (gs : List Grant) → Calm p → Calm (gated p gs).next
unfolding gated
gated-calm p gs h = either (λ (x : Step). Calm x.next) (is_registered p.registration.state) _ _ (λ _. h) (λ _. h)

discover-calm : (p : Processes) (grant : Grant) (sync : Quanta) (own : Bool) (random : ℕ) → Calm p → Calm (discover p grant sync own random)
unfolding discover
discover-calm p grant sync own random h =
    let r = is_registering p.registration.state in
    let x = is_at_rest p.light in
    let fits = start_in_range p.count.0 grant.start.0 && serves sync.0 grant.length.0 in
    either Calm (r && x && fits) _ _
    (λ t _. ((and-eq-true_iff r x).0 ((and-eq-true_iff (r && x) fits).0 t).0).0)
    (λ _. h)

register-calm : (t : State) (flag : RegisterFlag) (p : Processes) (port : ℕ) (sync : Quanta) → p.registration.state ≡ t → Calm p
    → Calm (register_of t flag p port sync).next
register-calm RegisterReq Ack p port sync e h = none-awaited p.light.phase p.registration.state Registered (rw e) h
register-calm RegisterReq Nack p port sync e h = none
register-calm RegisterReq Reregister p port sync e h = h
register-calm RegisterReq Deregister p port sync e h = h
register-calm Registered Reregister p port sync e h = none-awaited p.light.phase p.registration.state Registered (rw e) h
register-calm Registered Deregister p port sync e h = none
register-calm Registered Ack p port sync e h = h
register-calm Registered Nack p port sync e h = h
register-calm Wait flag p port sync e h = h
register-calm Registering flag p port sync e h = h

pub hear-calm : (body : Body) (p : Processes) (own : Bool) (random : ℕ) → Calm p → Calm (hear_of body p own random).next
hear-calm (Gate grants) p own random h = gated-calm p (listed grants) h
hear-calm (Discovery grant sync) p own random h = discover-calm p grant sync own random h
hear-calm (Register port flag sync pending) p own random h = register-calm p.registration.state flag p port sync refl h
hear-calm (Report sets) p own random h = h
hear-calm (Request flag pending) p own random h = h
hear-calm (RegisterAck flag port sync) p own random h = h
