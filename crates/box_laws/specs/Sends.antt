-- Lemmas: what each call of the box sends fits its fields, and the count that it leaves.
-- Assumes nothing.
use Rattle.std.specs.Prelude.{Option, None, Some, ℕ, ◌^◌, ◌<◌, ◌≡◌, refl, Bool, ◌&&◌, List}
use Rattle.std.proofs.Common.{◌∙◌, arith}
use Rattle.laws.specs.Cases.{either}
use Rattle.clock.specs.Counts.{next_of}
use Rattle.clock.specs.Numbers.{start_in_range, serves}
use Rattle.clock.specs.declared.Count.{Count}
use Rattle.clock.specs.declared.Quanta.{Quanta}
use Rattle.frame_queues.specs.Laws.{none-fit}
use Rattle.frame.specs.Layout.{listed}
use Rattle.frame.specs.Range.{BodyFits}
use Rattle.frame.specs.declared.Body.{Body}
use Rattle.frame.specs.declared.Body.TheVariants.{Gate, Discovery, Report, RegisterReq as Request, Register, RegisterAck}
use Rattle.frame.specs.declared.Grant.{Grant}
use Rattle.frame.specs.declared.RegisterFlag.{RegisterFlag}
use Rattle.frame.specs.declared.RegisterFlag.TheVariants.{Reregister, Deregister, Ack, Nack}
use Rattle.box_light.specs.Light.{is_at_rest}
use Rattle.box_light.specs.Tick.{tick_of as light_tick}
use Rattle.box_light.specs.declared.Beam.{Beam}
use Rattle.box_registration.specs.Registration.{is_registered, is_registering}
use Rattle.box_registration.specs.Tick.{tick_of as registration_tick}
use Rattle.box_registration.specs.declared.Bell.{Bell}
use Rattle.box_registration.specs.declared.State.{State}
use Rattle.box_registration.specs.declared.State.TheVariants.{Wait, Registering, RegisterReq, Registered}
use Rattle.box_processes.specs.Parts.{with_count, with_registration, with_light}
use Rattle.box_processes.specs.declared.Processes.{Processes}
use Rattle.box_processes.specs.declared.Step.{Step}
use Rattle.box_activation.specs.Activation.{light_up}
use Rattle.box_ticking.specs.Tick.{ring, shine, timed, transmitted, tick_of}
use Rattle.box_hearing.specs.Discovery.{discover}
use Rattle.box_hearing.specs.Gate.{gated}
use Rattle.box_hearing.specs.Hear.{hear_of}
use Rattle.box_hearing.specs.Register.{register_of}

-- what is sent fits its fields
abbrev pub SentFits : Option Body → Type 0
SentFits None = Unit {0}
SentFits (Some body) = BodyFits body

-- a step that leaves this count, and sends what fits
pub record Sends (now : Count) (s : Step) : Type 0 where
  pub count : s.next.count ≡ now
  pub first : SentFits s.first
  pub second : SentFits s.second

-- a tick, in its two stages
ring-sends : (bell : Bell) (p : Processes) → ((ring bell p).next.count ≡ p.count) × SentFits (ring bell p).sent
ring-sends Bell.Quiet p = (refl, tt)
ring-sends Bell.Retry p = (refl, tt)
ring-sends Bell.Lost p = (refl, omega arith)
ring-sends Bell.Report p = (refl, none-fit)

timed-sends : (p : Processes) → ((timed p).next.count ≡ next_of p.count) × SentFits (timed p).sent
unfolding timed
timed-sends p =
    let t = registration_tick p.registration in
    ring-sends t.bell (with_registration (with_count p (next_of p.count)) t.registration)

shine-sends : (beam : Beam) (p : Processes) → ((shine beam p).next.count ≡ p.count) × SentFits (shine beam p).sent
unfolding light_up
shine-sends Beam.Quiet p = (refl, tt)
shine-sends Beam.Window p = (refl, omega arith)
shine-sends (Beam.Start entry sync) p = (refl, tt)
shine-sends Beam.Opened p = (refl, tt)
shine-sends Beam.Closed p = (refl, tt)

transmitted-sends : (p : Processes) → ((transmitted p).next.count ≡ p.count) × SentFits (transmitted p).sent
unfolding transmitted
transmitted-sends p =
    let t = light_tick p.light in
    shine-sends t.beam (with_light p t.light)

pub tick-sends : (p : Processes) → Sends (next_of p.count) (tick_of p)
unfolding tick_of
tick-sends p =
    let a = timed-sends p in
    let b = transmitted-sends (timed p).next in
    record { count = b.0 ∙ a.0; first = a.1; second = b.1 }

-- a message
gated-sends : (p : Processes) (gs : List Grant) → Sends p.count (gated p gs)
unfolding gated
gated-sends p gs =
    either (Sends p.count) (is_registered p.registration.state) _ _
    (λ _. record { count = refl; first = tt; second = tt })
    (λ _. record { count = refl; first = tt; second = tt })

discover-count : (p : Processes) (grant : Grant) (sync : Quanta) (own : Bool) (random : ℕ) → (discover p grant sync own random).count ≡ p.count
unfolding discover
discover-count p grant sync own random =
    either (λ (q : Processes). q.count ≡ p.count)
    (is_registering p.registration.state && is_at_rest p.light && (start_in_range p.count.0 grant.start.0 && serves sync.0 grant.length.0)) _ _
    (λ _. refl) (λ _. refl)

register-sends : (t : State) (flag : RegisterFlag) (p : Processes) (port : ℕ) (sync : Quanta) → port < 2 ^ 16 → sync.0 < 2 ^ 16
    → Sends p.count (register_of t flag p port sync)
register-sends RegisterReq Ack p port sync h k = record { count = refl; first = (h, k); second = none-fit }
register-sends RegisterReq Nack p port sync h k = record { count = refl; first = (h, k); second = tt }
register-sends RegisterReq Reregister p port sync h k = record { count = refl; first = tt; second = tt }
register-sends RegisterReq Deregister p port sync h k = record { count = refl; first = tt; second = tt }
register-sends Registered Reregister p port sync h k = record { count = refl; first = (h, k); second = none-fit }
register-sends Registered Deregister p port sync h k = record { count = refl; first = tt; second = tt }
register-sends Registered Ack p port sync h k = record { count = refl; first = tt; second = tt }
register-sends Registered Nack p port sync h k = record { count = refl; first = tt; second = tt }
register-sends Wait flag p port sync h k = record { count = refl; first = tt; second = tt }
register-sends Registering flag p port sync h k = record { count = refl; first = tt; second = tt }

pub hear-sends : (body : Body) (p : Processes) (own : Bool) (random : ℕ) → BodyFits body → Sends p.count (hear_of body p own random)
hear-sends (Gate grants) p own random h = gated-sends p (listed grants)
hear-sends (Discovery grant sync) p own random h = record { count = discover-count p grant sync own random; first = tt; second = tt }
hear-sends (Register port flag sync pending) p own random h = register-sends p.registration.state flag p port sync h.0 h.1
hear-sends (Report sets) p own random h = record { count = refl; first = tt; second = tt }
hear-sends (Request flag pending) p own random h = record { count = refl; first = tt; second = tt }
hear-sends (RegisterAck flag port sync) p own random h = record { count = refl; first = tt; second = tt }
