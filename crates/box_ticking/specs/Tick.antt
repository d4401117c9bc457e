-- Rules R111, R113, R120, R133, R136 to R138: a tick of the box, stage by stage.
-- Assumes nothing.
use Rattle.std.specs.Prelude.{Option, None, Some, true, [], ◌∷◌}
use Rattle.frame.specs.declared.Body.{Body}
use Rattle.clock.specs.Counts.{next_of}
use Rattle.frame_queues.specs.Queues.{no_sets}
use Rattle.frame.specs.declared.Body.TheVariants.{Report, RegisterReq}
use Rattle.frame.specs.declared.RegisterReqFlag.{RegisterReqFlag}
use Rattle.box_grants.specs.Activation.{room}
use Rattle.box_light.specs.Tick.{tick_of as light_tick}
use Rattle.box_light.specs.declared.Beam.{Beam}
use Rattle.box_registration.specs.Registration.{requesting, is_registering}
use Rattle.box_registration.specs.Tick.{tick_of as registration_tick}
use Rattle.box_registration.specs.declared.Bell.{Bell}
use Rattle.box_telling.specs.Told.{notices_of}
use Rattle.box_telling.specs.declared.Notice.{Notice}
use Rattle.box_processes.specs.Leaving.{farewell}
use Rattle.box_processes.specs.Parts.{with_count, with_registration, with_light, waiting}
use Rattle.box_processes.specs.declared.Processes.{Processes}
use Rattle.box_processes.specs.declared.Step.{Step}
use Rattle.box_activation.specs.Activation.{light_up}
use Rattle.box_ticking.specs.declared.Stage.{Stage}

abbrev told : Processes → Notice → Option Body → Stage
told p n s = record { ok = true; next = p; notice = n; sent = s }

abbrev pub ring : Bell → Processes → Stage
ring Bell.Quiet p = told p Notice.Nothing None
-- R120
ring Bell.Retry p = told p Notice.Retry None
-- R137
ring Bell.Lost p = told (waiting p) Notice.Deregistered farewell
-- R138
ring Bell.Report p = told p Notice.Nothing (Some (Report no_sets))

abbrev pub shine : Beam → Processes → Stage
shine Beam.Quiet p = told p Notice.Nothing None
-- R111, R113
shine Beam.Window p =
    record {
      ok = is_registering p.registration.state;
      next = with_registration p (requesting p.registration);
      notice = Notice.Window;
      sent = Some (RegisterReq RegisterReqFlag.Register room);
    }
shine (Beam.Start entry sync) p = told (light_up p entry sync) Notice.Nothing None
-- R133
shine Beam.Opened p = told p Notice.Open None
shine Beam.Closed p = told p Notice.Close None

unfoldable pub timed : Processes → Stage
timed p =
    let t = registration_tick p.registration in
    ring t.bell (with_registration (with_count p (next_of p.count)) t.registration)

unfoldable pub transmitted : Processes → Stage
transmitted p =
    let t = light_tick p.light in
    shine t.beam (with_light p t.light)

unfoldable pub tick_of : Processes → Step
tick_of p =
    let a = timed p in
    let b = transmitted a.next in
    record { ok = b.ok; next = b.next; notices = notices_of (a.notice ∷ b.notice ∷ []); first = a.sent; second = b.sent }
