-- Lemmas: a tick keeps the processes sound.
-- Assumes nothing.
use Rattle.std.specs.Prelude.{◌≡◌, refl, true}
use Rattle.laws.specs.Cases.{either}
use Rattle.clock.specs.Counts.{next_of}
use Rattle.clock.specs.Laws.{ticked-off}
use Rattle.clock.specs.Timers.{ticked}
use Rattle.box_grants.specs.declared.GrantList.{GrantList}
use Rattle.box_light.proofs.Laws.{rest-off, Begins, tick-keeps as light-keeps, tick-begins}
use Rattle.box_light.specs.Light.{is_at_rest}
use Rattle.box_light.specs.Sound.{sound_of as light_sound}
use Rattle.box_light.specs.Tick.{tick_of as light_tick}
use Rattle.box_light.specs.declared.Beam.{Beam}
use Rattle.box_light.specs.declared.Light.{Light}
use Rattle.box_registration.proofs.Kept.{tick-keeps as registration-keeps}
use Rattle.box_registration.specs.Laws.{sync-fits, requesting-sound}
use Rattle.box_registration.specs.Registration.{requesting}
use Rattle.box_registration.specs.Sound.{sound_of as registration_sound}
use Rattle.box_registration.specs.Tick.{tick_wait, tick_report, tick_watchdog, tick_in, tick_of as registration_tick}
use Rattle.box_registration.specs.declared.Bell.{Bell}
use Rattle.box_registration.specs.declared.Registration.{Registration}
use Rattle.box_registration.specs.declared.State.{State}
use Rattle.box_registration.specs.declared.State.TheVariants.{Wait, Registering, RegisterReq, Registered}
use Rattle.box_registration.specs.declared.Ticked.{Ticked}
use Rattle.box_processes.specs.Parts.{with_count, with_registration, with_light}
use Rattle.box_processes.specs.Sound.{rests_in}
use Rattle.box_processes.specs.declared.Processes.{Processes}
use Rattle.box_ticking.specs.Tick.{ring, shine, timed, transmitted, tick_of}
use Rattle.box_laws.specs.Activation.{light-up-keeps}
use Rattle.box_laws.specs.Sound.{Sound, registering-is, entered, count-keeps, renewed, moved, shone}

-- what a bell says of the states before and after its tick
abbrev pub Says : Bell → State → State → Type 0
Says Bell.Quiet s t = t ≡ s
Says Bell.Retry s t = (s ≡ RegisterReq) × (t ≡ Registering)
Says Bell.Lost s t = Unit {0}
Says Bell.Report s t = t ≡ s

abbrev SaysOf : State → Ticked → Type 0
SaysOf s t = Says t.bell s t.registration.state

wait-says : (r : Registration) → r.state ≡ RegisterReq → SaysOf r.state (tick_wait r)
unfolding tick_wait
wait-says r e = either (SaysOf r.state) (ticked r.wait).rang _ _ (λ _. (e, refl)) (λ _. refl)

report-says : (r : Registration) → SaysOf r.state (tick_report r)
unfolding tick_report
report-says r = either (SaysOf r.state) (ticked r.report).rang _ _ (λ _. refl) (λ _. refl)

watchdog-says : (r : Registration) → SaysOf r.state (tick_watchdog r)
unfolding tick_watchdog
watchdog-says r = either (SaysOf r.state) (ticked r.watchdog).rang _ _ (λ _. tt) (λ _. report-says _)

tick-says : (s : State) (r : Registration) → r.state ≡ s → SaysOf r.state (tick_in s r)
tick-says Wait r e = refl
tick-says Registering r e = refl
tick-says RegisterReq r e = wait-says r e
tick-says Registered r e = watchdog-says r

pub bell-says : (r : Registration) → Says (registration_tick r).bell r.state (registration_tick r).registration.state
bell-says r = tick-says r.state r refl

-- the timers of the registration
ring-keeps : (bell : Bell) (p : Processes) (r : Registration) → Sound p → registration_sound r ≡ true
    → Says bell p.registration.state r.state → Sound (ring bell (with_registration p r)).next
ring-keeps Bell.Quiet p r s h e = renewed p s r h e
ring-keeps Bell.Retry p r s h e = moved p s r h (rw e.0) (rw e.1)
ring-keeps Bell.Lost p r s h e = entered (with_registration p r) (sync-fits r h)
ring-keeps Bell.Report p r s h e = renewed p s r h e

timed-keeps : (p : Processes) → Sound p → Sound (timed p).next
unfolding timed
timed-keeps p s =
    let t = registration_tick p.registration in
    ring-keeps t.bell (with_count p (next_of p.count)) t.registration (count-keeps p s (next_of p.count))
    (registration-keeps p.registration s.registration) (bell-says p.registration)

-- a transmitter at rest stays so
rest-stays : (l : Light) (u : GrantList) → light_sound l u ≡ true → is_at_rest l ≡ true → is_at_rest (light_tick l).light ≡ true
unfolding light_tick
rest-stays l u h r = rw (ticked-off l.timer (rest-off l u r h)) r

rests-stay : (s : State) (l m : Light) → (is_at_rest l ≡ true → is_at_rest m ≡ true) → rests_in s l ≡ true → rests_in s m ≡ true
rests-stay Wait l m f h = f h
rests-stay Registering l m f h = refl
rests-stay RegisterReq l m f h = refl
rests-stay Registered l m f h = refl

-- what the transmitter's tick brings
shine-keeps : (beam : Beam) (p : Processes) → Sound p → Begins p.list beam → (shine beam p).ok ≡ true → Sound (shine beam p).next
shine-keeps Beam.Quiet p s b o = s
shine-keeps Beam.Window p s b o =
    moved p s (requesting p.registration) (requesting-sound p.registration (sync-fits p.registration s.registration))
    (rw (registering-is p.registration.state o)) refl
shine-keeps (Beam.Start entry sync) p s b o = light-up-keeps p s entry sync b.0 b.1
shine-keeps Beam.Opened p s b o = s
shine-keeps Beam.Closed p s b o = s

transmitted-keeps : (p : Processes) → Sound p → (transmitted p).ok ≡ true → Sound (transmitted p).next
unfolding transmitted
transmitted-keeps p s o =
    let t = light_tick p.light in
    let lit =
    shone p s t.light (light-keeps p.list p.light s.light)
    (rests-stay p.registration.state p.light t.light (rest-stays p.light p.list s.light) s.rest) in
    shine-keeps t.beam (with_light p t.light) lit (tick-begins p.list p.light s.light) o

-- a tick that is not answered 14 keeps the processes sound
pub tick-keeps : (p : Processes) → Sound p → (tick_of p).ok ≡ true → Sound (tick_of p).next
unfolding tick_of
tick-keeps p s o = transmitted-keeps (timed p).next (timed-keeps p s) o
