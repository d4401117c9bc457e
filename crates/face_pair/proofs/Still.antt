-- A tick of the box that gives no notice leaves it in its state.
-- Assumes nothing.
use mathlib.Core.Path.{◌≡◌, refl, sym, ap, ◌∙◌}
use mathlib.Core.Bool.{true, and-eq-true_iff, false≢true}
use mathlib.Core.List.{[], ◌∷◌}
use lib.Dec.{eqb}
use Rattle.clock.specs.Counts.{next_of}
use Rattle.box_light.specs.Tick.{tick_of as light_tick}
use Rattle.box_light.specs.declared.Beam.{Beam}
use Rattle.box_registration.specs.Tick.{tick_of as registration_tick}
use Rattle.box_registration.specs.declared.Bell.{Bell}
use Rattle.box_registration.specs.declared.Registration.{Registration}
use Rattle.box_registration.specs.declared.State.{State}
use Rattle.box_telling.specs.Told.{is_nothing, added, notices_of}
use Rattle.box_telling.specs.declared.Notice.{Notice}
use Rattle.box_telling.specs.declared.Notice.TheVariants.{Nothing, Window, Registered, Refused, Retry, Deregistered, Granted, Open, Close}
use Rattle.box_processes.specs.Parts.{with_count, with_registration, with_light}
use Rattle.box_processes.specs.declared.Processes.{Processes}
use Rattle.box_activation.specs.Activation.{light_up}
use Rattle.box_ticking.specs.Tick.{ring, shine, timed, transmitted, tick_of as processes_tick}
use Rattle.box_calls.specs.Advance.{is_silent}
use Rattle.box_calls.specs.Answer.{accepted}
use Rattle.box_calls.specs.Box.{tick_of}
use Rattle.box_calls.specs.declared.Answer.{Answer}
use Rattle.box_calls.specs.declared.FloorBox.{FloorBox}
use Rattle.box_laws.specs.Calls.{Outcome, unsound, refuses, accepts, outcome}
use Rattle.box_laws.specs.Stated.{tick}
use Rattle.box_laws.specs.Tick.{Says, bell-says}
use Rattle.pair_box.specs.End.{state_of}
use Rattle.box_laws.proofs.Activated.{activate-leaves}

-- where the first of two notices is none there is none
no-notice : (a b : Notice) → is_nothing (notices_of (a ∷ b ∷ [])).first ≡ true → (is_nothing a ≡ true) × (is_nothing b ≡ true)
unfolding added
no-notice Nothing b h = (refl, h)
no-notice Window b h = absurd (false≢true h)
no-notice Registered b h = absurd (false≢true h)
no-notice Refused b h = absurd (false≢true h)
no-notice Retry b h = absurd (false≢true h)
no-notice Deregistered b h = absurd (false≢true h)
no-notice (Granted grant) b h = absurd (false≢true h)
no-notice Open b h = absurd (false≢true h)
no-notice Close b h = absurd (false≢true h)

-- a bell that gives none
ring-still : (bell : Bell) (s : State) (p : Processes) → Says bell s p.registration.state → is_nothing (ring bell p).notice ≡ true
    → (ring bell p).next.registration.state ≡ s
ring-still Bell.Quiet s p e h = e
ring-still Bell.Retry s p e h = absurd (false≢true h)
ring-still Bell.Lost s p e h = absurd (false≢true h)
ring-still Bell.Report s p e h = e

timed-still : (p : Processes) → is_nothing (timed p).notice ≡ true → (timed p).next.registration.state ≡ p.registration.state
unfolding timed
timed-still p h =
    let t = registration_tick p.registration in
    ring-still t.bell p.registration.state (with_registration (with_count p (next_of p.count)) t.registration) (bell-says p.registration) h

-- and a beam
shine-still : (beam : Beam) (p : Processes) → is_nothing (shine beam p).notice ≡ true → (shine beam p).next.registration ≡ p.registration
unfolding light_up
shine-still Beam.Quiet p h = refl
shine-still Beam.Window p h = absurd (false≢true h)
shine-still (Beam.Start entry sync) p h = refl
shine-still Beam.Opened p h = refl
shine-still Beam.Closed p h = refl

transmitted-still : (p : Processes) → is_nothing (transmitted p).notice ≡ true → (transmitted p).next.registration ≡ p.registration
unfolding transmitted
transmitted-still p h =
    let t = light_tick p.light in
    shine-still t.beam (with_light p t.light) h

processes-still : (p : Processes) → is_nothing (processes_tick p).notices.first ≡ true → (processes_tick p).next.registration.state ≡ p.registration.state
unfolding processes_tick
processes-still p h =
    let n = no-notice (timed p).notice (transmitted (timed p).next).notice h in
    ap (λ (r : Registration). r.state) (transmitted-still (timed p).next n.1) ∙ timed-still p n.0

by-outcome : (b : FloorBox) (x : Answer) → Outcome tick b x → is_silent x ≡ true → state_of x.next ≡ state_of b
unfolding accepted is_silent
by-outcome b x (unsound s e) h = rw e
by-outcome b x (refuses s r n u e) h = rw e
by-outcome b x (accepts s t e) h =
    let none : is_nothing (processes_tick b.processes).notices.first ≡ true =
    ap (λ (y : Answer). is_nothing y.notices.first) (sym e) ∙ ((and-eq-true_iff (eqb x.frames.number 0) (is_nothing x.notices.first)).0 h).1 in
    ap (λ (y : Answer). state_of y.next) e
    ∙ ap (λ (r : Registration). r.state) (activate-leaves (processes_tick b.processes).next).1
    ∙ processes-still b.processes none

pub silent-still : (b : FloorBox) → is_silent (tick_of b) ≡ true → state_of (tick_of b).next ≡ state_of b
silent-still b = by-outcome b (tick_of b) (outcome tick b)
