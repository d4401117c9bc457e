-- The second stage of a tick: the transmitter moves the registration only when a discovery window opens.
-- Assumes nothing.
use mathlib.Core.Path.{◌≡◌, refl, sym, ◌∙◌}
use mathlib.Core.Bool.{false, false≢true}
use Rattle.box_light.specs.Tick.{tick_of as light_tick}
use Rattle.box_light.specs.declared.Beam.{Beam}
use Rattle.box_light.specs.declared.Light.{Light}
use Rattle.box_registration.specs.Registration.{is_registered, is_registering}
use Rattle.box_registration.specs.declared.State.{State}
use Rattle.box_registration.specs.declared.State.TheVariants.{RegisterReq}
use Rattle.box_processes.specs.Parts.{with_light}
use Rattle.box_processes.specs.declared.Processes.{Processes}
use Rattle.box_activation.specs.Activation.{light_up}
use Rattle.box_ticking.specs.Tick.{shine, transmitted}
use Rattle.box_ticking.specs.declared.Stage.{Stage}
use Rattle.box_laws.specs.Awaited.{Calm, Brings, tick-brings}
use Rattle.pair_box.proofs.Moves.{Mute}
use Rattle.pair_box.proofs.Timed.{Still}

-- no window opens
abbrev Dim : Beam → Type 0
Dim Beam.Quiet = Unit {0}
Dim Beam.Window = ⊥
Dim (Beam.Start entry sync) = Unit {0}
Dim Beam.Opened = Unit {0}
Dim Beam.Closed = Unit {0}

abbrev pub Shut : Light → Type 0
Shut l = Dim (light_tick l).beam

-- it opens only in REGISTERING
dim-of : (beam : Beam) (l : Light) (t : State) → is_registering t ≡ false → Brings beam l.phase t → Dim beam
dim-of Beam.Quiet l t e b = tt
dim-of Beam.Window l t e b = absurd (false≢true (sym e ∙ b.0))
dim-of (Beam.Start entry sync) l t e b = tt
dim-of Beam.Opened l t e b = tt
dim-of Beam.Closed l t e b = tt

pub shut-of : (q : Processes) → is_registering q.registration.state ≡ false → Calm q → Shut q.light
shut-of q e c =
    let l = q.light in
    let t = q.registration.state in
    dim-of (light_tick l).beam (light_tick l).light t e (tick-brings l t c)

-- and not in a tick that finds the box in REGISTER_REQ, even if that tick ends the wait
pub asking-shut : (p : Processes) → Calm p → p.registration.state ≡ RegisterReq → Shut p.light
asking-shut p c e = shut-of p (rw e) c

module _ (q : Processes) where
  dim-still : (beam : Beam) (l : Light) → Dim beam → Still q (shine beam (with_light q l))
  unfolding light_up
  dim-still Beam.Quiet l d = (refl, refl)
  dim-still Beam.Window l d = absurd d
  dim-still (Beam.Start entry sync) l d = (refl, refl)
  dim-still Beam.Opened l d = (refl, refl)
  dim-still Beam.Closed l d = (refl, refl)

  pub shut-still : Shut q.light → Still q (transmitted q)
  unfolding transmitted
  shut-still d = dim-still (light_tick q.light).beam (light_tick q.light).light d

  -- whatever opens, it makes no box registered, and sends nothing that restarts a watchdog of the head
  abbrev Unregistered : Stage → Type 0
  Unregistered x = (is_registered x.next.registration.state ≡ false) × Mute x.sent

  shine-unregistered : (beam : Beam) (l : Light) → is_registered q.registration.state ≡ false → Unregistered (shine beam (with_light q l))
  unfolding light_up
  shine-unregistered Beam.Quiet l e = (e, tt)
  shine-unregistered Beam.Window l e = (refl, refl)
  shine-unregistered (Beam.Start entry sync) l e = (e, tt)
  shine-unregistered Beam.Opened l e = (e, tt)
  shine-unregistered Beam.Closed l e = (e, tt)

  pub transmitted-unregistered : is_registered q.registration.state ≡ false → Unregistered (transmitted q)
  unfolding transmitted
  transmitted-unregistered e = shine-unregistered (light_tick q.light).beam (light_tick q.light).light e
