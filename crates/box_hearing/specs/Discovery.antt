-- Rules R106 to R109: a discovery GATE.
-- Assumes nothing.
use Rattle.std.specs.Prelude.{Option, None, Some, ℕ, Bool, cond, ◌&&◌, eqb}
use Rattle.clock.specs.Counts.{reach}
use Rattle.clock.specs.Numbers.{start_in_range, serves, random_wait}
use Rattle.clock.specs.declared.Quanta.{Quanta}
use Rattle.frame.specs.declared.Grant.{Grant}
use Rattle.box_light.specs.Light.{light_in, resting, is_at_rest, randomly}
use Rattle.box_light.specs.declared.Light.{Light}
use Rattle.box_light.specs.declared.Phase.TheVariants.{Before}
use Rattle.box_registration.specs.Registration.{is_registering}
use Rattle.box_processes.specs.Parts.{with_light}
use Rattle.box_processes.specs.declared.Processes.{Processes}

-- R109
unfoldable pub random_for : Bool → ℕ → Quanta → Quanta → Quanta
random_for own random length sync = record { 0 = cond own 0 (random_wait random length.0 sync.0) }

-- R108
abbrev pub called : Option Quanta → Quanta → Quanta → Light
called None random sync = resting
called (Some wait) random sync =
    cond (eqb wait.0 0) (randomly random sync) (light_in (Before random sync) (record { left = wait.0 }))

-- R106, R107
unfoldable pub discover : Processes → Grant → Quanta → Bool → ℕ → Processes
discover p grant sync own random =
    let now = p.count.0 in
    let start = grant.start.0 in
    cond
    (is_registering p.registration.state && is_at_rest p.light && (start_in_range now start && serves sync.0 grant.length.0))
    (with_light p (called (reach now start) (random_for own random grant.length sync) sync))
    p
