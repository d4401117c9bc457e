-- Lemmas: R219: a discovery GATE restarts neither the watchdog nor any other timer of the registration, before activation.
-- Assumes nothing.
use Rattle.std.specs.Prelude.{ℕ, ◌≡◌, refl, Bool, ◌&&◌}
use Rattle.laws.specs.Cases.{either}
use Rattle.clock.specs.Numbers.{start_in_range, serves}
use Rattle.clock.specs.declared.Quanta.{Quanta}
use Rattle.frame.specs.declared.Body.TheVariants.{Discovery}
use Rattle.frame.specs.declared.Grant.{Grant}
use Rattle.box_light.specs.Light.{is_at_rest}
use Rattle.box_registration.specs.Registration.{is_registering}
use Rattle.box_processes.specs.declared.Processes.{Processes}
use Rattle.box_hearing.specs.Discovery.{discover}
use Rattle.box_hearing.specs.Hear.{hear_of}

-- floor 31: a head's calls for newcomers leave the registration as it is
pub discovery-keeps : (p : Processes) (grant : Grant) (sync : Quanta) (own : Bool) (random : ℕ)
    → (hear_of (Discovery grant sync) p own random).next.registration ≡ p.registration
unfolding discover
discovery-keeps p grant sync own random =
    let acts = is_registering p.registration.state && is_at_rest p.light in
    let serving = start_in_range p.count.0 grant.start.0 && serves sync.0 grant.length.0 in
    either (λ (q : Processes). q.registration ≡ p.registration) (acts && serving) _ _ (λ _. refl) (λ _. refl)
