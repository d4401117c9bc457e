-- Rule R193, of the processes: ticks at which no timer rings and activation has nothing to choose from.
-- Assumes nothing.
use Rattle.std.specs.Prelude.{ℕ, min, Bool, cond, ◌&&◌, [], ltb}
use Rattle.clock.specs.Counts.{later_of}
use Rattle.box_grants.specs.Listed.{packed}
use Rattle.box_light.specs.Light.{is_at_rest}
use Rattle.box_light.specs.Pass.{passed_of as light_passed, quiet_of as light_quiet}
use Rattle.box_registration.specs.Pass.{passed_of as registration_passed, quiet_of as registration_quiet}
use Rattle.box_registration.specs.Registration.{is_registered}
use Rattle.box_processes.specs.declared.Processes.{Processes}

-- R125
unfoldable pub activates : Processes → Bool
activates p = is_at_rest p.light && is_registered p.registration.state

-- the ticks that come before the first ring; none where activation has a choice to make
unfoldable pub quiet_of : Processes → ℕ
quiet_of p = cond (activates p && ltb 0 p.list.number) 0 (min (registration_quiet p.registration) (light_quiet p.light))

-- k such ticks on: activation, which finds no grant, clears the places of the list
unfoldable pub passed_of : Processes → ℕ → Processes
passed_of p k =
    record {
      count = later_of p.count k;
      registration = registration_passed p.registration k;
      list = cond (activates p) (packed []) p.list;
      light = light_passed p.light k;
    }
