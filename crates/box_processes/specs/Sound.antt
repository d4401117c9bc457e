-- Rules R80, R84: sound processes, by their parts.
-- Assumes nothing.
use Rattle.std.specs.Prelude.{Bool, true, ◌&&◌, ◌||◌, eqb}
use Rattle.box_grants.specs.Sound.{sound_of as list_sound}
use Rattle.box_light.specs.Light.{is_at_rest}
use Rattle.box_light.specs.Sound.{sound_of as light_sound}
use Rattle.box_light.specs.declared.Light.{Light}
use Rattle.box_registration.specs.Registration.{is_registered}
use Rattle.box_registration.specs.Sound.{sound_of as registration_sound}
use Rattle.box_registration.specs.declared.State.{State}
use Rattle.box_registration.specs.declared.State.TheVariants.{Wait, Registering, RegisterReq, Registered}
use Rattle.box_processes.specs.declared.Processes.{Processes}

-- R84
abbrev pub rests_in : State → Light → Bool
rests_in Wait l = is_at_rest l
rests_in Registering l = true
rests_in RegisterReq l = true
rests_in Registered l = true

unfoldable pub sound_of : Processes → Bool
sound_of p =
    registration_sound p.registration
    && list_sound p.list
    && (is_registered p.registration.state || eqb p.list.number 0)
    && light_sound p.light p.list
    && rests_in p.registration.state p.light
