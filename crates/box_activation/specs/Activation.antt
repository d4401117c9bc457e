-- Rules R125 to R132: activation.
-- Assumes nothing.
use Rattle.std.specs.Prelude.{Option, None, Some, cond, ◌&&◌, eqb}
use Rattle.clock.specs.Counts.{reach}
use Rattle.clock.specs.Numbers.{needed}
use Rattle.clock.specs.declared.Quanta.{Quanta}
use Rattle.clock.specs.declared.Span.{Span}
use Rattle.box_grants.specs.Activation.{remove}
use Rattle.box_grants.specs.Listed.{list_of, packed, choose_of}
use Rattle.box_light.specs.Light.{light_in, laser_on_for, is_at_rest}
use Rattle.box_light.specs.declared.Phase.TheVariants as Phase
use Rattle.box_registration.specs.Registration.{is_registered}
use Rattle.box_processes.specs.Parts.{with_list, with_light}
use Rattle.box_processes.specs.declared.Processes.{Processes}

-- R132
unfoldable pub light_up : Processes → Span → Quanta → Processes
light_up p e sync = with_light (with_list p (packed (remove e (list_of p.list)))) (light_in (Phase.Lit e.length sync) (laser_on_for sync))

-- R129
unfoldable pub begin : Processes → Span → Quanta → Quanta → Processes
begin p e sync wait = cond (eqb wait.0 0) (light_up p e sync) (with_light p (light_in (Phase.Due e sync) (record { left = wait.0 })))

abbrev pub head_for : Processes → Span → Quanta → Option Quanta → Processes
head_for p e sync None = p
head_for p e sync (Some wait) = begin p e sync wait

-- R130
abbrev pub serve : Option Span → Processes → Processes
serve None p = p
serve (Some e) p = head_for p e p.registration.sync (reach p.count.0 e.start.0)

-- R125
unfoldable pub activate : Processes → Processes
activate p =
    let c = choose_of p.count.0 (needed p.registration.sync.0) p.list in
    cond (is_at_rest p.light && is_registered p.registration.state) (serve c.chosen (with_list p c.list)) p
