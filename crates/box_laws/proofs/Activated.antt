-- Activation moves neither the count nor the registration.
-- Assumes nothing.
use Rattle.std.proofs.Common.{Option, None, Some}
use mathlib.Core.Path.{◌≡◌, refl}
use mathlib.Core.Bool.{◌&&◌}
use lib.Dec.{eqb}
use Rattle.laws.specs.Cases.{either}
use Rattle.clock.specs.Counts.{reach}
use Rattle.clock.specs.Numbers.{needed}
use Rattle.clock.specs.declared.Quanta.{Quanta}
use Rattle.clock.specs.declared.Span.{Span}
use Rattle.box_grants.specs.Listed.{choose_of}
use Rattle.box_light.specs.Light.{is_at_rest}
use Rattle.box_registration.specs.Registration.{is_registered}
use Rattle.box_processes.specs.Parts.{with_list}
use Rattle.box_processes.specs.declared.Processes.{Processes}
use Rattle.box_activation.specs.Activation.{light_up, begin, head_for, serve, activate}

abbrev pub Leaves : Processes → Processes → Type 0
Leaves p q = (q.count ≡ p.count) × (q.registration ≡ p.registration)

begin-leaves : (p : Processes) (e : Span) (sync wait : Quanta) → Leaves p (begin p e sync wait)
unfolding begin light_up
begin-leaves p e sync wait = either (Leaves p) (eqb wait.0 0) _ _ (λ _. (refl, refl)) (λ _. (refl, refl))

head-leaves : (r : Option Quanta) (p : Processes) (e : Span) (sync : Quanta) → Leaves p (head_for p e sync r)
head-leaves None p e sync = (refl, refl)
head-leaves (Some wait) p e sync = begin-leaves p e sync wait

serve-leaves : (c : Option Span) (p : Processes) → Leaves p (serve c p)
serve-leaves None p = (refl, refl)
serve-leaves (Some e) p = head-leaves (reach p.count.0 e.start.0) p e p.registration.sync

pub activate-leaves : (p : Processes) → Leaves p (activate p)
unfolding activate
activate-leaves p =
    let c = choose_of p.count.0 (needed p.registration.sync.0) p.list in
    either (Leaves p) (is_at_rest p.light && is_registered p.registration.state) _ _
    (λ _. serve-leaves c.chosen (with_list p c.list))
    (λ _. (refl, refl))
