-- Lemmas: activation keeps the processes sound.
-- Assumes nothing.
use Rattle.std.specs.Prelude.{Option, None, Some, ◌^◌, ◌<◌, ◌≡◌, true, false, ◌&&◌, ◌≢◌, eqb}
use Rattle.std.proofs.Math.Bool.{and-eq-true_iff}
use Rattle.std.proofs.lemmas.Bool.{false≢true}
use Rattle.std.proofs.Common.{⊎_elim, arith}
use borrow.Author.Tests.{eqb-true, eqb-false}
use Rattle.laws.specs.Cases.{either, decided}
use Rattle.clock.specs.Counts.{gap}
use Rattle.clock.specs.Laws.{near_of, reach_near}
use Rattle.clock.specs.Numbers.{needed}
use Rattle.clock.specs.declared.Quanta.{Quanta}
use Rattle.clock.specs.declared.Span.{Span}
use Rattle.box_grants.specs.Activation.{holds, remove}
use Rattle.box_grants.specs.Keeps.{Fulfils, without-sound, without-entries, choose-entries, choose-sound, choose-fulfils}
use Rattle.box_grants.specs.Listed.{list_of, packed, choose_of}
use Rattle.box_light.proofs.Laws.{served-of, rest-sound, due-sound, lit-sound}
use Rattle.box_light.specs.Light.{light_in, is_at_rest}
use Rattle.box_light.specs.Sound.{served}
use Rattle.box_light.specs.declared.Phase.TheVariants as Phase
use Rattle.box_registration.specs.Registration.{is_registered}
use Rattle.box_registration.specs.declared.State.TheVariants.{Registered}
use Rattle.box_processes.specs.Parts.{with_list}
use Rattle.box_processes.specs.declared.Processes.{Processes}
use Rattle.box_activation.specs.Activation.{light_up, begin, serve, activate}
use Rattle.box_laws.specs.Sound.{Sound, registered-is, shone, relisted}

module _ (p : Processes) (s : Sound p) where
  -- a box that holds a grant is REGISTERED
  pub held-registered : (e : Span) → holds e (list_of p.list) ≡ true → is_registered p.registration.state ≡ true
  held-registered e h =
      ⊎_elim (λ (t : is_registered p.registration.state ≡ true). t)
      (λ (t : is_registered p.registration.state ≡ false).
      let none = eqb-true p.list.number 0 (rw t at s.empty) in
      absurd (false≢true (rw none at h)))
      (decided (is_registered p.registration.state))

  module _ (e : Span) (sync : Quanta) (h : holds e (list_of p.list) ≡ true) (f : served e.length sync ≡ true) where
    on : p.registration.state ≡ Registered
    on = registered-is p.registration.state (held-registered e h)

    -- laser on, removed from the list
    pub light-up-keeps : Sound (light_up p e sync)
    unfolding light_up
    light-up-keeps =
        let left = packed (remove e (list_of p.list)) in
        record {
          registration = s.registration;
          list = without-sound p.list e s.list;
          empty = rw on;
          light = lit-sound left e.length sync f;
          rest = rw on;
          places = without-entries p.list e;
        }

    begin-keeps : (wait : Quanta) → wait.0 < 2 ^ 31 → Sound (begin p e sync wait)
    unfolding begin
    begin-keeps wait k =
        let due = light_in (Phase.Due e sync) (record { left = wait.0 }) in
        either Sound (eqb wait.0 0) _ _ (λ _. light-up-keeps)
        (λ t.
        let some : wait.0 ≢ 0 = eqb-false wait.0 0 t in
        shone p s due (due-sound p.list wait.0 e sync (omega arith) k h f) (rw on))

serve-keeps : (c : Option Span) (p : Processes) → Sound p → Fulfils p.count.0 (needed p.registration.sync.0) (list_of p.list) c
    → Sound (serve c p)
serve-keeps None p s r = s
serve-keeps (Some e) p s r =
    let sync = p.registration.sync in
    let near = near_of p.count.0 e.start.0 r.due in
    rw (reach_near p.count.0 e.start.0 near)
    (begin-keeps p s e sync r.held (served-of e.length sync r.long r.short) (record { 0 = gap p.count.0 e.start.0 }) near)

-- activation keeps the processes sound
pub activate-keeps : (p : Processes) → Sound p → Sound (activate p)
unfolding activate
activate-keeps p s =
    let now = p.count.0 in
    let need = needed p.registration.sync.0 in
    let c = choose_of now need p.list in
    either Sound (is_at_rest p.light && is_registered p.registration.state) _ _
    (λ t.
    let both = (and-eq-true_iff (is_at_rest p.light) (is_registered p.registration.state)).0 t in
    let listed =
    relisted p s c.list (choose-sound now need p.list s.list) (choose-entries now need p.list) both.1 (rest-sound c.list p.light p.list both.0 s.light) in
    serve-keeps c.chosen (with_list p c.list) listed (choose-fulfils now need p.list s.list))
    (λ _. s)
