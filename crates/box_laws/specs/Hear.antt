-- Lemmas: every message that is in range keeps the processes sound.
-- Assumes nothing.
use Rattle.std.specs.Prelude.{Option, None, Some, ℕ, ◌≤◌, ◌≡◌, refl, Bool, true, ◌&&◌, List, ◌≢◌, eqb}
use Rattle.std.proofs.Common.{sym, ◌∙◌, arith, leb-true}
use Rattle.std.proofs.Math.Bool.{and-eq-true_iff}
use Rattle.std.proofs.lemmas.Bool.{eqb-false}
use Rattle.laws.specs.Cases.{either}
use Rattle.clock.specs.Counts.{reach}
use Rattle.clock.specs.Laws.{reach_in_range, start-reach}
use Rattle.clock.specs.Numbers.{furthest, start_in_range, needed, serves, fits}
use Rattle.clock.specs.declared.Quanta.{Quanta}
use Rattle.frame.specs.Layout.{listed}
use Rattle.frame.specs.declared.Body.{Body}
use Rattle.frame.specs.declared.Body.TheVariants.{Gate, Discovery, Report, RegisterReq as Request, Register, RegisterAck}
use Rattle.frame.specs.declared.Grant.{Grant}
use Rattle.frame.specs.declared.RegisterFlag.{RegisterFlag}
use Rattle.frame.specs.declared.RegisterFlag.TheVariants.{Reregister, Deregister, Ack, Nack}
use Rattle.frame_range.specs.Fits.{fits_grant, fits_all, fits_body}
use Rattle.box_grants.specs.declared.GrantList.{GrantList}
use Rattle.box_light.proofs.Laws.{fits-of, random-fits, resting-sound, before-sound, randomly-sound, sound-list}
use Rattle.box_light.specs.Light.{is_at_rest}
use Rattle.box_light.specs.Sound.{wait_fits, sound_of as light_sound}
use Rattle.box_light.specs.declared.Light.{Light}
use Rattle.box_registration.specs.Laws.{registered-sound, heard-keeps}
use Rattle.box_registration.specs.Registration.{registered, heard, is_registered, is_registering}
use Rattle.box_registration.specs.declared.State.{State}
use Rattle.box_registration.specs.declared.State.TheVariants.{Wait, Registering, RegisterReq, Registered}
use Rattle.box_processes.specs.Parts.{with_registration}
use Rattle.box_processes.specs.declared.Processes.{Processes}
use Rattle.box_processes.specs.declared.Step.{Step}
use Rattle.box_hearing.specs.Discovery.{random_for, called, discover}
use Rattle.box_hearing.specs.Gate.{taken_all, gated}
use Rattle.box_hearing.specs.Hear.{hear_of}
use Rattle.box_hearing.specs.Register.{register_of}
use Rattle.box_laws.specs.Gate.{Takes, taken-takes}
use Rattle.box_laws.specs.Sound.{Sound, registering-is, renewed, moved, shone, relisted, waiting-keeps}

-- a normal GATE
gated-keeps : (p : Processes) (gs : List Grant) → Sound p → fits_all true gs ≡ true → Sound (gated p gs).next
unfolding gated
gated-keeps p gs s h =
    let l = (taken_all p gs).list in
    let k : Takes p.list l = taken-takes p gs s.list s.places h in
    either (λ (x : Step). Sound x.next) (is_registered p.registration.state) _ _
    (λ i.
    let r = heard p.registration in
    let on = renewed p s r (heard-keeps p.registration i s.registration) refl in
    relisted (with_registration p r) on l k.list k.places i (sound-list p.light p.list l k.held s.light))
    (λ _. s)

-- a discovery GATE
called-sound : (r : Option Quanta) (l : GrantList) (random sync : Quanta) → reach_in_range r ≡ true → wait_fits random.0 sync ≡ true
    → light_sound (called r random sync) l ≡ true
called-sound None l random sync h f = resting-sound l
called-sound (Some wait) l random sync h f =
    either (λ (x : Light). light_sound x l ≡ true) (eqb wait.0 0) _ _ (λ _. randomly-sound l random sync f)
    (λ t.
    let some : wait.0 ≢ 0 = eqb-false wait.0 0 t in
    before-sound l wait.0 random sync (omega arith) (leb-true wait.0 furthest h) f)

random-for : (own : Bool) (random : ℕ) (length sync : Quanta) → needed sync.0 ≤ length.0 → length.0 ≤ 65535
    → wait_fits (random_for own random length sync).0 sync ≡ true
unfolding random_for
random-for own random length sync h k =
    either (λ (n : ℕ). wait_fits n sync ≡ true) own _ _ (λ _. fits-of 0 sync (omega arith)) (λ _. random-fits random length sync h k)

discover-keeps : (p : Processes) (grant : Grant) (sync : Quanta) (own : Bool) (random : ℕ) → Sound p → fits_grant grant ≡ true
    → Sound (discover p grant sync own random)
unfolding discover
discover-keeps p grant sync own random s h =
    let now = p.count.0 in
    let start = grant.start.0 in
    let r = is_registering p.registration.state in
    let x = is_at_rest p.light in
    let c = start_in_range now start in
    let d = serves sync.0 grant.length.0 in
    either Sound (r && x && (c && d)) _ _
    (λ t.
    let all = (and-eq-true_iff (r && x) (c && d)).0 t in
    let in_reach = (and-eq-true_iff c d).0 all.1 in
    let there = registering-is p.registration.state ((and-eq-true_iff r x).0 all.0).0 in
    let fits =
    random-for own random grant.length sync (leb-true (needed sync.0) grant.length.0 in_reach.1) (leb-true grant.length.0 65535 h) in
    shone p s _ (called-sound (reach now start) p.list (random_for own random grant.length sync) sync (sym (start-reach now start) ∙ in_reach.0) fits) (rw there))
    (λ _. s)

-- REGISTER
register-keeps : (t : State) (flag : RegisterFlag) (p : Processes) (port : ℕ) (sync : Quanta) → Sound p → p.registration.state ≡ t
    → fits sync ≡ true → Sound (register_of t flag p port sync).next
register-keeps RegisterReq Ack p port sync s e h = moved p s (registered port sync) (registered-sound port sync h) (rw e) refl
register-keeps RegisterReq Nack p port sync s e h = waiting-keeps p s
register-keeps RegisterReq Reregister p port sync s e h = s
register-keeps RegisterReq Deregister p port sync s e h = s
register-keeps Registered Reregister p port sync s e h = renewed p s (registered port sync) (registered-sound port sync h) (sym e)
register-keeps Registered Deregister p port sync s e h = waiting-keeps p s
register-keeps Registered Ack p port sync s e h = s
register-keeps Registered Nack p port sync s e h = s
register-keeps Wait flag p port sync s e h = s
register-keeps Registering flag p port sync s e h = s

-- every message in range keeps the processes sound
pub hear-keeps : (body : Body) (p : Processes) (own : Bool) (random : ℕ) → Sound p → fits_body body ≡ true
    → Sound (hear_of body p own random).next
hear-keeps (Gate grants) p own random s h = gated-keeps p (listed grants) s h
hear-keeps (Discovery grant sync) p own random s h =
    discover-keeps p grant sync own random s ((and-eq-true_iff (fits_grant grant) (fits sync)).0 h).0
hear-keeps (Register port flag sync pending) p own random s h = register-keeps p.registration.state flag p port sync s refl h
hear-keeps (Report sets) p own random s h = s
hear-keeps (Request flag pending) p own random s h = s
hear-keeps (RegisterAck flag port sync) p own random s h = s
