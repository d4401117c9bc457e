-- The laser in each phase of the transmitter.
-- Assumes nothing.
use Prim.Native.Nat.{ℕ, ◌≤◌}
use mathlib.Core.Path.{◌≡◌, refl}
use mathlib.Core.Bool.{true, false, cond, ◌&&◌, ◌||◌, and-eq-true_iff}
use native.Mathlib.Omega.{arith}
use lib.Dec.{eqb}
use Rattle.frame_range.specs.Fits.{is_individual}
use Rattle.box_grants.specs.Sound.{sound_of as list_sound}
use Rattle.box_light.proofs.Laws.{rests-is}
use Rattle.box_light.specs.Light.{rests, shines, glows, sends}
use Rattle.box_light.specs.Sound.{sound_of as light_sound}
use Rattle.box_light.specs.declared.Phase.{Phase}
use Rattle.box_light.specs.declared.Phase.TheVariants.{Rest, Before, Random, Warming, Asking, Due, Lit, Open, Fading}
use Rattle.box_registration.specs.Registration.{is_registered}
use Rattle.box_registration.specs.Sound.{sound_of as registration_sound}
use Rattle.box_processes.specs.Sound.{rests_in, sound_of as processes_sound}
use Rattle.box_processes.specs.declared.Processes.{Processes}
use Rattle.box_calls.specs.Box.{sound_of}
use Rattle.box_laws.specs.Laser.{SendsLit, OnLit, WaitDark}

send-lit : (p : Phase) (n : ℕ) → 1 ≤ cond (sends p) n 0 → shines p ≡ true
send-lit Rest n h = absurd (omega arith)
send-lit (Before random sync) n h = absurd (omega arith)
send-lit (Random sync) n h = absurd (omega arith)
send-lit Warming n h = refl
send-lit Asking n h = refl
send-lit (Due entry sync) n h = absurd (omega arith)
send-lit (Lit length sync) n h = refl
send-lit Open n h = refl
send-lit Fading n h = absurd (omega arith)

pub sends-lit : SendsLit
unfolding SendsLit
sends-lit l h = send-lit l.phase l.timer.left h

shine-glows : (p : Phase) → shines p ≡ true → glows p ≡ true
shine-glows Rest h = h
shine-glows (Before random sync) h = h
shine-glows (Random sync) h = h
shine-glows Warming h = h
shine-glows Asking h = h
shine-glows (Due entry sync) h = h
shine-glows (Lit length sync) h = h
shine-glows Open h = h
shine-glows Fading h = refl

pub on-lit : OnLit
unfolding OnLit
on-lit l h = shine-glows l.phase h

-- at rest it is dark
rest-dark : (p : Phase) → rests p ≡ true → glows p ≡ false
rest-dark p h = rw (rests-is p h)

-- the last part of a sound box's test
rested : (p : Processes) → processes_sound p ≡ true → rests_in p.registration.state p.light ≡ true
unfolding processes_sound
rested p h =
    ((and-eq-true_iff
    (registration_sound p.registration && list_sound p.list && (is_registered p.registration.state || eqb p.list.number 0)
    && light_sound p.light p.list)
    (rests_in p.registration.state p.light)).0 h).1

pub wait-dark : WaitDark
unfolding WaitDark sound_of
wait-dark b s w =
    let h = ((and-eq-true_iff (is_individual b.address) (processes_sound b.processes)).0 s).1 in
    rest-dark b.processes.light.phase (rw w at (rested b.processes h))
