-- Lemmas: every call keeps a sound box sound, and a discovery window on its way only in REGISTERING; then a tick is never answered 14.
-- Assumes nothing.
use Rattle.std.specs.Prelude.{◌≡◌, refl, true, eqb}
use Rattle.frame.specs.Tests.{Passed}
use Rattle.frame_range.specs.Laws.{message-parts}
use Rattle.box_registration.specs.Laws.{reported-keeps}
use Rattle.box_registration.specs.Registration.{reported}
use Rattle.box_processes.specs.Parts.{fresh, with_count}
use Rattle.box_processes.specs.declared.Processes.{Processes}
use Rattle.box_activation.specs.Activation.{activate}
use Rattle.box_ticking.specs.Tick.{tick_of}
use Rattle.box_calls.specs.Answer.{accepted}
use Rattle.box_calls.specs.declared.Answer.{Answer}
use Rattle.box_calls.specs.declared.FloorBox.{FloorBox}
use Rattle.box_laws.specs.Activation.{activate-keeps}
use Rattle.box_laws.specs.Awaited.{Calm, none, tick_calm, hear-calm}
use Rattle.box_laws.specs.Calls.{tests, step, Outcome, unsound, refuses, accepts, outcome}
use Rattle.box_laws.specs.Stated.{Call, register, deregister, report, hear, tick, answer}
use Rattle.box_laws.specs.Hear.{hear-keeps}
use Rattle.box_laws.specs.Sound.{Sound, fresh-sound, count-keeps, renewed, registering-keeps, waiting-keeps}
use Rattle.box_laws.specs.Tick.{tick-keeps}

-- the step of a call
step_keeps : (c : Call) (b : FloorBox) → Sound b.processes → Passed (tests c b) → Sound (step c b).next
step_keeps register b s h = registering-keeps b.processes s h.0
step_keeps deregister b s h = waiting-keeps b.processes s
step_keeps (report sets) b s h =
    let r = b.processes.registration in
    renewed b.processes s (reported r) (reported-keeps r h.0 s.registration) refl
step_keeps (hear m random) b s h =
    hear-keeps m.body (with_count b.processes m.timestamp) (eqb m.destination.0 b.address.0) random
    (count-keeps b.processes s m.timestamp) (message-parts m h.1.1.0).2
step_keeps tick b s h = tick-keeps b.processes s h.0

pub step-calm : (c : Call) (b : FloorBox) → Calm b.processes → Calm (step c b).next
step-calm register b s = λ _. refl
step-calm deregister b s = none
step-calm (report sets) b s = s
step-calm (hear m random) b s =
    hear-calm m.body (with_count b.processes m.timestamp) (eqb m.destination.0 b.address.0) random s
step-calm tick b s = (tick_calm b.processes s).1

-- a refusal changes nothing, and what is accepted ends in activation
pub next-keeps : (P : Processes → Type 0) (c : Call) (b : FloorBox) (x : Answer) → P b.processes
    → (Passed (tests c b) → P (activate (step c b).next)) → Outcome c b x → P x.next.processes
unfolding accepted
next-keeps P c b x s f (unsound u e) = rw e s
next-keeps P c b x s f (refuses u r n k e) = rw e s
next-keeps P c b x s f (accepts u h e) = rw e (f h)

-- every call keeps a sound box sound
pub call-keeps : (c : Call) (b : FloorBox) → Sound b.processes → Sound (answer c b).next.processes
call-keeps c b s = next-keeps Sound c b (answer c b) s (λ h. activate-keeps (step c b).next (step_keeps c b s h)) (outcome c b)

-- sound, and with a discovery window on its way only in REGISTERING
pub record Steady (p : Processes) : Type 0 where
  pub sound : Sound p
  pub awaited : Calm p

-- a fresh box is steady
pub fresh-steady : Steady fresh
fresh-steady = record { sound = fresh-sound; awaited = none }

-- the window of a steady box opens in REGISTERING, if it opens
pub tick-ok : (p : Processes) → Steady p → (tick_of p).ok ≡ true
tick-ok p s = (tick_calm p s.awaited).0
