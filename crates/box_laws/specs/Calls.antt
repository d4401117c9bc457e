-- Lemmas: R68 and R69 of the box: a call is accepted with every test passed, or it is refused and changes nothing.
-- Assumes nothing.
use Rattle.std.specs.Prelude.{◌≡◌, refl, true, false, not, List, [], ◌∷◌, ◌≢◌, eqb, ℤ, pos}
use Rattle.std.proofs.Common.{sym, ap, ◌∙◌, arith}
use Rattle.laws.specs.Cases.{either}
use Rattle.clock.specs.Counts.{drift_of}
use Rattle.frame.specs.Card.{Test, ◌unless◌, given, number_of}
use Rattle.frame.specs.Tests.{Passed, Each, given-either}
use Rattle.frame.specs.Ways.{goes_to_head}
use Rattle.frame.specs.declared.Reply.{Reply}
use Rattle.frame.specs.declared.Reply.TheVariants.{Done, Range, Direction, State, Party, Unsound, Window}
use Rattle.frame_queues.specs.Queues.{fits_sets}
use Rattle.frame_range.specs.Fits.{fits_message}
use Rattle.box_registration.specs.Registration.{registering, is_waiting, is_registered}
use Rattle.box_processes.specs.Leaving.{local_deregister}
use Rattle.box_processes.specs.Parts.{with_count, with_registration, still}
use Rattle.box_processes.specs.Reporting.{reporting}
use Rattle.box_processes.specs.declared.Step.{Step}
use Rattle.box_ticking.specs.Tick.{tick_of as processes_tick}
use Rattle.box_hearing.specs.Hear.{hear_of as processes_hear}
use Rattle.box_calls.specs.Answer.{refused, accepted}
use Rattle.box_calls.specs.Box.{sound_of, register_of, deregister_of, report_of, tick_of}
use Rattle.box_calls.specs.Hear.{is_for, heard_of, hear_of}
use Rattle.box_calls.specs.declared.Answer.{Answer}
use Rattle.box_calls.specs.declared.FloorBox.{FloorBox}
use Rattle.box_laws.specs.Stated.{Call, register, deregister, report, hear, tick, answer}

-- the tests of a call after that of the box, in order
abbrev pub tests : Call → FloorBox → List Test
tests register b = State unless is_waiting b.processes.registration.state ∷ []
tests deregister b = State unless is_registered b.processes.registration.state ∷ []
tests (report sets) b =
    State unless is_registered b.processes.registration.state
    ∷ Range unless fits_sets sets
    ∷ []
tests (hear m random) b =
    Direction unless not (goes_to_head m.body)
    ∷ Party unless is_for b m.destination m.body
    ∷ Range unless fits_message m
    ∷ []
tests tick b = Window unless (processes_tick b.processes).ok ∷ []

-- what a call does once they are passed
abbrev pub step : Call → FloorBox → Step
step register b = still (with_registration b.processes (registering b.processes.registration))
step deregister b = local_deregister b.processes
step (report sets) b = reporting b.processes sets
step (hear m random) b =
    processes_hear m.body (with_count b.processes m.timestamp) (eqb m.destination.0 b.address.0) random
step tick b = processes_tick b.processes

abbrev pub drift : Call → FloorBox → ℤ
drift register b = pos 0
drift deregister b = pos 0
drift (report sets) b = pos 0
drift (hear m random) b = drift_of b.processes.count.0 m.timestamp.0
drift tick b = pos 0

answer-is : (c : Call) (b : FloorBox) → answer c b ≡ given (Unsound unless sound_of b ∷ tests c b) (refused b) (accepted b (drift c b) (step c b))
unfolding register_of deregister_of report_of heard_of hear_of tick_of
answer-is register b = refl
answer-is deregister b = refl
answer-is (report sets) b = refl
answer-is (hear m random) b = refl
answer-is tick b = refl

-- neither 0 nor 13 is given by the tests after the first
abbrev Other : Reply → Type 0
Other r = (number_of r ≢ 0) × (number_of r ≢ 13)

tests-other : (c : Call) (b : FloorBox) → Each Other (tests c b)
tests-other register b = omega arith
tests-other deregister b = omega arith
tests-other (report sets) b = omega arith
tests-other (hear m random) b = omega arith
tests-other tick b = omega arith

-- the three ways that a call comes out: 13 comes first, and a call that passes every test is accepted
pub data Outcome (c : Call) (b : FloorBox) (x : Answer) : Type 0 where
  unsound : sound_of b ≡ false → x ≡ refused b Unsound → Outcome c b x
  refuses : sound_of b ≡ true → (r : Reply) → number_of r ≢ 0 → number_of r ≢ 13 → x ≡ refused b r → Outcome c b x
  accepts : sound_of b ≡ true → Passed (tests c b) → x ≡ accepted b (drift c b) (step c b) → Outcome c b x

pub outcome : (c : Call) (b : FloorBox) → Outcome c b (answer c b)
outcome c b =
    let a = accepted b (drift c b) (step c b) in
    rw (answer-is c b)
    (either (Outcome c b) (sound_of b) _ _
    (λ s. given-either Other (Outcome c b) (tests c b) (refused b) a (tests-other c b) (λ r o. refuses s r o.0 o.1 refl) (λ h. accepts s h refl))
    (λ s. unsound s refl))

-- what is known of a call that is done
pub record Accepted (c : Call) (b : FloorBox) (x : Answer) : Type 0 where
  pub sound : sound_of b ≡ true
  pub passed : Passed (tests c b)
  pub answered : x ≡ accepted b (drift c b) (step c b)

not_done : (b : FloorBox) (r : Reply) (x : Answer) → x ≡ refused b r → number_of r ≢ 0 → x.reply ≢ Done
not_done b r x e n d = n (ap number_of (sym (ap (λ (y : Answer). y.reply) e) ∙ d))

done-accepts : (c : Call) (b : FloorBox) (x : Answer) → Outcome c b x → x.reply ≡ Done → Accepted c b x
done-accepts c b x (unsound s e) d = absurd (not_done b Unsound x e (omega arith) d)
done-accepts c b x (refuses s r n u e) d = absurd (not_done b r x e n d)
done-accepts c b x (accepts s h e) d = record { sound = s; passed = h; answered = e }

pub call-accepted : (c : Call) (b : FloorBox) → (answer c b).reply ≡ Done → Accepted c b (answer c b)
call-accepted c b = done-accepts c b (answer c b) (outcome c b)
