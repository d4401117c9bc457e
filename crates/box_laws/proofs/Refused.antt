-- Lemmas: R69 of the box: a refused call changes nothing.
-- Assumes nothing.
use Rattle.std.specs.Prelude.{◌≡◌, ◌≢◌, refl}
use Rattle.std.proofs.Common.{ap}
use Rattle.frame.specs.declared.Reply.{Reply}
use Rattle.frame.specs.declared.Reply.TheVariants.{Done, Unsound}
use Rattle.box_calls.specs.Answer.{refused, accepted}
use Rattle.box_calls.specs.declared.Answer.{Answer}
use Rattle.box_calls.specs.declared.FloorBox.{FloorBox}
use Rattle.box_laws.specs.Calls.{Outcome, unsound, refuses, accepts, outcome}
use Rattle.box_laws.specs.Stated.{Call, answer, Unchanged}

refusal : (b : FloorBox) (x : Answer) (r : Reply) → x ≡ refused b r → Unchanged b x
refusal b x r e = rw e (record { drift = refl; next = refl; frames = refl; notices = refl })

unchanged : (c : Call) (b : FloorBox) (x : Answer) → Outcome c b x → x.reply ≢ Done → Unchanged b x
unfolding accepted
unchanged c b x (unsound s e) n = refusal b x Unsound e
unchanged c b x (refuses s r o u e) n = refusal b x r e
unchanged c b x (accepts s h e) n = absurd (n (ap (λ (y : Answer). y.reply) e))

-- each refusal changes nothing
pub refused-unchanged : (c : Call) (b : FloorBox) → (answer c b).reply ≢ Done → Unchanged b (answer c b)
refused-unchanged c b = unchanged c b (answer c b) (outcome c b)
