-- Statement: the calls of a box, the boxes that a run reaches, and what a refusal leaves.
-- Assumes nothing.
use Rattle.std.specs.Prelude.{ℕ, ◌≡◌, pos, true}
use Rattle.frame_queues.specs.Queues.{SetsTyped}
use Rattle.frame_queues.specs.declared.Sets.{Sets}
use Rattle.frame.specs.Range.{Typed}
use Rattle.frame.specs.declared.Address.{Address}
use Rattle.frame.specs.declared.Message.{Message}
use Rattle.frame_range.specs.Fits.{is_individual}
use Rattle.box_telling.specs.Told.{no_notices, no_frames}
use Rattle.box_calls.specs.Box.{register_of, deregister_of, report_of, tick_of, fresh_of}
use Rattle.box_calls.specs.Hear.{hear_of}
use Rattle.box_calls.specs.declared.Answer.{Answer}
use Rattle.box_calls.specs.declared.FloorBox.{FloorBox}

-- the calls that a box answers, each with what its client hands in
pub data Call : Type 0 where
  register : Call
  deregister : Call
  report : Sets → Call
  hear : Message → ℕ → Call
  tick : Call

abbrev pub answer : Call → FloorBox → Answer
answer register b = register_of b
answer deregister b = deregister_of b
answer (report sets) b = report_of sets b
answer (hear m random) b = hear_of b m random
answer tick b = tick_of b

-- what the types of the code's numbers see to
abbrev pub CallTyped : Call → Type 0
CallTyped register = Unit {0}
CallTyped deregister = Unit {0}
CallTyped (report sets) = SetsTyped sets
CallTyped (hear m random) = Typed m
CallTyped tick = Unit {0}

-- nothing but its reply is told of a refusal
pub record Unchanged (b : FloorBox) (x : Answer) : Type 0 where
  pub drift : x.drift ≡ pos 0
  pub next : x.next ≡ b
  pub frames : x.frames ≡ no_frames
  pub notices : x.notices ≡ no_notices

-- the boxes that a run reaches: a fresh one, and what any call leaves, accepted or refused
pub data Run : FloorBox → Type 0 where
  fresh : (a : Address) → is_individual a ≡ true → Run (fresh_of a).next
  calls : (b : FloorBox) → Run b → (c : Call) → Run (answer c b).next
