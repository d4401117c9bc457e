-- Statement: R99: what the frames of an accepted call are, the encodings of valid messages.
-- Assumes nothing.
use Rattle.std.specs.Prelude.{Option, None, Some, ◌≡◌}
use Rattle.frame.specs.declared.Body.{Body}
use Rattle.clock.specs.Counts.{next_of}
use Rattle.clock.specs.declared.Count.{Count}
use Rattle.frame.specs.Layout.{encode}
use Rattle.frame.specs.Range.{Valid}
use Rattle.frame.specs.declared.Address.{Address}
use Rattle.box_telling.specs.Told.{no_frames, handed}
use Rattle.box_telling.specs.declared.Frames.{Frames}
use Rattle.box_calls.specs.Answer.{message_of}
use Rattle.box_calls.specs.declared.FloorBox.{FloorBox}
use Rattle.box_laws.specs.Stated.{Call, register, deregister, report, hear, tick}

-- the count after a call, before activation
abbrev pub count_after : Call → FloorBox → Count
count_after register b = b.processes.count
count_after deregister b = b.processes.count
count_after (report sets) b = b.processes.count
count_after (hear m random) b = m.timestamp
count_after tick b = next_of b.processes.count

abbrev pub SentValid : Address → Count → Option Body → Type 0
SentValid own now None = Unit {0}
SentValid own now (Some body) = Valid (message_of own now body)

-- one frame more, by the page of the crate `frame`
abbrev pub encoded : Address → Count → Frames → Option Body → Frames
encoded own now f None = f
encoded own now f (Some body) = handed f (encode (message_of own now body))

-- these frames are those of one thing sent, and then another
pub record Handed (own : Address) (now : Count) (first second : Option Body) (f : Frames) : Type 0 where
  pub first-valid : SentValid own now first
  pub second-valid : SentValid own now second
  pub frames : f ≡ encoded own now (encoded own now no_frames first) second
