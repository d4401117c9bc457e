-- Statement: what a box accepts, and what it hands out, has a source that is individual and not zero (R238).
-- Assumes nothing.
use Rattle.std.specs.Prelude.{ℕ, ◌^◌, ◌<◌, ◌≤◌, ◌≡◌, true}
use Rattle.frame.specs.Reading.{source_in_range}
use Rattle.frame.specs.declared.Message.{Message}
use Rattle.frame.specs.declared.Reply.TheVariants.{Done}
use Rattle.frame_range.specs.Fits.{is_individual}
use Rattle.box_telling.specs.declared.Frames.{Frames}
use Rattle.box_calls.specs.Advance.{advance_of}
use Rattle.box_calls.specs.Hear.{hear_of}
use Rattle.box_calls.specs.declared.FloorBox.{FloorBox}
use Rattle.box_laws.specs.Stated.{Call, answer, CallTyped}

-- of every box
unfoldable pub HeardSource : Type 0
HeardSource = (b : FloorBox) (m : Message) (random : ℕ) → (hear_of b m random).reply ≡ Done → is_individual m.source ≡ true

-- as many frames as are told, each with such a source
pub record Sourced (f : Frames) : Type 0 where
  pub first : 1 ≤ f.number → source_in_range f.first ≡ true
  pub second : 2 ≤ f.number → source_in_range f.second ≡ true

-- of every box and call, done or refused
unfoldable pub SentSource : Type 0
SentSource = (c : Call) (b : FloorBox) → CallTyped c → b.processes.count.0 < 2 ^ 32 → Sourced (answer c b).frames

unfoldable pub AdvanceSource : Type 0
AdvanceSource = (b : FloorBox) (n : ℕ) → b.processes.count.0 < 2 ^ 32 → Sourced (advance_of b n).answer.frames
