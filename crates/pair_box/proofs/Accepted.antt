-- Of a box that holds what every reached one does, a tick is accepted, and so is a message of the head that is for it.
-- Assumes nothing.
use Prim.Native.Nat.{ℕ}
use mathlib.Core.Path.{◌≡◌}
use mathlib.Core.Bool.{true, false}
use Rattle.frame.specs.Range.{Valid}
use Rattle.frame.specs.Ways.{goes_to_head}
use Rattle.frame.specs.declared.Message.{Message}
use Rattle.frame_range.specs.Laws.{of-valid}
use Rattle.box_calls.specs.Answer.{accepted}
use Rattle.box_calls.specs.Box.{tick_of}
use Rattle.box_calls.specs.Hear.{is_for, heard_of, hear_of}
use Rattle.box_calls.specs.declared.FloorBox.{FloorBox}
use Rattle.box_laws.specs.Calls.{step, drift}
use Rattle.box_laws.specs.Stated.{hear, tick, answer}
use Rattle.box_laws.proofs.Runs.{Holds, holds-sound}
use Rattle.box_laws.specs.Steady.{tick-ok}

module _ (b : FloorBox) (h : Holds b) where
  pub tick-accepted : answer tick b ≡ accepted b (drift tick b) (step tick b)
  unfolding tick_of
  tick-accepted = rw (holds-sound h, tick-ok b.processes h.processes)

  pub hear-accepted : (m : Message) (random : ℕ) → Valid m → goes_to_head m.body ≡ false → is_for b m.destination m.body ≡ true
      → answer (hear m random) b ≡ accepted b (drift (hear m random) b) (step (hear m random) b)
  unfolding heard_of hear_of
  hear-accepted m random v f i = rw (holds-sound h, f, i, of-valid m v)
