-- A call that sends nothing that restarts a watchdog of the head hands out no such frame.
-- Assumes nothing.
use Rattle.std.proofs.Common.{Option, None, Some}
use mathlib.Core.Path.{◌≡◌}
use mathlib.Core.Bool.{false}
use Rattle.clock.specs.declared.Count.{Count}
use Rattle.frame.specs.Layout.{encode}
use Rattle.frame.specs.Range.{Valid}
use Rattle.frame.specs.declared.Address.{Address}
use Rattle.frame.specs.declared.Body.{Body}
use Rattle.box_telling.specs.Told.{handed}
use Rattle.box_telling.specs.declared.Frames.{Frames}
use Rattle.box_calls.specs.Answer.{message_of}
use Rattle.box_laws.specs.Frames.{Handed}
use Rattle.pair_wire.specs.Carried.{carries-back}
use Rattle.pair_wire.specs.Restarts.{restarts_head, up_restarts}
use Rattle.pair_demand.specs.Laws.{All}
use Rattle.pair_box.specs.End.{frames_in}
use Rattle.pair_box.proofs.Moves.{Mute}

module _ (own : Address) (now : Count) where
  mute-frame : (body : Body) → Valid (message_of own now body) → restarts_head body ≡ false → up_restarts (encode (message_of own now body)) ≡ false
  mute-frame body v m = rw (carries-back (message_of own now body) v) m

  pub mute-frames : (first second : Option Body) (f : Frames) → Handed own now first second f → Mute first → Mute second
      → All (λ os. up_restarts os ≡ false) (frames_in f.number f)
  unfolding handed
  mute-frames None None f h m n = rw h.frames tt
  mute-frames None (Some two) f h m n = rw h.frames (mute-frame two h.second-valid n, tt)
  mute-frames (Some one) None f h m n = rw h.frames (mute-frame one h.first-valid m, tt)
  mute-frames (Some one) (Some two) f h m n = rw h.frames (mute-frame one h.first-valid m, (mute-frame two h.second-valid n, tt))
