-- Rules R13, R69, R99, R100, R125: what a call of the box is answered with.
-- Assumes nothing.
use Rattle.std.specs.Prelude.{Option, None, Some, ℤ, pos}
use Rattle.clock.specs.declared.Count.{Count}
use Rattle.frame.specs.declared.Address.{Address}
use Rattle.frame.specs.declared.Body.{Body}
use Rattle.frame.specs.declared.Message.{Message}
use Rattle.frame.specs.declared.Reply.{Reply}
use Rattle.frame.specs.declared.Reply.TheVariants.{Done}
use Rattle.frame_writer.specs.Write.{write_of}
use Rattle.box_telling.specs.Told.{no_notices, no_frames, handed}
use Rattle.box_telling.specs.declared.Frames.{Frames}
use Rattle.box_processes.specs.declared.Step.{Step}
use Rattle.box_activation.specs.Activation.{activate}
use Rattle.box_calls.specs.declared.FloorBox.{FloorBox}
use Rattle.box_calls.specs.declared.Answer.{Answer}

-- R13, R69: a number, and nothing else
abbrev pub bare : FloorBox → Reply → Answer
bare b r = record { reply = r; drift = pos 0; next = b; frames = no_frames; notices = no_notices }

-- R69
abbrev pub refused : FloorBox → Reply → Answer
refused b r = bare b r

-- R99
abbrev pub message_of : Address → Count → Body → Message
message_of own now body = record { destination = record { 0 = 0x0180C2000001 }; source = own; timestamp = now; body = body }

abbrev pub framed : Address → Count → Frames → Option Body → Frames
framed own now f None = f
framed own now f (Some body) = handed f (write_of (message_of own now body)).octets

-- R100, R125
unfoldable pub accepted : FloorBox → ℤ → Step → Answer
accepted b drift s =
    let own = b.address in
    let now = s.next.count in
    record {
      reply = Done;
      drift = drift;
      next = record { address = own; processes = activate s.next };
      frames = framed own now (framed own now no_frames s.first) s.second;
      notices = s.notices;
    }
