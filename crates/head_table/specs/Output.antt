-- Rules R147, R149: the frames of a call, and where they stand in the output.
-- Assumes nothing.
use Rattle.std.specs.Prelude.{Option, None, Some, ℕ, ◌+◌, ◌*◌, ◌/◌, cond, List, ltb, length}
use Rattle.frame.specs.declared.Address.{Address}
use Rattle.frame.specs.declared.Body.{Body}
use Rattle.frame.specs.declared.Message.{Message}
use Rattle.octets.specs.Over.{over}
use Rattle.frame_writer.specs.Write.{write_of}
use Rattle.head_links.specs.declared.Link.{Link}
use Rattle.head_table.specs.Events.{react_of}
use Rattle.head_table.specs.declared.Event.{Event}
use Rattle.head_table.specs.declared.Sender.{Sender}

-- the octets of the output, and how many frames stand in it
pub record Output : Type 0 where
  pub octets : List ℕ
  pub frames : ℕ

abbrev pub output : List ℕ → ℕ → Output
output os n = record { octets = os; frames = n }

-- R149: one frame more, over what was there; one that has no room is left out
unfoldable pub pasted : Output → List ℕ → Output
pasted st f =
    cond (ltb st.frames (length st.octets / 60))
    (output (over (st.frames * 60) st.octets f) (st.frames + 1))
    st

-- R147
abbrev pub message_of : Sender → Address → Body → Message
message_of s to body = record { destination = to; source = s.source; timestamp = s.timestamp; body = body }

abbrev pub note_of : Sender → Output → Option (Address × Body) → Output
note_of s st None = st
note_of s st (Some (a, body)) = pasted st (write_of (message_of s a body)).octets

-- the output after what the link of that number sends
abbrev pub note_link : Event → Sender → ℕ → Link → Output → Output
note_link e s number l st = note_of s st (react_of e l number).sent
