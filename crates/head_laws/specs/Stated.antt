-- Statement: what is claimed of every run of a head, of its refusals and of the frames that it hands out.
-- Assumes nothing.
use Rattle.std.specs.Prelude.{Option, None, Some, ℕ, suc, ◌^◌, ◌<◌, ◌≡◌, true, List, [], ◌∷◌, ◌++◌, length}
use Rattle.frame.specs.declared.Body.{Body}
use Rattle.frame.specs.Layout.{encode}
use Rattle.frame.specs.Range.{Valid}
use Rattle.frame.specs.declared.Address.{Address}
use Rattle.frame.specs.declared.Message.{Message}
use Rattle.frame.specs.declared.Reply.{Reply}
use Rattle.frame_range.specs.Fits.{is_individual}
use Rattle.head_state.specs.declared.Head.{Head}
use Rattle.head_links.specs.declared.Link.{Link}
use Rattle.head_survey.specs.Facts.{is_few}
use Rattle.head_judging.specs.declared.Call.{Call}
use Rattle.head_calls.specs.Fresh.{fresh_of}
use Rattle.head_calls.specs.Serve.{serve_of, sender_of, plan_of}
use Rattle.head_plans.specs.Plan.{quiet}
use Rattle.head_calls.specs.declared.Answer.{Answer}
use Rattle.head_table.specs.Events.{react_of}
use Rattle.head_table.specs.Output.{message_of}
use Rattle.head_table.specs.declared.Event.{Event}
use Rattle.head_table.specs.declared.Sender.{Sender}
use Rattle.head_plans.specs.declared.Plan.{Plan}

-- the heads and tables that a run reaches: a fresh head with 1 to 64 lent links, and what any call leaves, accepted or refused
pub data Run : Head → List Link → Type 0 where
  fresh : (a : Address) (xs : List Link) → is_individual a ≡ true → is_few (length xs) ≡ true
      → Run (fresh_of a xs).answer.next (fresh_of a xs).table
  calls : (h : Head) (xs : List Link) → Run h xs → (r : Call) (os : List ℕ)
      → Run (serve_of h xs r os).answer.next (serve_of h xs r os).table

-- what is told of a refusal, and of a fresh head
abbrev pub telling : Reply → Head → Answer
telling x h = record { reply = x; next = h; frames = 0; notice = quiet; made = 0 }

-- the octets of frames, one after another
abbrev pub encoded : List Message → List ℕ
encoded [] = []
encoded (m ∷ ms) = encode m ++ encoded ms

-- what one party sends: a message, or none
abbrev pub sent_by : Sender → Option (Address × Body) → List Message
sent_by s None = []
sent_by s (Some (a, body)) = message_of s a body ∷ []

-- what the links send at an event, where the first has the number k
abbrev pub link_frames : Event → Sender → ℕ → List Link → List Message
link_frames e s k [] = []
link_frames e s k (l ∷ ls) = sent_by s (react_of e l k).sent ++ link_frames e s (suc k) ls

-- the frames of a call: the head's own first, then those of the links in order
abbrev pub frames_of : Plan → List Link → List Message
frames_of p xs = sent_by (sender_of p) p.lead ++ link_frames p.event (sender_of p) 1 xs

abbrev pub AllValid : List Message → Type 0
AllValid [] = Unit {0}
AllValid (m ∷ ms) = Valid m × AllValid ms

-- the frames of a call
abbrev pub call_frames : Head → List Link → Call → List ℕ → List Message
call_frames h xs r os = frames_of (plan_of h xs r (length os)) xs

-- what the types of the code's numbers see to
abbrev pub RequestTyped : Call → Type 0
RequestTyped (Call.Open start length sync window) = start.0 < 2 ^ 32
RequestTyped (Call.Admit a pending sync) = pending < 2 ^ 8
RequestTyped (Call.Reject a pending sync) = pending < 2 ^ 8
RequestTyped (Call.Reregister link sync) = Unit {0}
RequestTyped (Call.Deregister link) = Unit {0}
RequestTyped (Call.Gate link asked) =
    (asked.first.start.0 < 2 ^ 32)
    × (asked.second.start.0 < 2 ^ 32)
    × (asked.third.start.0 < 2 ^ 32)
    × (asked.fourth.start.0 < 2 ^ 32)
RequestTyped (Call.Hear link m) = Unit {0}
RequestTyped Call.Tick = Unit {0}
RequestTyped (Call.Advance n) = Unit {0}

abbrev pub NotTick : Call → Type 0
NotTick (Call.Open start length sync window) = Unit {0}
NotTick (Call.Admit a pending sync) = Unit {0}
NotTick (Call.Reject a pending sync) = Unit {0}
NotTick (Call.Reregister link sync) = Unit {0}
NotTick (Call.Deregister link) = Unit {0}
NotTick (Call.Gate link asked) = Unit {0}
NotTick (Call.Hear link m) = Unit {0}
NotTick Call.Tick = ⊥
NotTick (Call.Advance n) = ⊥

-- frames go from the head's own address with the head's count
abbrev pub from : Head → Sender
from h = record { source = h.address; timestamp = h.count }
