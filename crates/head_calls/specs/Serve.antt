-- Rules R147 to R150: a call of the head as a whole, with the table and the output after it.
-- Assumes nothing.
use Rattle.std.specs.Prelude.{ℕ, List, length}
use Rattle.lent.specs.Folds.{each}
use Rattle.head_state.specs.declared.Head.{Head}
use Rattle.head_links.specs.declared.Link.{Link}
use Rattle.head_survey.specs.Facts.{facts_of}
use Rattle.head_table.specs.Events.{driven_of}
use Rattle.head_table.specs.Output.{Output, output, note_of, note_link}
use Rattle.head_table.specs.declared.Sender.{Sender}
use Rattle.head_judging.specs.Judge.{look_of, judge_of}
use Rattle.head_plans.specs.declared.Plan.{Plan}
use Rattle.head_judging.specs.declared.Call.{Call}
use Rattle.head_calls.specs.declared.Answer.{Answer}

-- the answer, and what then stands in the table and in the output
pub record Served : Type 0 where
  pub answer : Answer
  pub table : List Link
  pub octets : List ℕ

abbrev pub served : Answer → List Link → List ℕ → Served
served a xs os = record { answer = a; table = xs; octets = os }

-- what is decided before anything is changed
unfoldable pub plan_of : Head → List Link → Call → ℕ → Plan
plan_of h xs r room = judge_of h (facts_of xs (look_of r)) (length xs) room r

-- R147
abbrev pub sender_of : Plan → Sender
sender_of p = record { source = p.head.address; timestamp = p.head.count }

-- R149, R188: the head's own frame first, then the links' in order
unfoldable pub sent_of : Plan → List Link → List ℕ → Output
sent_of p xs os = each (note_link p.event (sender_of p)) 1 xs (note_of (sender_of p) (output os 0) p.lead)

abbrev pub answer_of : Plan → ℕ → Answer
answer_of p frames = record { reply = p.reply; next = p.head; frames = frames; notice = p.notice; made = p.made }

unfoldable pub done_of : Plan → List Link → List ℕ → Served
done_of p xs os = served (answer_of p (sent_of p xs os).frames) (driven_of p.event xs) (sent_of p xs os).octets

unfoldable pub serve_of : Head → List Link → Call → List ℕ → Served
serve_of h xs r os = done_of (plan_of h xs r (length os)) xs os
