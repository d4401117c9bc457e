-- Code: what the head's calls hand on from one to the other.
-- Assumes nothing.
use Rattle.std.specs.Prelude.{ℕ, Bool, false, cond, ◌&&◌, List, leb, length}
use Rattle.clock.specs.Numbers.{is_in_reach}
use Rattle.frame.specs.Card.{number_of}
use Rattle.face_head.specs.Table.{links_in, links_at}
use Rattle.face_head.specs.Told.{told_words}
use Rattle.head_judging.specs.Judge.{has_room}
use Rattle.head_judging.specs.declared.Call.{Call}
use Rattle.head_calls.specs.Serve.{serve_of}
use Rattle.head_calls.specs.declared.Answer.{Answer}
use Rattle.face_words.specs.Words.{laid}
use Rattle.face_head_calls.specs.Calls.{head_at, until_call, Told, told, kept_head, kept_links}

unfoldable pub told_of : Answer → List ℕ → Told
told_of a reply = told (number_of a.reply) (laid (told_words a) reply)

-- what the core answers, and what its call leaves but for the reply
pub record AnswerLeft : Type 0 where
  pub answer : Answer
  pub head : List ℕ
  pub links : List ℕ
  pub output : List ℕ

abbrev pub answer_left : Answer → List ℕ → List ℕ → List ℕ → AnswerLeft
answer_left a head links output = record { answer = a; head = head; links = links; output = output }

unfoldable pub answered_of : Call → List ℕ → List ℕ → List ℕ → AnswerLeft
answered_of r head links output =
    let done = serve_of (head_at head) (links_at links) r output in
    answer_left done.answer (kept_head done.answer head) (kept_links done.answer done.table links) done.octets

-- n ticks that a call may make, each of which hands out nothing
unfoldable pub quiet_by : ℕ → List ℕ → List ℕ → ℕ → Bool
quiet_by n head links octets = cond (is_in_reach n && has_room (links_in (length links)) octets) (leb n (until_call head links)) false
