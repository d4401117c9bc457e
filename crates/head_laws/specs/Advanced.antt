-- Rules R191 to R195, at the head: 13, 12 and 9 in that order, and else single ticks (`ticks` of laws). That the head's call answers so is
-- `advance-page` (Advance).
-- Assumes nothing.
use Rattle.std.specs.Prelude.{ℕ, Bool, true, false, ◌&&◌, List, [], ◌∷◌, eqb, length}
use Rattle.laws.specs.Ticks.{ticks}
use Rattle.clock.specs.Numbers.{is_in_reach}
use Rattle.frame.specs.Card.{◌unless◌, given, number_of}
use Rattle.frame.specs.declared.Reply.TheVariants.{Done, Grant, Output, Unsound}
use Rattle.head_state.specs.Head.{sound_of}
use Rattle.head_state.specs.declared.Head.{Head}
use Rattle.head_judging.specs.Judge.{has_room}
use Rattle.head_judging.specs.declared.Call.{Call}
use Rattle.head_links.specs.declared.Link.{Link}
use Rattle.head_plans.specs.declared.Kind.{Kind}
use Rattle.head_plans.specs.declared.Kind.TheVariants as kind
use Rattle.head_calls.specs.Serve.{Served, served, serve_of}
use Rattle.head_survey.specs.Facts.{sound_table}
use Rattle.head_laws.specs.Stated.{telling}

-- so many ticks on, with nothing handed out
abbrev pub still_at : Head → List Link → List ℕ → Served
still_at h xs os = served (telling Done h) xs os

-- the tick after the one that was answered so
abbrev pub again : Served → Served
again s = serve_of s.answer.next s.table Call.Tick s.octets

unfoldable pub is_done : Served → Bool
is_done s = eqb (number_of s.answer.reply) 0

abbrev pub is_none : Kind → Bool
is_none kind.Nothing = true
is_none kind.Request = false
is_none kind.Registered = false
is_none kind.Dropped = false
is_none (kind.Report sets) = false

-- neither a frame nor a notice
unfoldable pub is_silent : Served → Bool
is_silent s = eqb s.answer.frames 0 && is_none s.answer.notice.kind

-- the answer of the last tick made, and how many were made
pub record Made : Type 0 where
  pub last : Served
  pub made : ℕ

abbrev pub out : Served → ℕ → Made
out s m = record { last = s; made = m }

-- an answer, with the number made
abbrev pub with_made : ℕ → Served → Served
with_made m s =
    served (record { reply = s.answer.reply; next = s.answer.next; frames = s.answer.frames; notice = s.answer.notice; made = m }) s.table
    s.octets

unfoldable pub advanced_of : Head → List Link → ℕ → List ℕ → Served
advanced_of h xs n os =
    let m = ticks again is_done is_silent out n (still_at h xs os) 0 in
    given
    (Unsound unless (sound_of h && sound_table xs)
    ∷ Output unless has_room (length xs) (length os)
    ∷ Grant unless is_in_reach n
    ∷ [])
    (λ r. served (telling r h) xs os) (with_made m.made m.last)
