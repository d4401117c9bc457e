-- Code: the core's call over lent links, with what it then leaves in the words.
-- Assumes nothing.
use Rattle.std.specs.Prelude.{ℕ, cond, List, length}
use Rattle.frame.specs.declared.Address.{Address}
use Rattle.head_state.specs.declared.Head.{Head}
use Rattle.face_head.specs.Table.{loaded, stored}
use Rattle.head_judging.specs.declared.Call.{Call}
use Rattle.head_links.specs.declared.Link.{Link}
use Rattle.head_calls.specs.Fresh.{is_done, fresh_of}
use Rattle.head_calls.specs.Serve.{serve_of}
use Rattle.head_calls.specs.declared.Answer.{Answer}

-- how many links are laid back: all where the call is done, none where it is refused
unfoldable pub kept_of : Answer → ℕ → ℕ
kept_of a n = cond (is_done a.reply) n 0

-- the answer, and what then stands in the words and in the output
pub record LendLeft : Type 0 where
  pub answer : Answer
  pub words : List ℕ
  pub octets : List ℕ

abbrev pub lend_left : Answer → List ℕ → List ℕ → LendLeft
lend_left a ws os = record { answer = a; words = ws; octets = os }

unfoldable pub lend_of : Head → List ℕ → List Link → Call → List ℕ → LendLeft
lend_of h ws xs r os =
    let done = serve_of h (loaded ws xs) r os in
    lend_left done.answer (stored done.table (kept_of done.answer (length xs)) ws) done.octets

-- the same of a call that lends no output
pub record ClearLeft : Type 0 where
  pub answer : Answer
  pub words : List ℕ

abbrev pub clear_left : Answer → List ℕ → ClearLeft
clear_left a ws = record { answer = a; words = ws }

unfoldable pub clear_of : Address → List ℕ → List Link → ClearLeft
clear_of a ws xs =
    let made = fresh_of a xs in
    clear_left made.answer (stored made.table (kept_of made.answer (length xs)) ws)
