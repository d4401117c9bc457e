-- Face: what a call of the head leaves in the caller's memory: that of the core over the head and the links that the words tell, and nothing
-- where too little is lent.
-- Assumes nothing.
use Rattle.std.specs.Prelude.{ℕ, Bool, cond, ◌&&◌, List, [], ◌∷◌, eqb, leb, length, replicate}
use Rattle.frame.specs.Card.{number_of}
use Rattle.frame.specs.declared.Address.{Address}
use Rattle.frame.specs.declared.Reply.{Reply}
unfoldable pub use Rattle.face_head_pass.specs.Quiet.{head_at, quiet_of, until_call}
use Rattle.face_head.specs.Head.{head_words}
use Rattle.face_head.specs.Table.{table_words, links_at}
use Rattle.face_head.specs.Told.{told_words}
use Rattle.head_judging.specs.declared.Call.{Call}
use Rattle.head_links.specs.declared.Link.{Link}
use Rattle.frame_reader.specs.Decode.{read_of}
use Rattle.head_calls.specs.Fresh.{Freshly, is_done, fresh_of}
use Rattle.head_calls.specs.Serve.{Served, serve_of}
use Rattle.head_calls.specs.declared.Answer.{Answer}
use Rattle.face_words.specs.Words.{short, laid}

-- the number that a call returns, and what then stands in the head's block, in the table, in the output and in the reply
pub record Left : Type 0 where
  pub number : ℕ
  pub head : List ℕ
  pub links : List ℕ
  pub output : List ℕ
  pub reply : List ℕ

abbrev pub left : ℕ → List ℕ → List ℕ → List ℕ → List ℕ → Left
left n head links output reply = record { number = n; head = head; links = links; output = output; reply = reply }

-- the same of a call that lends no output
pub record BegunLeft : Type 0 where
  pub number : ℕ
  pub head : List ℕ
  pub links : List ℕ
  pub reply : List ℕ

abbrev pub begun_left : ℕ → List ℕ → List ℕ → List ℕ → BegunLeft
begun_left n head links reply = record { number = n; head = head; links = links; reply = reply }

-- and of what only tells
pub record Told : Type 0 where
  pub number : ℕ
  pub reply : List ℕ

abbrev pub told : ℕ → List ℕ → Told
told n reply = record { number = n; reply = reply }

-- 5 words for the head, 10 for what is told
unfoldable pub is_lent : ℕ → ℕ → Bool
is_lent head reply = leb 5 head && leb 10 reply

unfoldable pub laid_head : Answer → List ℕ → List ℕ
laid_head a head = laid (head_words a.next) head

-- the head after a call that is done, or the block as it was
unfoldable pub kept_head : Answer → List ℕ → List ℕ
kept_head a head = cond (is_done a.reply) (laid_head a head) head

-- the table after a call that is done, or the words as they were
unfoldable pub kept_links : Answer → List Link → List ℕ → List ℕ
kept_links a xs links = cond (is_done a.reply) (laid (table_words xs) links) links

-- what the core's call left, in the caller's memory
unfoldable pub handed : Served → List ℕ → List ℕ → List ℕ → Left
handed done head links reply =
    let a = done.answer in
    left (number_of a.reply) (kept_head a head) (kept_links a done.table links) done.octets (laid (told_words a) reply)

-- a call is the core's, of the head in the block and the links in the words; where too little is lent it is 100, and nothing is touched
unfoldable pub served_of : Call → List ℕ → List ℕ → List ℕ → List ℕ → Left
served_of r head links output reply =
    cond (is_lent (length head) (length reply)) (handed (serve_of (head_at head) (links_at links) r output) head links reply)
    (left short head links output reply)

-- what an advance leaves: what a call does, and how many ticks were made
pub record AdvanceLeft : Type 0 where
  pub call : Left
  pub made : List ℕ

abbrev pub advance_left : Left → List ℕ → AdvanceLeft
advance_left l made = record { call = l; made = made }

-- an advance is the core's too, and the first word of `made` the number of ticks made
unfoldable pub advanced_of : ℕ → List ℕ → List ℕ → List ℕ → List ℕ → List ℕ → AdvanceLeft
advanced_of n head links output reply made =
    let done = serve_of (head_at head) (links_at links) (Call.Advance n) output in
    advance_left (handed done head links reply) (laid (done.answer.made ∷ []) made)

unfoldable pub advance_call : ℕ → List ℕ → List ℕ → List ℕ → List ℕ → List ℕ → AdvanceLeft
advance_call n head links output reply made =
    cond (is_lent (length head) (length reply) && leb 1 (length made)) (advanced_of n head links output reply made)
    (advance_left (left short head links output reply) made)

-- a refusal of the reader's: nothing is changed, and nothing told
unfoldable pub refused_of : Reply → List ℕ → List ℕ → Told
refused_of why head reply =
    cond (is_lent (length head) (length reply)) (told (number_of why) (laid (replicate 2 0) reply)) (told short reply)

-- the octets are read, and the message heard
unfoldable pub heard_of : ℕ → List ℕ → List ℕ → List ℕ → List ℕ → List ℕ → Left
heard_of link octets head links output reply =
    let r = read_of octets in
    let no = refused_of r.reply head reply in
    cond (eqb (number_of r.reply) 0) (served_of (Call.Hear link r.message) head links output reply)
    (left no.number head links output no.reply)

-- a table of no allowed size leaves the block as it was; a head that is refused for its address holds address zero
unfoldable pub begun_head : Answer → List ℕ → List ℕ
begun_head a head = cond (eqb (number_of a.reply) 13) head (laid_head a head)

-- of a fresh head, block and table where it is done, and the block alone where it is refused for its address
unfoldable pub cleared : Freshly → List ℕ → List ℕ → List ℕ → BegunLeft
cleared made head links reply =
    let a = made.answer in
    begun_left (number_of a.reply) (begun_head a head) (kept_links a made.table links) (laid (told_words a) reply)

-- a fresh head over the links in the words
unfoldable pub begun_of : Address → List ℕ → List ℕ → List ℕ → BegunLeft
begun_of a head links reply =
    cond (is_lent (length head) (length reply)) (cleared (fresh_of a (links_at links)) head links reply) (begun_left short head links reply)
