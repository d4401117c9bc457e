-- Statement: which words the calls of the head take: those of a sound head and of a sound table, word for word, and no others. And what a fresh
-- head leaves in the caller's memory. What the calls leave is on the page Calls of face_head_calls.
-- Assumes nothing.
use Rattle.std.specs.Prelude.{ℕ, ◌*◌, ◌/◌, ◌^◌, ◌<◌, ◌≤◌, ◌≡◌, true, false, List, [], ◌∷◌, ◌≢◌, ◌⊎◌, length, take, replicate}
use Rattle.frame.specs.Card.{number_of}
use Rattle.frame.specs.declared.Address.{Address}
use Rattle.frame_range.specs.Fits.{is_individual}
use Rattle.head_state.specs.Head.{sound_of}
use Rattle.head_state.specs.declared.Head.{Head}
use Rattle.head_state.specs.declared.Window.{Window}
use Rattle.head_state.specs.declared.Window.TheVariants.{Idle, Before, Inside}
use Rattle.head_links.specs.declared.Link.{Link}
use Rattle.head_survey.specs.Facts.{is_few, sound_table}
use Rattle.head_judging.specs.declared.Call.{Call}
use Rattle.frame_reader.specs.Decode.{read_of}
use Rattle.face_words.specs.Words.{laid}
use Rattle.face_head.specs.Head.{head_words}
use Rattle.face_head.specs.Table.{table_words, links_at}
use Rattle.face_head_calls.specs.Calls.{begun_left, head_at, served_of, heard_of, begun_of}

-- what the types of the fields see to by themselves
abbrev pub WindowFits : Window → Type 0
WindowFits Idle = Unit {0}
WindowFits (Before t length) = (t.left < 2 ^ 32) × (length.0 < 2 ^ 32)
WindowFits (Inside t) = t.left < 2 ^ 32

pub record HeadFits (h : Head) : Type 0 where
  pub count : h.count.0 < 2 ^ 32
  pub window : WindowFits h.window

pub record LinkFits (l : Link) : Type 0 where
  pub wait : l.wait.left < 2 ^ 32
  pub watchdog : l.watchdog.left < 2 ^ 32
  pub periodic : l.periodic.left < 2 ^ 32

abbrev pub LinksFit : List Link → Type 0
LinksFit [] = Unit {0}
LinksFit (l ∷ ls) = LinkFits l × LinksFit ls

-- the block's first five words are those of a sound head, and the links' words those of a sound table: as many links as there are words for,
-- of which a sound table has 1 to 64
pub record Stand (head links : List ℕ) : Type 0 where
  pub its : Head
  pub table : List Link
  pub its-fit : HeadFits its
  pub table_fits : LinksFit table
  pub its-sound : sound_of its ≡ true
  pub table-sound : sound_table table ≡ true
  pub its-words : take 5 head ≡ head_words its
  pub all : length table ≡ length links / 5
  pub table-words : take (5 * length table) links ≡ table_words table

-- a request that lends enough is answered otherwise than 13 just where they stand
unfoldable pub HeadJudged : Type 0
HeadJudged =
    (r : Call) (head links output reply : List ℕ) → 5 ≤ length head → 10 ≤ length reply
    → (Stand head links → (served_of r head links output reply).number ≢ 13)
    × ((served_of r head links output reply).number ≢ 13 → Stand head links)

-- a frame that the reader refuses is answered by the reader's number, whatever the words; any other is the request to hear its message
unfoldable pub HeadReads : Type 0
HeadReads =
    (link : ℕ) (os head links output reply : List ℕ) → 5 ≤ length head → 10 ≤ length reply
    → (number_of (read_of os).reply ≢ 0 → (heard_of link os head links output reply).number ≡ number_of (read_of os).reply)
    × (number_of (read_of os).reply ≡ 0
    → heard_of link os head links output reply ≡ served_of (Call.Hear link (read_of os).message) head links output reply)

-- where they stand, that head and that table are what a call unpacks, and packing them gives the very words
pub record Repacked (head links : List ℕ) (s : Stand head links) : Type 0 where
  pub its : head_at head ≡ s.its
  pub table : links_at links ≡ s.table
  pub its-words : head_words (head_at head) ≡ take 5 head
  pub table-words : table_words (links_at links) ≡ take (5 * (length links / 5)) links

unfoldable pub HeadRepacked : Type 0
HeadRepacked = (head links : List ℕ) (s : Stand head links) → Repacked head links s

-- A fresh head, word for word: too little lent, a table of no allowed size, an address that is none of a head's, and done. Nothing but the last two
-- writes a word of the block, and nothing but the last one of the table.
pub record Fresh (a : Address) (head links reply : List ℕ) : Type 0 where
  pub short : ¬ ((5 ≤ length head) × (10 ≤ length reply)) → begun_of a head links reply ≡ begun_left 100 head links reply
  pub unsound : 5 ≤ length head → 10 ≤ length reply → is_few (length links / 5) ≡ false
      → begun_of a head links reply ≡ begun_left 13 head links (laid (0 ∷ 0 ∷ []) reply)
  pub range : 5 ≤ length head → 10 ≤ length reply → is_few (length links / 5) ≡ true → is_individual a ≡ false
      → begun_of a head links reply ≡ begun_left 4 (laid (0 ∷ 0 ∷ 0 ∷ 0 ∷ 0 ∷ []) head) links (laid (0 ∷ 0 ∷ []) reply)
  pub done : 5 ≤ length head → 10 ≤ length reply → is_few (length links / 5) ≡ true → is_individual a ≡ true
      → begun_of a head links reply
      ≡ begun_left 0 (laid (a.0 ∷ 0 ∷ 0 ∷ 0 ∷ 0 ∷ []) head) (laid (replicate (5 * (length links / 5)) 0) links) (laid (0 ∷ 0 ∷ []) reply)

unfoldable pub HeadFresh : Type 0
HeadFresh = (a : Address) (head links reply : List ℕ) → Fresh a head links reply

-- so 13 and 100 leave every word
unfoldable pub FreshSpares : Type 0
FreshSpares =
    (a : Address) (head links reply : List ℕ)
    → ((begun_of a head links reply).number ≡ 13) ⊎ ((begun_of a head links reply).number ≡ 100)
    → ((begun_of a head links reply).head ≡ head) × ((begun_of a head links reply).links ≡ links)
