-- Face: a table of links as words of 64 bits, five a link, one behind the other: which word holds what, and what links any words tell: those
-- that pack to just these words, or nobody's.
-- Assumes nothing.
use Rattle.std.specs.Prelude.{ℕ, zero, suc, ◌*◌, ◌/◌, min, Bool, cond, List, [], ◌∷◌, ◌++◌, eqb, leb, length, take, drop, get_or}
use Rattle.clock.specs.Timers.{stopped}
use Rattle.head_links.specs.declared.Link.{Link}
use Rattle.head_links.specs.declared.State.{State}
use Rattle.head_links.specs.declared.State.TheVariants.{Idle, Waiting, Registered}
use Rattle.face_fields.specs.Fields.{timer_of}
use Rattle.face_words.specs.Words.{same}
use Rattle.face_head.specs.declared.LinkWords.{LinkWords}

abbrev pub state_word : State → ℕ
state_word Idle = 0
state_word Waiting = 1
state_word Registered = 2

-- a word that is no state's is taken as idle
unfoldable pub state_of : ℕ → State
state_of w = cond (eqb w 1) Waiting (cond (eqb w 2) Registered Idle)

abbrev pub link_words : Link → LinkWords
link_words l =
    record {
      address = l.address.0;
      state = state_word l.state;
      wait = l.wait.left;
      watchdog = l.watchdog.left;
      periodic = l.periodic.left;
    }

-- what words tell, each field by itself
abbrev pub link_of : LinkWords → Link
link_of w =
    record {
      address = record { 0 = w.address };
      state = state_of w.state;
      wait = timer_of w.wait;
      watchdog = timer_of w.watchdog;
      periodic = timer_of w.periodic;
    }

-- the words of a link, in their order
abbrev pub five : LinkWords → List ℕ
five w = w.address ∷ w.state ∷ w.wait ∷ w.watchdog ∷ w.periodic ∷ []

-- the words are a link's: just those that it packs to
unfoldable pub is_link : LinkWords → Bool
is_link w = same (five (link_words (link_of w))) (five w)

-- an idle link whose wait runs, and past every setting: sound nowhere
abbrev pub no_link : Link
no_link = record { address = record { 0 = 0 }; state = Idle; wait = record { left = 4294967295 }; watchdog = stopped; periodic = stopped }

-- the link that words tell; those that are no link's tell one that is sound nowhere
unfoldable pub link_in : LinkWords → Link
link_in w = cond (is_link w) (link_of w) no_link

-- the first five of words
abbrev pub words_at : List ℕ → LinkWords
words_at ws =
    let at : ℕ → ℕ = λ i. get_or ws i 0 in
    record { address = at 0; state = at 1; wait = at 2; watchdog = at 3; periodic = at 4 }

-- the words of a table
unfoldable pub table_words : List Link → List ℕ
table_words [] = []
table_words (l ∷ ls) = five (link_words l) ++ table_words ls

-- the first n links that words tell
unfoldable pub links_of : ℕ → List ℕ → List Link
links_of zero ws = []
links_of (suc n) ws = link_in (words_at ws) ∷ links_of n (drop 5 ws)

-- how many links so many words hold; more than a table may have are taken as none
unfoldable pub links_in : ℕ → ℕ
links_in words = cond (leb (words / 5) 64) (words / 5) 0

-- the links that words tell
abbrev pub links_at : List ℕ → List Link
links_at ws = links_of (links_in (length ws)) ws

-- how many links so many words and so many links both have room for
unfoldable pub room_of : ℕ → ℕ → ℕ
room_of words links = min (words / 5) links

-- the links in the words over others, as many as both have room for; those behind them stay
unfoldable pub loaded : List ℕ → List Link → List Link
loaded ws xs = let n = room_of (length ws) (length xs) in links_of n ws ++ drop n xs

-- the first n of links over words, as many as both have room for; the words behind them stay
unfoldable pub stored : List Link → ℕ → List ℕ → List ℕ
stored xs n ws = let k = min n (room_of (length ws) (length xs)) in table_words (take k xs) ++ drop (5 * k) ws
