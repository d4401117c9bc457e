-- Face: what stands in the caller's memory k ticks on, where none of them hands out anything.
-- Assumes nothing.
use Rattle.std.specs.Prelude.{ℕ, zero, suc, ◌+◌, ◌-◌, ◌*◌, cond, List, ◌++◌, eqb, ltb, length, take, drop, get_or, set}
use Rattle.clock.specs.Counts.{later_of}
use Rattle.face_fields.specs.Fields.{count_of}
use Rattle.head_state.specs.Head.{after_of}
use Rattle.face_head.specs.Head.{head_words}
use Rattle.face_head.specs.Table.{five, words_at, links_in}
use Rattle.face_head.specs.declared.LinkWords.{LinkWords}
use Rattle.face_words.specs.Words.{laid}
use Rattle.face_head_pass.specs.Quiet.{head_at}

-- k less of each timer; one that is stopped stays so
abbrev pub less_of : LinkWords → ℕ → LinkWords
less_of w k =
    record { address = w.address; state = w.state; wait = w.wait - k; watchdog = w.watchdog - k; periodic = w.periodic - k }

-- those of the link whose words begin at a place
unfoldable pub passed_at : ℕ → List ℕ → ℕ → List ℕ
passed_at at ws k = take at ws ++ five (less_of (words_at (drop at ws)) k) ++ drop (at + 5) ws

-- of the first n links
unfoldable pub passed_to : ℕ → List ℕ → ℕ → List ℕ
passed_to zero ws k = ws
passed_to (suc i) ws k = passed_at (5 * i) (passed_to i ws k) k

unfoldable pub passed_links : List ℕ → ℕ → List ℕ
passed_links ws k = passed_to (links_in (length ws)) ws k

-- of a head whose window is idle the count, of another the window too; a block that is too short stays
unfoldable pub passed_head : List ℕ → ℕ → List ℕ
passed_head ws k =
    cond (ltb (length ws) 5) ws
    (cond (eqb (get_or ws 2 0) 0) (set ws 1 (later_of (count_of (get_or ws 1 0)) k).0) (laid (head_words (after_of (head_at ws) k)) ws))
