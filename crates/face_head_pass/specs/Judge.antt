-- Code: the words judged where they stand; `proofs/Page.antt` shows that this is what `Quiet` says.
-- Assumes nothing.
use Rattle.std.specs.Prelude.{ℕ, zero, suc, ◌+◌, ◌-◌, ◌/◌, ◌%◌, min, Bool, true, false, cond, not, ◌&&◌, ◌||◌, List, [], eqb, leb, ltb, length, get_or}
use Rattle.std.specs.Simd.{first_chunks}
use Rattle.clock.specs.Numbers.{watchdog, periodic, wait, furthest}
use Rattle.clock.specs.Timers.{runs}
use Rattle.head_state.specs.Window.{longest_window}
use Rattle.face_head.specs.Table.{words_at, links_in}
use Rattle.face_head.specs.declared.LinkWords.{LinkWords}
use Rattle.frame_range.specs.Fits.{is_individual}

-- a sound link's words, but that a timer which must run may be 0
unfoldable pub fits : LinkWords → Bool
fits w =
    cond (eqb w.state 2)
    (is_individual (record { 0 = w.address }) && eqb w.wait 0 && leb w.watchdog watchdog && leb w.periodic periodic)
    (cond (eqb w.state 1)
    (is_individual (record { 0 = w.address }) && leb w.wait wait && eqb w.watchdog 0 && eqb w.periodic 0)
    (eqb w.state 0 && eqb w.address 0 && eqb w.wait 0 && eqb w.watchdog 0 && eqb w.periodic 0))

-- the least of m and what is left of the timers that must run
unfoldable pub near : LinkWords → ℕ → ℕ
near w m = cond (eqb w.state 2) (min (min m w.watchdog) w.periodic) (cond (eqb w.state 1) (min m w.wait) m)

-- a sound link's words, of whose timers none rings at the next tick
unfoldable pub still : LinkWords → Bool
still w =
    cond (eqb w.state 2)
    (is_individual (record { 0 = w.address })
    && eqb w.wait 0
    && leb 2 w.watchdog
    && leb w.watchdog watchdog
    && leb 2 w.periodic
    && leb w.periodic periodic)
    (cond (eqb w.state 1)
    (is_individual (record { 0 = w.address }) && leb 2 w.wait && leb w.wait wait && eqb w.watchdog 0 && eqb w.periodic 0)
    (eqb w.state 0 && eqb w.address 0 && eqb w.wait 0 && eqb w.watchdog 0 && eqb w.periodic 0))

-- the links' words, five a link
abbrev pub table_of : List ℕ → List (List ℕ)
table_of ws = first_chunks 5 (links_in (length ws)) ws

-- those of link i, counted from 0
abbrev pub link_words_at : ℕ → List (List ℕ) → LinkWords
link_words_at i ls = words_at (get_or ls i [])

abbrev pub address_at : ℕ → List (List ℕ) → ℕ
address_at i ls = get_or (get_or ls i []) 0 0

-- the tick behind the last that a call may pass
abbrev pub behind : ℕ
behind = 65537

-- the tick at which the first of n links rings; 0 where one of them isn't sound
unfoldable pub nearest_to : ℕ → List (List ℕ) → ℕ
nearest_to zero ls = behind
nearest_to (suc i) ls = cond (fits (link_words_at i ls)) (near (link_words_at i ls) (nearest_to i ls)) 0

-- where the mark of an address stands
unfoldable pub place_of : ℕ → ℕ → ℕ
place_of a marks = (a % 65536 + a / 1024 % 65536) % marks

-- one of the first n links has the address
unfoldable pub holds_to : ℕ → List (List ℕ) → ℕ → Bool
holds_to zero ls a = false
holds_to (suc j) ls a = holds_to j ls a || eqb (address_at j ls) a

-- a link before i has its address, and it isn't an idle one's
abbrev pub repeats_at : ℕ → List (List ℕ) → Bool
repeats_at i ls = holds_to i ls (address_at i ls) && ltb 0 (address_at i ls)

-- the same, where a mark is met
unfoldable pub spotted : List ℕ → List (List ℕ) → ℕ → Bool
spotted ms ls i = cond (eqb (get_or ms (place_of (address_at i ls) (length ms)) 0) 0) false (repeats_at i ls)

unfoldable pub differ_to : ℕ → List (List ℕ) → Bool
differ_to zero ls = true
differ_to (suc i) ls = differ_to i ls && not (repeats_at i ls)

unfoldable pub window_fits : ℕ → ℕ → ℕ → Bool
window_fits phase left length =
    cond (eqb phase 0) (eqb left 0 && eqb length 0)
    (cond (eqb phase 1) (runs (record { left = left }) furthest && runs (record { left = length }) longest_window)
    (eqb phase 2 && runs (record { left = left }) longest_window && eqb length 0))

unfoldable pub head_fits : List ℕ → Bool
head_fits ws =
    let at : ℕ → ℕ = λ i. get_or ws i 0 in
    is_individual (record { 0 = at 0 }) && leb (at 1) 4294967295 && window_fits (at 2) (at 3) (at 4)

-- how many ticks of the links hand out nothing
unfoldable pub quiet_links : List (List ℕ) → ℕ
quiet_links ls =
    let n = length ls in
    let m = nearest_to n ls in
    cond (eqb n 0) 0 (cond (ltb m 2) 0 (cond (differ_to n ls) (m - 1) 0))
