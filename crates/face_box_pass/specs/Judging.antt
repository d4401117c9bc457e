-- Code: the quiet ticks of a box as the code comes to them, word by word of its 29; `specs/Judged.antt` shows that they are those of the box in the block.
-- Assumes nothing.
use Rattle.std.specs.Prelude.{ℕ, ◌+◌, ◌-◌, min, Bool, true, false, cond, ◌&&◌, ◌||◌, List, [], ◌∷◌, eqb, leb, ltb, take, drop, get_or}
use Rattle.face_box.specs.Box.{is_clear}
use Rattle.face_words.specs.Words.{lower}
use Rattle.frame_range.specs.Fits.{is_individual}

-- the ticks before a running timer rings; none of a word that is no such timer's
unfoldable pub rings_in : ℕ → ℕ → ℕ
rings_in left most = cond (eqb left 0) 0 (cond (ltb most left) 0 (left - 1))

-- each state runs its own timers and no other
unfoldable pub times_of : ℕ → ℕ → ℕ → ℕ → ℕ
times_of state wait watchdog report =
    cond (eqb state 3) (cond (eqb wait 0) (min (rings_in watchdog 62500000) (rings_in report 3125000)) 0)
    (cond (eqb watchdog 0 && eqb report 0)
    (cond (eqb state 2) (rings_in wait 3125000) (cond (eqb wait 0) (cond (ltb state 2) 65536 0) 0))
    0)

unfoldable pub fits_beside : ℕ → ℕ → Bool
fits_beside random sync = cond (ltb 65429 sync) false (leb random (65429 - sync))

unfoldable pub is_served : ℕ → ℕ → Bool
is_served length sync = cond (ltb 65429 sync) false (leb (106 + sync) length && leb length 65535)

unfoldable pub discovery_of : ℕ → ℕ → ℕ → ℕ → ℕ
discovery_of phase left grant sync =
    cond (eqb phase 1) (cond (fits_beside grant sync) (rings_in left 62500000) 0)
    (cond (eqb phase 2 && eqb grant 0) (cond (fits_beside left sync) (rings_in left 65535) 0)
    (cond (eqb grant 0 && eqb sync 0)
    (cond (eqb phase 3) (rings_in left 65461) (cond (eqb phase 4) (rings_in left 42) (cond (eqb phase 8) (rings_in left 32) 0)))
    0))

unfoldable pub light_of : ℕ → ℕ → ℕ → ℕ → ℕ
light_of phase left grant sync =
    cond (eqb phase 7) (cond (eqb grant 0 && eqb sync 0) (rings_in left 65471) 0)
    (cond (eqb phase 6) (cond (is_served grant sync) (rings_in left (32 + sync)) 0)
    (cond (eqb phase 5) (cond (is_served (lower grant) sync) (rings_in left 2147483647) 0)
    (discovery_of phase left grant sync)))

unfoldable pub is_own : ℕ → ℕ → ℕ → ℕ → Bool
is_own address count port sync =
    cond (ltb count 4294967296) (cond (leb port 65535 && leb sync 65535) (is_individual (record { 0 = address })) false) false

-- lengths of sixteen bits
abbrev pub are_short : List ℕ → Bool
are_short [] = true
are_short (x ∷ l) = leb (lower x) 65535 && are_short l

abbrev pub is_among : ℕ → List ℕ → Bool
is_among grant [] = false
is_among grant (x ∷ l) = eqb x grant || is_among grant l

-- grants are held only when REGISTERED, and one that is waited for is among them
unfoldable pub are_held : List ℕ → ℕ → ℕ → ℕ → ℕ → Bool
are_held b number state phase grant =
    let held = drop 13 (take (13 + number) b) in
    cond (ltb 16 number) false
    (cond (eqb state 3)
    (cond (is_clear (drop (13 + number) b) && are_short (drop 13 b)) (cond (eqb phase 5) (is_among grant held) true) false)
    false)

unfoldable pub is_listed : List ℕ → ℕ → ℕ → ℕ → ℕ → Bool
is_listed b number state phase grant =
    cond (eqb number 0) (cond (eqb phase 5) false (is_clear (drop 13 b))) (are_held b number state phase grant)

-- in WAIT the transmitter is at rest
unfoldable pub shines_of : List ℕ → ℕ → ℕ → ℕ
shines_of b state phase =
    let at : ℕ → ℕ = λ i. get_or b i 0 in
    cond (eqb state 0) 0 (cond (is_listed b (at 12) state phase (at 10)) (light_of phase (at 9) (at 10) (at 11)) 0)

-- at rest no word behind the phase is other than 0
unfoldable pub judged_of : List ℕ → ℕ
judged_of b =
    let at : ℕ → ℕ = λ i. get_or b i 0 in
    let t = times_of (at 2) (at 3) (at 4) (at 5) in
    cond (is_own (at 0) (at 1) (at 6) (at 7))
    (cond (eqb (at 8) 0) (cond (eqb (at 9) 0) (cond (is_clear (drop 10 b)) t 0) 0) (min t (shines_of b (at 2) (at 8))))
    0
