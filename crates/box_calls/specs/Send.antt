-- Rules R139 to R144: next to send. A slice is where it stands and the octets in it; which is lent is told by where it stands.
-- Assumes nothing.
use Rattle.std.specs.Prelude.{ℕ, Bool, cond, ◌&&◌, List, [], eqb, leb, ltb, length}
use Rattle.std.specs.Borrow.{Bor}
use Rattle.clock.specs.Numbers.{quanta_of}
use Rattle.box_light.specs.Light.{remaining}
use Rattle.box_registration.specs.Registration.{is_registered}
use Rattle.box_calls.specs.declared.FloorBox.{FloorBox}

-- R143: a frame of n octets fits
unfoldable pub fits_in : ℕ → ℕ → Bool
fits_in ticks n = leb (quanta_of n) ticks

-- R140 to R142
unfoldable pub send_of : FloorBox → Bor (List ℕ) → Bor (List ℕ) → Bor (List ℕ)
send_of b control frame =
    let p = b.processes in
    let ticks = remaining p.light in
    let c = length control.now in
    let d = length frame.now in
    cond (ltb 0 c && fits_in ticks c) control
    (cond (eqb c 0 && ltb 0 d && is_registered p.registration.state && fits_in ticks d) frame
    (record { ref_ptr = control.ref_ptr; now = [] }))
