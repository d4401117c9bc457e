-- Rules R12 to R14, R101 to R104: what a message is answered with.
-- Assumes nothing.
use Rattle.std.specs.Prelude.{ℕ, Bool, true, false, not, ◌&&◌, ◌||◌, [], ◌∷◌, eqb}
use Rattle.clock.specs.Counts.{drift_of}
use Rattle.frame.specs.Card.{◌unless◌, given}
use Rattle.frame.specs.Ways.{goes_to_head}
use Rattle.frame.specs.declared.Address.{Address}
use Rattle.frame.specs.declared.Body.{Body}
use Rattle.frame.specs.declared.Body.TheVariants.{Gate, Discovery, Report, RegisterReq, Register, RegisterAck}
use Rattle.frame.specs.declared.Message.{Message}
use Rattle.frame.specs.declared.Reply.TheVariants.{Range, Direction, Party, Unsound}
use Rattle.frame_range.specs.Fits.{fits_message}
use Rattle.box_processes.specs.Parts.{with_count}
use Rattle.box_hearing.specs.Hear.{hear_of as processes_hear}
use Rattle.box_calls.specs.Answer.{refused, accepted}
use Rattle.box_calls.specs.Box.{sound_of}
use Rattle.box_calls.specs.declared.FloorBox.{FloorBox}
use Rattle.box_calls.specs.declared.Answer.{Answer}

abbrev pub is_discovery : Body → Bool
is_discovery (Gate grants) = false
is_discovery (Discovery grant sync) = true
is_discovery (Register port flag sync pending) = false
is_discovery (Report sets) = false
is_discovery (RegisterReq flag pending) = false
is_discovery (RegisterAck flag port sync) = false

-- R103
unfoldable pub is_for : FloorBox → Address → Body → Bool
is_for b destination body =
    eqb destination.0 b.address.0 || (is_discovery body && eqb destination.0 0x0180C2000001)

-- R12 to R14
unfoldable pub heard_of : FloorBox → Message → ℕ → Answer
heard_of b m random =
    let p = b.processes in
    let own = eqb m.destination.0 b.address.0 in
    accepted b (drift_of p.count.0 m.timestamp.0) (processes_hear m.body (with_count p m.timestamp) own random)

-- R101 to R104
unfoldable pub hear_of : FloorBox → Message → ℕ → Answer
hear_of b m random =
    given
    (Unsound unless sound_of b
    ∷ Direction unless not (goes_to_head m.body)
    ∷ Party unless is_for b m.destination m.body
    ∷ Range unless fits_message m
    ∷ [])
    (refused b) (heard_of b m random)
