-- Rules R68, R73, R90 to R93, R113, R136, R242, R243: a sound box, a fresh one, what its client asks, and a tick.
-- Assumes nothing.
use Rattle.std.specs.Prelude.{Bool, cond, ◌&&◌, [], ◌∷◌, pos}
use Rattle.frame.specs.Card.{◌unless◌, given}
use Rattle.frame.specs.declared.Address.{Address}
use Rattle.frame.specs.declared.Reply.TheVariants.{Done, Range, State, Unsound, Window}
use Rattle.frame_queues.specs.Queues.{fits_sets}
use Rattle.frame_queues.specs.declared.Sets.{Sets}
use Rattle.frame_range.specs.Fits.{is_individual}
use Rattle.box_registration.specs.Registration.{registering, is_waiting, is_registered}
use Rattle.box_processes.specs.Leaving.{local_deregister}
use Rattle.box_processes.specs.Parts.{fresh, with_registration, still}
use Rattle.box_processes.specs.Reporting.{reporting}
use Rattle.box_processes.specs.Sound.{sound_of as processes_sound}
use Rattle.box_ticking.specs.Tick.{tick_of as processes_tick}
use Rattle.box_calls.specs.Answer.{bare, refused, accepted}
use Rattle.box_calls.specs.declared.FloorBox.{FloorBox}
use Rattle.box_calls.specs.declared.Answer.{Answer}

-- R73
unfoldable pub sound_of : FloorBox → Bool
sound_of b = is_individual b.address && processes_sound b.processes

-- R90, R91
unfoldable pub fresh_of : Address → Answer
fresh_of a =
    cond (is_individual a)
    (bare (record { address = a; processes = fresh }) Done)
    (refused (record { address = record { 0 = 0 }; processes = fresh }) Range)

-- R92
unfoldable pub register_of : FloorBox → Answer
register_of b =
    let p = b.processes in
    given
    (Unsound unless sound_of b
    ∷ State unless is_waiting p.registration.state
    ∷ [])
    (refused b) (accepted b (pos 0) (still (with_registration p (registering p.registration))))

-- R93
unfoldable pub deregister_of : FloorBox → Answer
deregister_of b =
    let p = b.processes in
    given
    (Unsound unless sound_of b
    ∷ State unless is_registered p.registration.state
    ∷ [])
    (refused b) (accepted b (pos 0) (local_deregister p))

-- R242, R243
unfoldable pub report_of : Sets → FloorBox → Answer
report_of sets b =
    let p = b.processes in
    given
    (Unsound unless sound_of b
    ∷ State unless is_registered p.registration.state
    ∷ Range unless fits_sets sets
    ∷ [])
    (refused b) (accepted b (pos 0) (reporting p sets))

-- R113, R136
unfoldable pub tick_of : FloorBox → Answer
tick_of b =
    let s = processes_tick b.processes in
    given
    (Unsound unless sound_of b
    ∷ Window unless s.ok
    ∷ [])
    (refused b) (accepted b (pos 0) s)
