-- Rules R64, R65, R68, R188, R192: 13 and 12 come before all else, then each call's own tests.
-- Assumes nothing.
use Rattle.std.specs.Prelude.{ℕ, ◌+◌, ◌-◌, ◌*◌, min, Bool, ◌&&◌, [], ◌∷◌, leb}
use Rattle.clock.specs.Numbers.{is_in_reach}
use Rattle.frame.specs.Card.{◌unless◌, given}
use Rattle.frame.specs.declared.Reply.TheVariants.{Grant, Output, Unsound}
use Rattle.head_state.specs.Head.{tick_of, sound_of, after_of}
use Rattle.head_state.specs.declared.Head.{Head}
use Rattle.head_survey.specs.declared.Facts.{Facts}
use Rattle.head_survey.specs.declared.Look.{Look}
use Rattle.head_table.specs.declared.Event.TheVariants.{Tick, Leap}
use Rattle.head_requests.specs.Client.{open_of, admit_of, reject_of, reregister_of, deregister_of, gate_of}
use Rattle.head_hearing.specs.Hear.{hear_of}
use Rattle.head_plans.specs.Plan.{refused, accepted, leaping}
use Rattle.head_plans.specs.declared.Plan.{Plan}
use Rattle.head_judging.specs.declared.Call.{Call}

abbrev pub look_for : ℕ → Look
look_for link = record { link = link; address = record { 0 = 0 } }

-- what a call asks of the table: a link by its number, or who holds an address
abbrev pub look_of : Call → Look
look_of (Call.Open start length sync window) = look_for 0
look_of (Call.Admit a pending sync) = record { link = 0; address = a }
look_of (Call.Reject a pending sync) = look_for 0
look_of (Call.Reregister link sync) = look_for link
look_of (Call.Deregister link) = look_for link
look_of (Call.Gate link asked) = look_for link
look_of (Call.Hear link m) = look_for link
look_of Call.Tick = look_for 0
look_of (Call.Advance n) = look_for 0

-- the ticks at which no link rings, and one more
abbrev pub leapt : Head → ℕ → Plan
leapt h k = leaping (tick_of (after_of h k)) (Leap k) (k + 1)

-- R192
unfoldable pub advance_of : Head → ℕ → ℕ → Plan
advance_of h quiet n = given (Grant unless is_in_reach n ∷ []) (refused h) (leapt h (min quiet (n - 1)))

-- R188
abbrev pub decide_of : Call → Head → Facts → Plan
decide_of (Call.Open start length sync window) h f = open_of h start length sync window
decide_of (Call.Admit a pending sync) h f = admit_of h f a pending sync
decide_of (Call.Reject a pending sync) h f = reject_of h a pending sync
decide_of (Call.Reregister link sync) h f = reregister_of h f.link link sync
decide_of (Call.Deregister link) h f = deregister_of h f.link link
decide_of (Call.Gate link asked) h f = gate_of h f.link link asked
decide_of (Call.Hear link m) h f = hear_of h f.link link m
decide_of Call.Tick h f = accepted (tick_of h) Tick
decide_of (Call.Advance n) h f = advance_of h f.quiet n

-- R65
unfoldable pub is_sound : Head → Facts → Bool
is_sound h f = sound_of h && f.sound

-- R64
unfoldable pub has_room : ℕ → ℕ → Bool
has_room links octets = leb (60 * links) octets

-- of the facts that the pass over so many links found, with so many octets of output
unfoldable pub judge_of : Head → Facts → ℕ → ℕ → Call → Plan
judge_of h f links octets r =
    given
    (Unsound unless is_sound h f
    ∷ Output unless has_room links octets
    ∷ [])
    (refused h) (decide_of r h f)
