-- Lemmas: R68 and R69 of the head: a call is accepted with every test passed, or it is refused and changes nothing.
-- Assumes nothing.
use Rattle.std.specs.Prelude.{ℕ, ◌-◌, min, ◌≡◌, refl, Bool, true, false, not, ◌&&◌, List, [], ◌∷◌, ◌≢◌, eqb, leb, length}
use Rattle.std.proofs.Common.{ap, ◌∙◌, arith}
use Rattle.laws.specs.Cases.{either}
use Rattle.clock.specs.Counts.{round_trip}
use Rattle.clock.specs.Numbers.{is_in_reach, fits}
use Rattle.frame.specs.Card.{Test, ◌unless◌, given, number_of}
use Rattle.frame.specs.Tests.{Passed, Each, given-either}
use Rattle.frame.specs.Ways.{goes_to_head}
use Rattle.frame.specs.declared.Body.TheVariants.{Discovery, Register}
use Rattle.frame.specs.declared.RegisterFlag.{RegisterFlag}
use Rattle.frame.specs.declared.Reply.{Reply}
use Rattle.frame.specs.declared.Reply.TheVariants.{Range, Direction, State, Party, Grant, Held, Full, Output, Unsound}
use Rattle.frame_range.specs.Fits.{fits_message}
use Rattle.head_gating.specs.Asked.{grants_of, fits as fits_asked}
use Rattle.head_state.specs.Head.{with_window, tick_of, sound_of}
use Rattle.head_state.specs.Window.{is_idle, opened}
use Rattle.head_state.specs.declared.Head.{Head}
use Rattle.head_links.specs.Link.{is_held, is_registered}
use Rattle.head_links.specs.declared.Change.{Change}
use Rattle.head_links.specs.declared.Link.{Link}
use Rattle.head_survey.specs.Facts.{is_few, sound_table, facts_of}
use Rattle.head_survey.specs.declared.Facts.{Facts}
use Rattle.head_survey.specs.declared.Look.{Look}
use Rattle.head_table.specs.declared.Event.{Event}
use Rattle.head_requests.specs.Client.{fits_lengths, may_open, open_of, fits_party, admit_of, reject_of, reregister_of, deregister_of, gate_of}
use Rattle.head_hearing.specs.Hear.{on_link, in_state, by_party, heard_of, hear_of}
use Rattle.head_judging.specs.Judge.{look_of, leapt, advance_of, decide_of, is_sound, has_room, judge_of}
use Rattle.head_plans.specs.Plan.{refused, accepted, sending}
use Rattle.head_plans.specs.declared.Plan.{Plan}
use Rattle.head_judging.specs.declared.Call.{Call}
use Rattle.head_calls.specs.Serve.{plan_of}

-- the tests of a request after 13 and 12, in order
abbrev pub tests : Call → Head → Facts → List Test
tests (Call.Open start length sync window) h f =
    State unless is_idle h.window
    ∷ Range unless fits_lengths length sync
    ∷ Grant unless may_open h.count start length sync window
    ∷ []
tests (Call.Admit a pending sync) h f =
    Range unless fits_party a sync
    ∷ Held unless not f.held
    ∷ Full unless not (eqb f.idle 0)
    ∷ []
tests (Call.Reject a pending sync) h f = Range unless fits_party a sync ∷ []
tests (Call.Reregister link sync) h f =
    Reply.Link unless is_held f.link.state
    ∷ State unless is_registered f.link.state
    ∷ Range unless fits sync
    ∷ []
tests (Call.Deregister link) h f =
    Reply.Link unless is_held f.link.state
    ∷ State unless is_registered f.link.state
    ∷ []
tests (Call.Gate link asked) h f =
    Reply.Link unless is_held f.link.state
    ∷ Range unless fits_asked asked
    ∷ Grant unless leb asked.number 4
    ∷ []
tests (Call.Hear link m) h f =
    Direction unless goes_to_head m.body
    ∷ Reply.Link unless on_link m.body f.link link
    ∷ State unless in_state h m.body
    ∷ Party unless by_party h f.link m
    ∷ Range unless fits_message m
    ∷ []
tests Call.Tick h f = []
tests (Call.Advance n) h f = Grant unless is_in_reach n ∷ []

-- what a request does once they are passed
abbrev pub planned : Call → Head → Facts → Plan
planned (Call.Open start length sync window) h f =
    sending (with_window h (opened h.count start window)) (record { 0 = 0x0180C2000001 })
    (Discovery (record { start = start; length = length; force = false }) sync)
planned (Call.Admit a pending sync) h f = accepted h (Event.At f.idle (Change.Admit a pending sync))
planned (Call.Reject a pending sync) h f = sending h a (Register 0 RegisterFlag.Nack sync pending)
planned (Call.Reregister link sync) h f = accepted h (Event.At link (Change.Reregister sync))
planned (Call.Deregister link) h f = accepted h (Event.At link Change.Deregister)
planned (Call.Gate link asked) h f = accepted h (Event.At link (Change.Gate (grants_of asked)))
planned (Call.Hear link m) h f =
    heard_of m.body h f.link link (record { 0 = round_trip h.count.0 m.timestamp.0 })
planned Call.Tick h f = accepted (tick_of h) Event.Tick
planned (Call.Advance n) h f = leapt h (min f.quiet (n - 1))

decide-is : (r : Call) (h : Head) (f : Facts) → decide_of r h f ≡ given (tests r h f) (refused h) (planned r h f)
unfolding open_of admit_of reject_of reregister_of deregister_of gate_of hear_of advance_of
decide-is (Call.Open start length sync window) h f = refl
decide-is (Call.Admit a pending sync) h f = refl
decide-is (Call.Reject a pending sync) h f = refl
decide-is (Call.Reregister link sync) h f = refl
decide-is (Call.Deregister link) h f = refl
decide-is (Call.Gate link asked) h f = refl
decide-is (Call.Hear link m) h f = refl
decide-is Call.Tick h f = refl
decide-is (Call.Advance n) h f = refl

-- none of 0, 12 and 13 is given by the tests after the first two
abbrev Other : Reply → Type 0
Other r = (number_of r ≢ 0) × (number_of r ≢ 12) × (number_of r ≢ 13)

tests-other : (r : Call) (h : Head) (f : Facts) → Each Other (tests r h f)
tests-other (Call.Open start length sync window) h f = omega arith
tests-other (Call.Admit a pending sync) h f = omega arith
tests-other (Call.Reject a pending sync) h f = omega arith
tests-other (Call.Reregister link sync) h f = omega arith
tests-other (Call.Deregister link) h f = omega arith
tests-other (Call.Gate link asked) h f = omega arith
tests-other (Call.Hear link m) h f = omega arith
tests-other Call.Tick h f = tt
tests-other (Call.Advance n) h f = omega arith

-- what is known of the table
abbrev pub known : List Link → Call → Facts
known xs r = facts_of xs (look_of r)

facts-sound : (xs : List Link) (k : Look) → (facts_of xs k).sound ≡ sound_table xs
unfolding facts_of sound_table
facts-sound xs k = either (λ (f : Facts). f.sound ≡ sound_table xs) (is_few (length xs)) _ _ (λ _. refl) (λ e. rw e)

-- the four ways that a call comes out: 13 comes first, then 12, and a call that passes every test is accepted
pub data Outcome (h : Head) (xs : List Link) (r : Call) (room : ℕ) (p : Plan) : Type 0 where
  unsound : (sound_of h && sound_table xs) ≡ false → p ≡ refused h Unsound → Outcome h xs r room p
  short : (sound_of h && sound_table xs) ≡ true → has_room (length xs) room ≡ false → p ≡ refused h Output → Outcome h xs r room p
  refuses : (sound_of h && sound_table xs) ≡ true → has_room (length xs) room ≡ true → (x : Reply) → number_of x ≢ 0 → number_of x ≢ 12
      → number_of x ≢ 13 → p ≡ refused h x → Outcome h xs r room p
  accepts : (sound_of h && sound_table xs) ≡ true → has_room (length xs) room ≡ true → Passed (tests r h (known xs r))
      → p ≡ planned r h (known xs r) → Outcome h xs r room p

-- the whole list of tests
abbrev pub all_tests : Head → List Link → Call → ℕ → List Test
all_tests h xs r room =
    Unsound unless (sound_of h && sound_table xs)
    ∷ Output unless has_room (length xs) room
    ∷ tests r h (known xs r)

-- of which the first that is not passed refuses the call
pub plan-is : (h : Head) (xs : List Link) (r : Call) (room : ℕ)
    → plan_of h xs r room ≡ given (all_tests h xs r room) (refused h) (planned r h (known xs r))
unfolding plan_of is_sound judge_of
plan-is h xs r room =
    let few = has_room (length xs) room in
    ap (λ (t : Bool). given (Unsound unless (sound_of h && t) ∷ Output unless few ∷ []) (refused h) (decide_of r h (known xs r)))
    (facts-sound xs (look_of r))
    ∙ ap (λ (p : Plan). given (Unsound unless (sound_of h && sound_table xs) ∷ Output unless few ∷ []) (refused h) p) (decide-is r h (known xs r))

-- every call comes out in one of the four ways
pub outcome : (h : Head) (xs : List Link) (r : Call) (room : ℕ) → Outcome h xs r room (plan_of h xs r room)
outcome h xs r room =
    let f = known xs r in
    rw (plan-is h xs r room)
    (either (Outcome h xs r room) (sound_of h && sound_table xs) _ _
    (λ s.
    either (Outcome h xs r room) (has_room (length xs) room) _ _
    (λ k.
    given-either Other (Outcome h xs r room) (tests r h f) (refused h) (planned r h f) (tests-other r h f)
    (λ x o. refuses s k x o.0 o.1 o.2 refl) (λ t. accepts s k t refl))
    (λ k. short s k refl))
    (λ s. unsound s refl))
