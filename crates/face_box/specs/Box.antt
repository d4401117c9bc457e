-- Face: a box as words of 64 bits: which word holds what, when words are a box's, and what box they tell.
-- Assumes nothing.
use Rattle.std.specs.Prelude.{ℕ, Bool, true, cond, ◌&&◌, List, [], ◌∷◌, ◌++◌, map, eqb, take, drop, get_or}
use Rattle.clock.specs.declared.Span.{Span}
use Rattle.box_calls.specs.declared.FloorBox.{FloorBox}
use Rattle.box_light.specs.Light.{light_in}
use Rattle.box_light.specs.declared.Light.{Light}
use Rattle.box_light.specs.declared.Phase.{Phase}
use Rattle.box_light.specs.declared.Phase.TheVariants.{Rest, Before, Random, Warming, Asking, Due, Lit, Open, Fading}
use Rattle.box_registration.specs.declared.Registration.{Registration}
use Rattle.box_registration.specs.declared.State.{State}
use Rattle.box_registration.specs.declared.State.TheVariants.{Wait, Registering, RegisterReq, Registered}
use Rattle.face_fields.specs.Fields.{short_of, count_of, quanta_of, timer_of, span_word, span_of}
use Rattle.box_processes.specs.Parts.{fresh}
use Rattle.face_words.specs.Words.{same}
use Rattle.face_box.specs.declared.Front.{Front}
use Rattle.face_box.specs.declared.PhaseWords.{PhaseWords}

abbrev pub state_word : State → ℕ
state_word Wait = 0
state_word Registering = 1
state_word RegisterReq = 2
state_word Registered = 3

-- a word that is no state's is taken as WAIT
unfoldable pub state_of : ℕ → State
state_of w = cond (eqb w 1) Registering (cond (eqb w 2) RegisterReq (cond (eqb w 3) Registered Wait))

abbrev pub registration_of : ℕ → ℕ → ℕ → ℕ → ℕ → ℕ → Registration
registration_of state wait watchdog report port sync =
    record {
      state = state_of state;
      wait = timer_of wait;
      watchdog = timer_of watchdog;
      report = timer_of report;
      port = short_of port;
      sync = quanta_of sync;
    }

abbrev phase : ℕ → ℕ → ℕ → PhaseWords
phase n grant sync = record { phase = n; grant = grant; sync = sync }

-- what a phase does not hold is 0
abbrev pub phase_words : Phase → PhaseWords
phase_words Rest = phase 0 0 0
phase_words (Before random sync) = phase 1 random.0 sync.0
phase_words (Random sync) = phase 2 0 sync.0
phase_words Warming = phase 3 0 0
phase_words Asking = phase 4 0 0
phase_words (Due entry sync) = phase 5 (span_word entry) sync.0
phase_words (Lit length sync) = phase 6 length.0 sync.0
phase_words Open = phase 7 0 0
phase_words Fading = phase 8 0 0

-- the phases of discovery; a word that is no phase's is taken as rest
unfoldable pub discovery_of : PhaseWords → Phase
discovery_of w =
    let sync = quanta_of w.sync in
    cond (eqb w.phase 1) (Before (quanta_of w.grant) sync)
    (cond (eqb w.phase 2) (Random sync)
    (cond (eqb w.phase 3) Warming
    (cond (eqb w.phase 4) Asking Rest)))

unfoldable pub phase_of : PhaseWords → Phase
phase_of w =
    let sync = quanta_of w.sync in
    cond (eqb w.phase 5) (Due (span_of w.grant) sync)
    (cond (eqb w.phase 6) (Lit (quanta_of w.grant) sync)
    (cond (eqb w.phase 7) Open
    (cond (eqb w.phase 8) Fading (discovery_of w))))

abbrev pub light_of : ℕ → ℕ → ℕ → ℕ → Light
light_of word left grant sync = light_in (phase_of (phase word grant sync)) (timer_of left)

-- the words before the list's grants, in their order
unfoldable pub front_words : Front → List ℕ
front_words f =
    let r = f.registration in
    let l = phase_words f.light.phase in
    f.address.0
    ∷ f.count.0
    ∷ state_word r.state
    ∷ r.wait.left
    ∷ r.watchdog.left
    ∷ r.report.left
    ∷ r.port
    ∷ r.sync.0
    ∷ l.phase
    ∷ f.light.timer.left
    ∷ l.grant
    ∷ l.sync
    ∷ f.number
    ∷ []

unfoldable pub front_of : List ℕ → Front
front_of w =
    let at : ℕ → ℕ = λ i. get_or w i 0 in
    record {
      address = record { 0 = at 0 };
      count = count_of (at 1);
      registration = registration_of (at 2) (at 3) (at 4) (at 5) (at 6) (at 7);
      light = light_of (at 8) (at 9) (at 10) (at 11);
      number = at 12;
    }

-- a box is what stands before its list's grants, and these
abbrev pub front_in : FloorBox → Front
front_in b =
    let p = b.processes in
    record { address = b.address; count = p.count; registration = p.registration; light = p.light; number = p.list.number }

abbrev pub boxed : Front → List Span → FloorBox
boxed f entries =
    record {
      address = f.address;
      processes =
          record { count = f.count; registration = f.registration; list = record { entries = entries; number = f.number }; light = f.light };
    }

-- the words of a box
unfoldable pub box_words : FloorBox → List ℕ
box_words b = front_words (front_in b) ++ map span_word b.processes.list.entries

-- the box that words would tell if they were a box's
unfoldable pub box_of : List ℕ → FloorBox
box_of w = boxed (front_of w) (map span_of (drop 13 w))

-- all of them are 0
abbrev pub is_clear : List ℕ → Bool
is_clear [] = true
is_clear (x ∷ l) = eqb x 0 && is_clear l

-- the box with this front has just these words: nothing stands behind as many grants as it holds
unfoldable pub has_words : Front → List ℕ → Bool
has_words f w = same (front_words f) (take 13 w) && is_clear (drop f.number (drop 13 w))

-- the words are those of what they tell
unfoldable pub is_box : List ℕ → Bool
is_box w = has_words (front_of w) w

-- what a refused fresh box is: sound nowhere, for its address
abbrev pub nobody : FloorBox
nobody = record { address = record { 0 = 0 }; processes = fresh }

-- the box that words tell
unfoldable pub box_in : List ℕ → FloorBox
box_in w = cond (is_box w) (box_of w) nobody
