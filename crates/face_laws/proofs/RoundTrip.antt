-- A box that is packed into words and unpacked is the same box, whatever it holds, as long as each number fits its type and nothing stands
-- behind its list: so a call of the C face on a block that a call left is the core's call on the core's own answer.
-- Assumes nothing.
use Prim.Native.Nat.{ℕ, zero, suc, ◌-◌, ◌^◌, ◌<◌}
use mathlib.Core.Path.{◌≡◌, refl, ap}
use mathlib.Core.Bool.{true}
use mathlib.Core.List.{List, [], ◌∷◌, map}
use native.Mathlib.Omega.{arith}
use lib.ListN.{take, drop, replicate}
use Rattle.clock.specs.declared.Quanta.{Quanta}
use Rattle.clock.specs.declared.Timer.{Timer}
use Rattle.clock.specs.Spans.{none}
use Rattle.clock.specs.declared.Span.{Span}
use Rattle.box_calls.specs.declared.FloorBox.{FloorBox}
use Rattle.box_light.specs.declared.Phase.{Phase}
use Rattle.box_light.specs.declared.Phase.TheVariants.{Rest, Before, Random, Warming, Asking, Due, Lit, Open, Fading}
use Rattle.box_registration.specs.declared.Registration.{Registration}
use Rattle.box_registration.specs.declared.State.{State}
use Rattle.box_registration.specs.declared.State.TheVariants.{Wait, Registering, RegisterReq, Registered}
use Rattle.face_words.specs.Laws.{same_self, upper-joined, lower-joined}
use Rattle.face_words.specs.Words.{narrowed}
use Rattle.face_box.specs.Box.{state_word, state_of, registration_of, phase_words, discovery_of, phase_of, front_words, front_of, front_in, box_words, box_of, has_words, is_box, box_in}
use Rattle.face_box.specs.Laws.{clear_of}
use Rattle.face_fields.specs.Fields.{timer_of, quanta_of, short_of, span_word, span_of}
use Rattle.face_laws.specs.Box.{TimerFits, QuantaFit, EntryFits, EntriesFit, PhaseFits, Fits}

pub narrow-is : (n : ℕ) → n < 2 ^ 32 → narrowed n ≡ n
narrow-is n h = omega arith

pub timer-back : (t : Timer) → TimerFits t → timer_of t.left ≡ t
timer-back t h = rw (narrow-is t.left h)

pub quanta-back : (q : Quanta) → QuantaFit q → quanta_of q.0 ≡ q
quanta-back q h = rw (narrow-is q.0 h)

entry-back : (e : Span) → EntryFits e → span_of (span_word e) ≡ e
entry-back e h = rw (upper-joined e.start.0 e.length.0 h, lower-joined e.start.0 e.length.0 h)

entries-back : (es : List Span) → EntriesFit es → map span_of (map span_word es) ≡ es
entries-back [] h = refl
entries-back (e ∷ es) h = rw (entry-back e h.0, entries-back es h.1)

state-back : (s : State) → state_of (state_word s) ≡ s
unfolding state_of
state-back Wait = refl
state-back Registering = refl
state-back RegisterReq = refl
state-back Registered = refl

port-is : (n : ℕ) → n < 2 ^ 16 → short_of n ≡ n
port-is n h = omega arith

phase-back : (p : Phase) → PhaseFits p → phase_of (phase_words p) ≡ p
unfolding phase_of discovery_of
phase-back Rest h = refl
phase-back (Before random sync) h = rw (quanta-back random h.0, quanta-back sync h.1)
phase-back (Random sync) h = rw (quanta-back sync h)
phase-back Warming h = refl
phase-back Asking h = refl
phase-back (Due entry sync) h = rw (entry-back entry h.0, quanta-back sync h.1)
phase-back (Lit n sync) h = rw (quanta-back n h.0, quanta-back sync h.1)
phase-back Open h = refl
phase-back Fading h = refl

registration-back : (r : Registration) → TimerFits r.wait → TimerFits r.watchdog → TimerFits r.report → r.port < 2 ^ 16
    → QuantaFit r.sync
    → registration_of (state_word r.state) r.wait.left r.watchdog.left r.report.left r.port r.sync.0 ≡ r
registration-back r hw hd hr hp hs =
    rw (
      state-back r.state,
      timer-back r.wait hw,
      timer-back r.watchdog hd,
      timer-back r.report hr,
      port-is r.port hp,
      quanta-back r.sync hs,
    )

-- what stands before the grants
front-back : (b : FloorBox) → Fits b → front_of (box_words b) ≡ front_in b
unfolding box_words front_of front_words
front-back b h =
    let p = b.processes in
    rw (
      narrow-is p.count.0 h.count,
      registration-back p.registration h.wait h.watchdog h.report h.port h.sync,
      phase-back p.light.phase h.light.1,
      timer-back p.light.timer h.light.0,
    )

front-words : (b : FloorBox) → take 13 (box_words b) ≡ front_words (front_in b)
unfolding box_words front_words
front-words b = refl

grant-words : (b : FloorBox) → drop 13 (box_words b) ≡ map span_word b.processes.list.entries
unfolding box_words front_words
grant-words b = refl

-- what stands behind a number of elements, and of which there are so many
pub drop-map : {A B : Type 0} (f : A → B) (n : ℕ) (l : List A) → drop n (map f l) ≡ map f (drop n l)
drop-map f zero l = refl
drop-map f (suc n) [] = refl
drop-map f (suc n) (x ∷ l) = drop-map f n l

pub map-all : {A B : Type 0} (f : A → B) (n : ℕ) (x : A) → map f (replicate n x) ≡ replicate n (f x)
map-all f zero x = refl
map-all f (suc n) x = ap (λ l. f x ∷ l) (map-all f n x)

-- the words of a box are a box's
pub is-box : (b : FloorBox) → Fits b → is_box (box_words b) ≡ true
unfolding is_box has_words
is-box b h =
    let s = b.processes.list in
    rw (
      front-back b h,
      front-words b,
      same_self (front_words (front_in b)),
      grant-words b,
      drop-map span_word s.number s.entries,
      h.behind,
      map-all span_word (16 - s.number) none,
    )
    (clear_of (16 - s.number))

-- the theorem
pub unpacked : (b : FloorBox) → Fits b → box_in (box_words b) ≡ b
unfolding box_in box_of
unpacked b h = rw (is-box b h, front-back b h, grant-words b, entries-back b.processes.list.entries h.entries)
