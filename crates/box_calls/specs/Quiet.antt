-- Lemmas: the three laws of a jump, of the box: a quiet tick is the box's tick, quiet ticks join, and each leaves one less to come.
-- Assumes nothing.
use Rattle.std.specs.Prelude.{ℕ, zero, suc, ◌≤◌, min, ◌≡◌, Bool, cond, ◌&&◌, ◌||◌, [], eqb, ltb}
use Rattle.std.proofs.Math.Path.{refl}
use Rattle.std.proofs.Common.{sym, ◌∙◌, arith, ne_eqb, ltb-false}
use Rattle.std.proofs.Math.Bool.{true, false, or-true, and-eq-true_iff}
use Rattle.laws.specs.Cases.{either}
use Rattle.laws.specs.Jump.{Jumps}
use Rattle.clock.specs.Counts.{next_of}
use Rattle.clock.specs.Laws.{later-one, later-joined}
use Rattle.frame.specs.declared.Reply.TheVariants.{Done}
use Rattle.box_grants.specs.Activation.{settle}
use Rattle.box_grants.specs.Keeps.{packed-sound}
use Rattle.box_grants.specs.Listed.{packed, choose_of}
use Rattle.box_grants.specs.Sound.{sound_of as list_sound}
use Rattle.box_grants.specs.declared.GrantList.{GrantList}
use Rattle.box_light.proofs.Laws.{rest-sound, tick-quiet as light-quiet, passed-sound as light-sound, passed-rest, passed-joins as light-joins, quiet-less as light-less}
use Rattle.box_light.specs.Light.{is_at_rest}
use Rattle.box_light.specs.Pass.{passed_of as light_passed, quiet_of as light_quiet}
use Rattle.box_light.specs.Sound.{sound_of as light_sound}
use Rattle.box_light.specs.declared.Light.{Light}
use Rattle.box_registration.proofs.Kept.{passed-sound as registration-sound}
use Rattle.box_registration.specs.Laws.{tick-quiet as registration-quiet, passed-state, passed-joins as registration-joins, quiet-less as registration-less}
use Rattle.box_registration.specs.Pass.{passed_of as registration_passed, quiet_of as registration_quiet}
use Rattle.box_registration.specs.Registration.{is_registered}
use Rattle.box_registration.specs.Sound.{sound_of as registration_sound}
use Rattle.box_registration.specs.declared.State.{State}
use Rattle.box_registration.specs.declared.State.TheVariants.{Wait, Registering, RegisterReq, Registered}
use Rattle.box_telling.specs.Told.{added}
use Rattle.box_processes.specs.Parts.{still}
use Rattle.box_processes.specs.Pass.{activates, passed_of as processes_passed, quiet_of as processes_quiet}
use Rattle.box_processes.specs.Sound.{rests_in, sound_of as processes_sound}
use Rattle.box_processes.specs.declared.Processes.{Processes}
use Rattle.frame_range.specs.Fits.{is_individual}
use Rattle.box_activation.specs.Activation.{activate}
use Rattle.box_ticking.specs.Tick.{timed, transmitted, tick_of as processes_tick}
use Rattle.box_calls.specs.Advance.{is_done, is_silent, again, out}
use Rattle.box_calls.specs.Answer.{bare, accepted}
use Rattle.box_calls.specs.Box.{sound_of, tick_of}
use Rattle.box_calls.specs.Leap.{passed_of, leap_of, quiet_after}
use Rattle.box_calls.specs.Pass.{quiet_of}
use Rattle.box_calls.specs.declared.FloorBox.{FloorBox}
use Rattle.box_calls.specs.declared.Answer.{Answer}

-- the parts of a sound box's test
record Parts (p : Processes) : Type 0 where
  registration : registration_sound p.registration ≡ true
  list : list_sound p.list ≡ true
  empty : (is_registered p.registration.state || eqb p.list.number 0) ≡ true
  light : light_sound p.light p.list ≡ true
  rest : rests_in p.registration.state p.light ≡ true

parts : (p : Processes) → processes_sound p ≡ true → Parts p
unfolding processes_sound
parts p h =
    let a = registration_sound p.registration in
    let b = list_sound p.list in
    let c = is_registered p.registration.state || eqb p.list.number 0 in
    let d = light_sound p.light p.list in
    let e = rests_in p.registration.state p.light in
    let abcd = (and-eq-true_iff (a && b && c && d) e).0 h in
    let abc = (and-eq-true_iff (a && b && c) d).0 abcd.0 in
    let ab = (and-eq-true_iff (a && b) c).0 abc.0 in
    let one = (and-eq-true_iff a b).0 ab.0 in
    record { registration = one.0; list = one.1; empty = ab.1; light = abc.1; rest = abcd.1 }

-- of a quiet tick: activation has no choice to make, and no timer rings
record Calm (p : Processes) : Type 0 where
  none : (activates p && ltb 0 p.list.number) ≡ false
  timers : 1 ≤ registration_quiet p.registration
  timer : 1 ≤ light_quiet p.light

calm : (p : Processes) → 1 ≤ processes_quiet p → Calm p
unfolding processes_quiet
calm p =
    either (λ (n : ℕ). 1 ≤ n → Calm p) (activates p && ltb 0 p.list.number) 0 (min (registration_quiet p.registration) (light_quiet p.light))
    (λ _ h. absurd (omega arith))
    (λ e h. record { none = e; timers = omega arith; timer = omega arith })

-- neither the state nor the phase moves
same_test : (p : Processes) (k : ℕ) → (is_at_rest (light_passed p.light k) && is_registered (registration_passed p.registration k).state) ≡ activates p
unfolding activates
same_test p k = rw (passed-rest p.light k, passed-state p.registration k)

activates-passed : (p : Processes) (k : ℕ) → activates (processes_passed p k) ≡ activates p
unfolding activates processes_passed
activates-passed p k = same_test p k

-- where activation comes the list is cleared
abbrev list_left : Bool → GrantList → GrantList
list_left t l = cond t (packed []) l

module _ (p : Processes) (c : Calm p) where
  -- where activation comes it finds no grant
  found : activates p ≡ true → p.list.number ≡ 0
  found h =
      let e : ltb 0 p.list.number ≡ false = rw h at c.none in
      let z = ltb-false 0 p.list.number e in
      omega arith

  -- a tick later, before activation
  abbrev timely : Processes
  timely =
      record {
        count = next_of p.count;
        registration = registration_passed p.registration 1;
        list = p.list;
        light = light_passed p.light 1;
      }

  stepped : registration_sound p.registration ≡ true → processes_tick p ≡ still timely
  unfolding processes_tick timed transmitted added
  stepped s = rw (registration-quiet p.registration s c.timers, light-quiet p.light c.timer)

  -- activation clears the places of an empty list
  activated : activate timely ≡ processes_passed p 1
  unfolding activate choose_of settle processes_passed
  activated = split (activates p) refl
    where
      split : (t : Bool) → activates p ≡ t → activate timely ≡ processes_passed p 1
      split true h = rw (same_test p 1, h, found h, later-one p.count)
      split false h = rw (same_test p 1, h, later-one p.count)

  -- the list that is left holds no grant where activation comes
  left-none : (activates p && ltb 0 (list_left (activates p) p.list).number) ≡ false
  left-none = split (activates p) refl
    where
      split : (t : Bool) → activates p ≡ t → (activates p && ltb 0 (list_left (activates p) p.list).number) ≡ false
      split true h = rw h
      split false h = rw h

  less : processes_quiet p ≤ suc (processes_quiet (processes_passed p 1))
  unfolding processes_quiet processes_passed
  less =
      let a = registration-less p.registration c.timers in
      let b = light-less p.light c.timer in
      rw (c.none, activates-passed p 1, left-none) (omega arith)

rest-passed : (s : State) (l : Light) (k : ℕ) → rests_in s l ≡ true → rests_in s (light_passed l k) ≡ true
rest-passed Wait l k h = rw (passed-rest l k) h
rest-passed Registering l k h = refl
rest-passed RegisterReq l k h = refl
rest-passed Registered l k h = refl

-- a quiet tick keeps a sound box sound
module _ (p : Processes) (c : Calm p) (s : Parts p) where
  list-sound : list_sound (list_left (activates p) p.list) ≡ true
  list-sound =
      either (λ (l : GrantList). list_sound l ≡ true) (activates p) (packed []) p.list
      (λ _. packed-sound [] refl (omega arith)) (λ _. s.list)

  list-empty : (is_registered p.registration.state || eqb (list_left (activates p) p.list).number 0) ≡ true
  list-empty =
      either (λ (l : GrantList). (is_registered p.registration.state || eqb l.number 0) ≡ true) (activates p) (packed []) p.list
      (λ _. or-true (is_registered p.registration.state)) (λ _. s.empty)

  at_rest : activates p ≡ true → is_at_rest p.light ≡ true
  unfolding activates
  at_rest h = ((and-eq-true_iff (is_at_rest p.light) (is_registered p.registration.state)).0 h).0

  lit-sound : light_sound (light_passed p.light 1) (list_left (activates p) p.list) ≡ true
  lit-sound =
      either (λ (l : GrantList). light_sound (light_passed p.light 1) l ≡ true) (activates p) (packed []) p.list
      (λ h. rest-sound (packed []) (light_passed p.light 1) p.list (passed-rest p.light 1 ∙ at_rest h) (light-sound p.light p.list s.light c.timer))
      (λ _. light-sound p.light p.list s.light c.timer)

  keeps : processes_sound (processes_passed p 1) ≡ true
  unfolding processes_sound processes_passed
  keeps =
      rw (
        registration-sound p.registration s.registration c.timers,
        list-sound,
        passed-state p.registration 1,
        list-empty,
        lit-sound,
        rest-passed p.registration.state p.light 1 s.rest,
      )

processes-join : (p : Processes) (k : ℕ) → processes_passed (processes_passed p 1) k ≡ processes_passed p (suc k)
unfolding processes_passed
processes-join p k =
    rw (activates-passed p 1, later-joined p.count k, registration-joins p.registration k, light-joins p.light k, cleared (activates p))
  where
    cleared : (t : Bool) → list_left t (list_left t p.list) ≡ list_left t p.list
    cleared true = refl
    cleared false = refl

-- a quiet box is sound
record Quiet (b : FloorBox) : Type 0 where
  address : is_individual b.address ≡ true
  sound : processes_sound b.processes ≡ true
  many : quiet_of b ≡ processes_quiet b.processes
  calm : Calm b.processes

quiet : (b : FloorBox) → 1 ≤ quiet_of b → Quiet b
unfolding quiet_of sound_of
quiet b =
    either (λ (n : ℕ). 1 ≤ n → Quiet b) (sound_of b) (processes_quiet b.processes) 0
    (λ e h.
    let s = (and-eq-true_iff (is_individual b.address) (processes_sound b.processes)).0 e in
    record { address = s.0; sound = s.1; many = rw e; calm = calm b.processes h })
    (λ _ h. absurd (omega arith))

module _ (b : FloorBox) (h : 1 ≤ quiet_of b) where
  -- the first law: a quiet tick is the box's tick, done, silent, and passed
  pub quiet_one : tick_of b ≡ bare (passed_of b 1) Done
  unfolding tick_of accepted sound_of
  quiet_one =
      let q = quiet b h in
      let p = parts b.processes q.sound in
      rw (q.address, q.sound, stepped b.processes q.calm p.registration, activated b.processes q.calm)

  pub quiet-sound : sound_of b ≡ true
  unfolding sound_of
  quiet-sound =
      let q = quiet b h in
      rw (q.address, q.sound)

  pub quiet_keeps : sound_of (passed_of b 1) ≡ true
  unfolding sound_of
  quiet_keeps =
      let q = quiet b h in
      rw (q.address, keeps b.processes q.calm (parts b.processes q.sound))

  still-many : quiet_of (passed_of b 1) ≡ processes_quiet (processes_passed b.processes 1)
  unfolding quiet_of
  still-many = rw quiet_keeps

  -- the third: it leaves one less to come
  pub quiet-falls : quiet_of b ≤ suc (quiet_of (passed_of b 1))
  quiet-falls =
      let q = quiet b h in
      let l = less b.processes q.calm in
      rw (q.many, still-many) l

-- the second: quiet ticks join
pub quiet-joined : (b : FloorBox) (k : ℕ) → passed_of (passed_of b 1) k ≡ passed_of b (suc k)
quiet-joined b k = rw (processes-join b.processes k)

leap-some : (k : ℕ) (r : Answer) → leap_of (suc k) r ≡ bare (passed_of r.next (suc k)) Done
unfolding leap_of
leap-some k r = rw (ne_eqb (suc k) 0 (omega arith))

leaps-join : (k : ℕ) (r : Answer) → leap_of k (leap_of 1 r) ≡ leap_of (suc k) r
unfolding leap_of
leaps-join zero r = refl
leaps-join (suc k) r =
    leap-some k (leap_of 1 r)
    ∙ rw (quiet-joined r.next (suc k)) (sym (leap-some (suc k) r))

-- so the box can jump
pub box-jumps : Jumps again is_done is_silent out leap_of quiet_after
unfolding leap_of is_done is_silent
box-jumps =
    record {
      none = λ r. refl;
      one = λ r h. (quiet_one r.next h, refl, refl);
      joined = leaps-join;
      falls = λ r h. quiet-falls r.next h;
    }
