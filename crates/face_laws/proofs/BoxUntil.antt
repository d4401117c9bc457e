-- Ticks of the box in a block that are sure to be done and to hand out nothing, and what ends them.
-- Assumes nothing.
use Prim.Native.Nat.{ℕ, ◌+◌, ◌≤◌, ◌<◌, min}
use mathlib.Core.Path.{◌≡◌, refl, sym, ap, ◌∙◌}
use mathlib.Core.Bool.{true, false, ◌&&◌, ◌||◌, and-eq-true_iff, false≢true}
use mathlib.Core.List.{List, [], ◌∷◌}
use mathlib.Core.Logic.{◌⊎◌, inl, inr, ⊎_elim}
use native.Mathlib.Omega.{arith}
use borrow.Author.Tests.{leb-true, le-leb, ltb-true, eqb-true}
use lib.Dec.{eqb, leb, ltb}
use lib.ListN.{length, take, replicate, get_or}
use lib.Seq.{get_or-take}
use Rattle.laws.specs.Cases.{either, decided, cut}
use Rattle.clock.specs.Laws.{quiet-off, quiet-on}
use Rattle.clock.specs.Numbers.{furthest_advance, is_in_reach, watchdog, periodic, wait}
use Rattle.clock.specs.Timers.{off, runs, quiet_of as timer_quiet}
use Rattle.clock.specs.declared.Timer.{Timer}
use Rattle.frame_range.specs.Fits.{is_individual}
use Rattle.box_light.proofs.Laws.{rests-is}
use Rattle.box_light.specs.Light.{rests, is_at_rest}
use Rattle.box_light.specs.Pass.{quiet_of as light_quiet}
use Rattle.box_light.specs.declared.Phase.{Phase}
use Rattle.box_registration.specs.Pass.{quiet_of as registration_quiet}
use Rattle.box_registration.specs.Registration.{is_registered}
use Rattle.box_registration.specs.Sound.{sound_in, sound_of as registration_sound}
use Rattle.box_registration.specs.declared.Registration.{Registration}
use Rattle.box_registration.specs.declared.State.{State}
use Rattle.box_registration.specs.declared.State.TheVariants.{Wait, Registering, RegisterReq, Registered}
use Rattle.box_processes.specs.Pass.{activates, quiet_of as processes_quiet}
use Rattle.box_processes.specs.Sound.{rests_in, sound_of as processes_sound}
use Rattle.box_processes.specs.declared.Processes.{Processes}
use Rattle.box_grants.specs.Sound.{sound_of as list_sound}
use Rattle.box_light.specs.Sound.{sound_of as light_sound}
use Rattle.frame.specs.declared.Reply.TheVariants.{Done}
use Rattle.box_calls.specs.Answer.{bare}
use Rattle.box_calls.specs.Box.{sound_of}
use Rattle.box_calls.specs.Leap.{passed_of}
use Rattle.box_calls.specs.Pass.{quiet_of}
use Rattle.box_calls.specs.Turns.{advance-quiet}
use Rattle.box_calls.specs.declared.FloorBox.{FloorBox}
use Rattle.face_words.specs.Words.{laid}
use Rattle.face_box.specs.Box.{state_word, phase_words, front_words, box_words}
use Rattle.face_box.specs.Told.{listed, told_words}
use Rattle.face_box_calls.specs.Calls.{AdvanceLeft, advance_left, box_at, told_of, handed, settled, advance_call, until_call}
use Rattle.face_laws.specs.Advance.{BoxAdvance}
use Rattle.face_laws.specs.Until.{BoxPasses, BoxUntil, BoxUntilSound, Ends, BoxUntilEnds}
use Rattle.face_laws.proofs.BoxAdvance.{box-advance}
use Rattle.face_laws.proofs.BoxStands.{lent, only}

-- NO MORE THAN AN ADVANCE MAY MAKE: in each state some timer of the registration is off
off-far : (t : Timer) → off t ≡ true → timer_quiet t ≡ furthest_advance
unfolding off
off-far t h = quiet-off t (eqb-true t.left 0 h)

in-far : (s : State) (r : Registration) → sound_in s r ≡ true → registration_quiet r ≤ furthest_advance
unfolding registration_quiet
in-far Wait r h =
    let p = (and-eq-true_iff (off r.wait && off r.watchdog) (off r.report)).0 h in
    let q = (and-eq-true_iff (off r.wait) (off r.watchdog)).0 p.0 in
    let f = off-far r.wait q.0 in
    omega arith
in-far Registering r h =
    let p = (and-eq-true_iff (off r.wait && off r.watchdog) (off r.report)).0 h in
    let q = (and-eq-true_iff (off r.wait) (off r.watchdog)).0 p.0 in
    let f = off-far r.wait q.0 in
    omega arith
in-far RegisterReq r h =
    let p = (and-eq-true_iff (runs r.wait wait && off r.watchdog) (off r.report)).0 h in
    let f = off-far r.report p.1 in
    omega arith
in-far Registered r h =
    let p = (and-eq-true_iff (off r.wait && runs r.watchdog watchdog) (runs r.report periodic)).0 h in
    let q = (and-eq-true_iff (off r.wait) (runs r.watchdog watchdog)).0 p.0 in
    let f = off-far r.wait q.0 in
    omega arith

registration-far : (r : Registration) → registration_sound r ≡ true → registration_quiet r ≤ furthest_advance
unfolding registration_sound
registration-far r h = in-far r.state r ((and-eq-true_iff (sound_in r.state r) (leb r.sync.0 65535)).0 h).0

sound-registration : (b : FloorBox) → sound_of b ≡ true → registration_sound b.processes.registration ≡ true
unfolding sound_of processes_sound
sound-registration b h =
    let p = b.processes in
    let a = registration_sound p.registration in
    let l = list_sound p.list in
    let e = is_registered p.registration.state || eqb p.list.number 0 in
    let t = light_sound p.light p.list in
    let s = ((and-eq-true_iff (is_individual b.address) (a && l && e && t && rests_in p.registration.state p.light)).0 h).1 in
    let d = ((and-eq-true_iff (a && l && e && t) (rests_in p.registration.state p.light)).0 s).0 in
    let c = ((and-eq-true_iff (a && l && e) t).0 d).0 in
    let f = ((and-eq-true_iff (a && l) e).0 c).0 in
    ((and-eq-true_iff a l).0 f).0

processes-far : (p : Processes) → registration_sound p.registration ≡ true → processes_quiet p ≤ furthest_advance
unfolding processes_quiet
processes-far p h =
    let f = registration-far p.registration h in
    either (λ (n : ℕ). n ≤ furthest_advance) (activates p && ltb 0 p.list.number) _ _ (λ _. omega arith) (λ _. omega arith)

box-far : (b : FloorBox) → quiet_of b ≤ furthest_advance
unfolding quiet_of
box-far b =
    either (λ (n : ℕ). n ≤ furthest_advance) (sound_of b) _ _ (λ e. processes-far b.processes (sound-registration b e)) (λ _. omega arith)

until-is : (block : List ℕ) → 29 ≤ length block → until_call block ≡ quiet_of (box_at block)
unfolding until_call
until-is block h = rw (le-leb 29 (length block) h)

until-long : (block : List ℕ) → 1 ≤ until_call block → 29 ≤ length block
unfolding until_call
until-long block =
    either (λ (n : ℕ). 1 ≤ n → 29 ≤ length block) (leb 29 (length block)) _ _ (λ e _. leb-true 29 (length block) e) (λ _ h. absurd (omega arith))

until-far : (block : List ℕ) → until_call block ≤ 65536
unfolding until_call
until-far block = either (λ (n : ℕ). n ≤ 65536) (leb 29 (length block)) _ _ (λ _. box-far (box_at block)) (λ _. omega arith)

pub in_reach : (k : ℕ) → 1 ≤ k → k ≤ furthest_advance → is_in_reach k ≡ true
unfolding is_in_reach
in_reach k h j = rw (le-leb 1 k h, le-leb k furthest_advance j)

-- AN ADVANCE BY NO MORE
module _ (block frames reply made : List ℕ) (k : ℕ) (a : 120 ≤ length frames) (c : 19 ≤ length reply) (d : 1 ≤ length made) (lo : 1 ≤ k) (hi : k ≤ until_call block) where
  long : 29 ≤ length block
  long = until-long block (omega arith)

  call-is : advance_call k block frames reply made
      ≡ advance_left (settled (bare (passed_of (box_at block) k) Done) block frames reply) (laid (k ∷ []) made)
  unfolding advance_call
  call-is =
      let q : k ≤ quiet_of (box_at block) = omega (arith, until-is block long) in
      rw (
        lent (length block) (length frames) (length reply) long a c,
        le-leb 1 (length made) d,
        advance-quiet (box_at block) k (in_reach k lo (omega (arith, until-far block))) q,
      )

  passes : BoxPasses k block frames reply made
  unfolding settled handed told_of told_words listed
  passes =
      record {
        done = ap (λ (l : AdvanceLeft). l.call.number) call-is;
        all_made = ap (λ (l : AdvanceLeft). l.made) call-is;
        no-frame = ap (λ (l : AdvanceLeft). l.call.frames) call-is;
        nothing-told = ap (λ (l : AdvanceLeft). l.call.reply) call-is;
      }

pub box-until : BoxUntil
unfolding BoxUntil
box-until block = (until-far block, passes block)

-- an advance by one, in memory of its own, is not 13
pub box-until-sound : BoxUntilSound
unfolding BoxUntilSound BoxAdvance
box-until-sound block h =
    let frames : List ℕ = replicate 120 0 in
    let reply : List ℕ = replicate 19 0 in
    let made : List ℕ = 0 ∷ [] in
    let p = passes block frames reply made 1 (omega arith) (omega arith) (omega arith) (omega arith) h in
    ((box-advance 1 block frames reply made).judged (until-long block h, omega arith, omega arith, omega arith)).1
    (λ (z : (advance_call 1 block frames reply made).call.number ≡ 13). omega (arith, p.done, z))

-- WHAT ENDS THEM
least : (a b u : ℕ) → min a b ≡ u → (a ≡ u) ⊎ (b ≡ u)
least a b u e = ⊎_elim (λ (h : a < b). inl (omega arith)) (λ (h : b ≤ a). inr (omega arith)) (cut a b)

rings-next : (t : Timer) (u : ℕ) → timer_quiet t ≡ u → u < furthest_advance → t.left ≡ u + 1
rings-next t u e h =
    ⊎_elim
    (λ (k : t.left < 1).
    let f = quiet-off t (omega arith) in
    absurd (omega arith))
    (λ (k : 1 ≤ t.left).
    let f = quiet-on t k in
    omega arith)
    (cut t.left 1)

-- the words of the transmitter and of the state
rest-word : (p : Phase) → rests p ≡ true → (phase_words p).phase ≡ 0
rest-word p h = rw (rests-is p h)

registered-word : (s : State) → is_registered s ≡ true → state_word s ≡ 3
registered-word Wait h = absurd (false≢true h)
registered-word Registering h = absurd (false≢true h)
registered-word RegisterReq h = absurd (false≢true h)
registered-word Registered h = refl

module _ (block : List ℕ) (b : FloorBox) (w : take 29 block ≡ box_words b) where
  word : (i : ℕ) → i < 29 → get_or block i 0 ≡ get_or (box_words b) i 0
  word i h = sym (get_or-take 29 block i 0 h) ∙ ap (λ (l : List ℕ). get_or l i 0) w

  abbrev p : Processes
  p = b.processes

  rung : (u : ℕ) → u < furthest_advance → min (registration_quiet p.registration) (light_quiet p.light) ≡ u → Ends u block
  unfolding registration_quiet light_quiet box_words front_words
  rung u h e =
      let r = p.registration in
      ⊎_elim
      (λ (f : registration_quiet r ≡ u).
      ⊎_elim (λ (x : timer_quiet r.wait ≡ u). inl (word 3 (omega arith) ∙ rings-next r.wait u x h))
      (λ (y : min (timer_quiet r.watchdog) (timer_quiet r.report) ≡ u).
      ⊎_elim (λ (x : timer_quiet r.watchdog ≡ u). inr (inl (word 4 (omega arith) ∙ rings-next r.watchdog u x h)))
      (λ (x : timer_quiet r.report ≡ u). inr (inr (inl (word 5 (omega arith) ∙ rings-next r.report u x h))))
      (least (timer_quiet r.watchdog) (timer_quiet r.report) u y))
      (least (timer_quiet r.wait) (min (timer_quiet r.watchdog) (timer_quiet r.report)) u f))
      (λ (f : light_quiet p.light ≡ u). inr (inr (inr (inl (word 9 (omega arith) ∙ rings-next p.light.timer u f h)))))
      (least (registration_quiet r) (light_quiet p.light) u e)

  chosen : (u : ℕ) → (activates p && ltb 0 p.list.number) ≡ true → u ≡ 0 → Ends u block
  unfolding activates box_words front_words
  chosen u e z =
      let f = (and-eq-true_iff (is_at_rest p.light && is_registered p.registration.state) (ltb 0 p.list.number)).0 e in
      let g = (and-eq-true_iff (is_at_rest p.light) (is_registered p.registration.state)).0 f.0 in
      let n = ltb-true 0 p.list.number f.1 in
      inr (inr (inr (inr (
        z,
        word 2 (omega arith) ∙ registered-word p.registration.state g.1,
        word 8 (omega arith) ∙ rest-word p.light.phase g.0,
        omega (arith, word 12 (omega arith), n),
      ))))

  ended : (u : ℕ) → u < furthest_advance → processes_quiet p ≡ u → Ends u block
  unfolding processes_quiet
  ended u h e =
      let t = activates p && ltb 0 p.list.number in
      ⊎_elim (λ (f : t ≡ true). chosen u f (sym (rw f at e))) (λ (f : t ≡ false). rung u h (rw f at e)) (decided t)

pub box-until-ends : BoxUntilEnds
unfolding BoxUntilEnds quiet_of
box-until-ends block h s u =
    let is = only block h s.its s.has in
    let q : until_call block ≡ processes_quiet s.its.processes = until-is block h ∙ ap quiet_of is ∙ rw s.sound in
    ended block s.its s.has.words (until_call block) u (sym q)
