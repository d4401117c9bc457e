-- Ticks of a box while its state lasts: each phase of the transmitter runs its timer down, and what follows its end is the next phase.
-- Assumes nothing.
use Prim.Native.Nat.{ℕ, zero, suc, ◌+◌, ◌-◌, ◌≤◌, ◌<◌}
use mathlib.Core.Path.{◌≡◌, refl, sym, ap, ◌∙◌}
use mathlib.Core.Bool.{false}
use mathlib.Core.List.{[], ◌∷◌}
use mathlib.Core.Logic.{⊎_elim}
use native.Mathlib.Omega.{arith}
use borrow.Author.Tests.{ne_eqb}
use lib.IntN.{pos}
use Rattle.laws.specs.Cases.{either, cut}
use Rattle.clock.specs.Counts.{next_of}
use Rattle.clock.specs.Laws.{ticked-on, ticked-rings, quiet-on, passed-left, passed_none}
use Rattle.clock.specs.Timers.{ticked, passed_of as timer_passed, quiet_of as timer_quiet}
use Rattle.clock.specs.declared.Timer.{Timer}
use Rattle.box_grants.specs.declared.GrantList.{GrantList}
use Rattle.box_light.proofs.Laws.{tick-quiet, passed-rest, passed-joins, quiet-less}
use Rattle.box_light.specs.Light.{light_in, resting, rests, is_at_rest}
use Rattle.box_light.specs.Pass.{passed_of, quiet_of}
use Rattle.box_light.specs.Tick.{after, tick_of as light_tick}
use Rattle.box_light.specs.declared.Light.{Light}
use Rattle.box_light.specs.declared.LightTicked.{LightTicked}
use Rattle.box_light.specs.declared.Phase.{Phase}
use Rattle.box_light.specs.declared.Phase.TheVariants.{Fading}
use Rattle.box_registration.specs.Tick.{tick_report, tick_watchdog, tick_wait, tick_in, tick_of as registration_tick}
use Rattle.box_registration.specs.declared.Bell.{Bell}
use Rattle.box_registration.specs.declared.Registration.{Registration}
use Rattle.box_registration.specs.declared.State.{State}
use Rattle.box_registration.specs.declared.State.TheVariants.{Wait, Registering, RegisterReq, Registered}
use Rattle.box_registration.specs.declared.Ticked.{Ticked}
use Rattle.box_telling.specs.Told.{no_notices, added, notices_of}
use Rattle.box_telling.specs.declared.Notice.{Notice}
use Rattle.box_telling.specs.declared.Notice.TheVariants.{Nothing}
use Rattle.box_processes.specs.Parts.{with_count, with_registration, with_light}
use Rattle.box_processes.specs.declared.Processes.{Processes}
use Rattle.box_activation.specs.Activation.{activate}
use Rattle.box_ticking.specs.Tick.{ring, shine, timed, transmitted, tick_of as processes_tick}
use Rattle.box_ticking.specs.declared.Stage.{Stage}
use Rattle.box_calls.specs.Answer.{accepted}
use Rattle.box_calls.specs.Box.{tick_of}
use Rattle.box_calls.specs.declared.Answer.{Answer}
use Rattle.box_calls.specs.declared.FloorBox.{FloorBox}
use Rattle.box_laws.specs.Stated.{tick, Run, calls}
use Rattle.box_laws.specs.Calls.{call-accepted}
use Rattle.box_laws.proofs.Runs.{run-tick-done}
use Rattle.box_laws.specs.Served.{ticks_on, light_at, told_at}

-- ONE TICK
-- the timer that ends a state has more than so many ticks left; in WAIT there is no light
abbrev pub Enough : State → ℕ → Registration → Type 0
Enough Wait w r = ⊥
Enough Registering w r = Unit {0}
Enough RegisterReq w r = w < r.wait.left
Enough Registered w r = w < r.watchdog.left

enough-less : (s : State) (v w : ℕ) (r : Registration) → w ≤ v → Enough s v r → Enough s w r
enough-less Wait v w r h e = e
enough-less Registering v w r h e = tt
enough-less RegisterReq v w r h e = omega arith
enough-less Registered v w r h e = omega arith

-- the registration's part: state and sync stay, the timer has one tick less, nothing is told
pub record Timed (s : State) (w : ℕ) (p : Processes) (a : Stage) : Type 0 where
  pub list : a.next.list ≡ p.list
  light : a.next.light ≡ p.light
  pub state : a.next.registration.state ≡ s
  enough : Enough s w a.next.registration
  pub sync : a.next.registration.sync ≡ p.registration.sync
  notice : a.notice ≡ Nothing

module _ (r : Registration) where
  registering-ticks : r.state ≡ Registering → registration_tick r ≡ record { registration = r; bell = Bell.Quiet }
  registering-ticks e = ap (λ (s : State). tick_in s r) e

  request-ticks : r.state ≡ RegisterReq → 1 < r.wait.left
      → registration_tick r
      ≡ record {
        registration =
            record { state = r.state; wait = record { left = r.wait.left - 1 }; watchdog = r.watchdog; report = r.report; port = r.port; sync = r.sync };
        bell = Bell.Quiet;
      }
  unfolding tick_wait
  request-ticks e w = ap (λ (s : State). tick_in s r) e ∙ rw (ticked-on r.wait (omega arith), ne_eqb r.wait.left 1 (omega arith))

  registered-ticks : r.state ≡ Registered → 1 < r.watchdog.left
      → registration_tick r
      ≡ tick_report (record { state = r.state; wait = r.wait; watchdog = record { left = r.watchdog.left - 1 }; report = r.report; port = r.port; sync = r.sync })
  unfolding tick_watchdog
  registered-ticks e w = ap (λ (s : State). tick_in s r) e ∙ rw (ticked-on r.watchdog (omega arith), ne_eqb r.watchdog.left 1 (omega arith))

timed-on : (s : State) (w : ℕ) (p : Processes) → p.registration.state ≡ s → Enough s (suc w) p.registration → Timed s w p (timed p)
unfolding timed tick_report
timed-on Wait w p e h = absurd h
timed-on Registering w p e h =
    rw (registering-ticks p.registration e)
    (record { list = refl; light = refl; state = e; enough = tt; sync = refl; notice = refl })
timed-on RegisterReq w p e h =
    rw (request-ticks p.registration e (omega arith))
    (record { list = refl; light = refl; state = e; enough = omega arith; sync = refl; notice = refl })
timed-on Registered w p e h =
    let q = with_count p (next_of p.count) in
    rw (registered-ticks p.registration e (omega arith))
    (either (λ (t : Ticked). Timed Registered w p (ring t.bell (with_registration q t.registration))) (ticked p.registration.report).rang _ _
    (λ _. record { list = refl; light = refl; state = e; enough = omega arith; sync = refl; notice = refl })
    (λ _. record { list = refl; light = refl; state = e; enough = omega arith; sync = refl; notice = refl }))

-- then the transmitter's, and activation
tick-done : (b : FloorBox) → Run b → tick_of b ≡ accepted b (pos 0) (processes_tick b.processes)
tick-done b u = (call-accepted tick b (run-tick-done u)).answered

pub tick_is : (b : FloorBox) → Run b → (tick_of b).next.processes ≡ activate (processes_tick b.processes).next
unfolding accepted
tick_is b u = ap (λ (x : Answer). x.next.processes) (tick-done b u)

tick-tells : (b : FloorBox) → Run b → (tick_of b).notices ≡ (processes_tick b.processes).notices
unfolding accepted
tick-tells b u = ap (λ (x : Answer). x.notices) (tick-done b u)

-- one that is not at rest is left alone
stays : (p : Processes) → is_at_rest p.light ≡ false → activate p ≡ p
unfolding activate
stays p h = rw h

-- a box that a run reaches, in a state that lasts so long
pub record Lasts (s : State) (w : ℕ) (b : FloorBox) : Type 0 where
  pub reached : Run b
  pub state : b.processes.registration.state ≡ s
  pub enough : Enough s w b.processes.registration

-- what ticks leave of a box: its sync, and the state, the list and the light given
pub record Leaves (s : State) (w : ℕ) (l : Light) (g : GrantList) (b c : FloorBox) : Type 0 where
  pub lasts : Lasts s w c
  pub sync : c.processes.registration.sync ≡ b.processes.registration.sync
  pub list : c.processes.list ≡ g
  pub light : c.processes.light ≡ l

then : {s t : State} {v w : ℕ} {l m : Light} {g h : GrantList} {a b c : FloorBox} → Leaves s v l g a b → Leaves t w m h b c → Leaves t w m h a c
then x y = record { lasts = y.lasts; sync = y.sync ∙ x.sync; list = y.list; light = y.light }

listed : {s : State} {w : ℕ} {l : Light} {g h : GrantList} {b c : FloorBox} → g ≡ h → Leaves s w l g b c → Leaves s w l h b c
listed e x = record { lasts = x.lasts; sync = x.sync; list = x.list ∙ e; light = x.light }

module _ (s : State) (w : ℕ) (b : FloorBox) (o : Lasts s (suc w) b) where
  abbrev p : Processes
  p = b.processes

  abbrev q : Processes
  q = (timed p).next

  pub on-time : Timed s w p (timed p)
  on-time = timed-on s w p o.state o.enough

  abbrev pub shone : LightTicked → Stage
  shone t = shine t.beam (with_light q t.light)

  shone-as : (t : LightTicked) → light_tick p.light ≡ t → shone (light_tick q.light) ≡ shone t
  shone-as t e = ap (λ (l : Light). shone (light_tick l)) on-time.light ∙ ap shone e

  shone-is : (t : LightTicked) → light_tick p.light ≡ t → (tick_of b).next.processes ≡ activate (shone t).next
  unfolding processes_tick transmitted
  shone-is t e = tick_is b o.reached ∙ ap (λ (x : Stage). activate x.next) (shone-as t e)

  tells_is : (t : LightTicked) → light_tick p.light ≡ t → (tick_of b).notices ≡ notices_of (Nothing ∷ (shone t).notice ∷ [])
  unfolding processes_tick transmitted
  tells_is t e =
      tick-tells b o.reached
      ∙ ap (λ (x : Stage). notices_of ((timed p).notice ∷ x.notice ∷ [])) (shone-as t e)
      ∙ ap (λ (x : Notice). notices_of (x ∷ (shone t).notice ∷ [])) on-time.notice

  -- where the transmitter is then not at rest
  pub left_in : (v : State) (n : ℕ) (t : LightTicked) → light_tick p.light ≡ t → is_at_rest (shone t).next.light ≡ false
      → (shone t).next.registration.state ≡ v → Enough v n (shone t).next.registration → (shone t).next.registration.sync ≡ q.registration.sync
      → Leaves v n (shone t).next.light (shone t).next.list b (tick_of b).next
  left_in v n t e h i g y =
      let is : (tick_of b).next.processes ≡ (shone t).next = shone-is t e ∙ stays (shone t).next h in
      record {
        lasts = record { reached = calls b o.reached tick; state = rw is i; enough = rw is g };
        sync = rw is (y ∙ on-time.sync);
        list = rw is;
        light = rw is;
      }

  -- in the same state
  pub left_as : (t : LightTicked) → light_tick p.light ≡ t → (g : GrantList) → is_at_rest (shone t).next.light ≡ false
      → (shone t).next.registration ≡ q.registration → (shone t).next.list ≡ g → Leaves s w (shone t).next.light g b (tick_of b).next
  left_as t e g h r k = listed k (left_in s w t e h (rw r on-time.state) (rw r on-time.enough) (rw r))

  -- a tick before the timer's last
  passes-one : is_at_rest p.light ≡ false → 1 ≤ quiet_of p.light → Leaves s w (passed_of p.light 1) p.list b (tick_of b).next
  passes-one h k = left_as _ (tick-quiet p.light k) p.list (passed-rest p.light 1 ∙ h) refl on-time.list

  passes-mute : 1 ≤ quiet_of p.light → (tick_of b).notices ≡ no_notices
  unfolding added
  passes-mute k = tells_is _ (tick-quiet p.light k)

  -- the last one
  pub rung : (l : Light) → p.light ≡ l → l.timer.left ≡ 1 → light_tick p.light ≡ after l.phase
  unfolding light_tick
  rung l e h = rw (e, ticked-rings l.timer h)

  rests-then : (t : Timer) → p.light ≡ light_in Fading t → t.left ≡ 1 → (tick_of b).next.processes ≡ activate (with_light q resting)
  rests-then t is h = shone-is _ (rung (light_in Fading t) is h)

-- SEVERAL TICKS
ticks-last : (k : ℕ) (b : FloorBox) → ticks_on (suc k) b ≡ (tick_of (ticks_on k b)).next
ticks-last zero b = refl
ticks-last (suc k) b = ticks-last k (tick_of b).next

ticks-join : (j k : ℕ) (b : FloorBox) → ticks_on (j + k) b ≡ ticks_on k (ticks_on j b)
ticks-join zero k b =
    let z : 0 + k ≡ k = omega arith in
    rw z
ticks-join (suc j) k b =
    let z : suc j + k ≡ suc (j + k) = omega arith in
    rw z (ticks-join j k (tick_of b).next)

pub from : (j k : ℕ) (b : FloorBox) → j ≤ k → ticks_on k b ≡ ticks_on (k - j) (ticks_on j b)
from j k b h =
    let z : j + (k - j) ≡ k = omega arith in
    rw z at (ticks-join j (k - j) b)

abbrev pub light : FloorBox → Light
light b = b.processes.light

pub light-from : (j k : ℕ) (b : FloorBox) → j ≤ k → light_at k b ≡ light_at (k - j) (ticks_on j b)
light-from j k b h = ap light (from j k b h)

pub told-from : (j k : ℕ) (b : FloorBox) → j ≤ k → told_at k b ≡ told_at (k - j) (ticks_on j b)
told-from j k b h = ap (λ (x : FloorBox). (tick_of x).notices) (from j k b h)

pub weaker : (s : State) (v w : ℕ) (b : FloorBox) → w ≤ v → Lasts s v b → Lasts s w b
weaker s v w b h o = record { reached = o.reached; state = o.state; enough = enough-less s v w b.processes.registration h o.enough }

none_passed : (l : Light) → passed_of l 0 ≡ l
unfolding passed_of
none_passed l = rw (passed_none l.timer)

-- a phase that is not at rest, j ticks on of those before its timer's last
along : (s : State) (j w : ℕ) (b : FloorBox) (l : Light) → b.processes.light ≡ l → is_at_rest l ≡ false → j ≤ quiet_of l → Lasts s (j + w) b
    → Leaves s w (passed_of l j) b.processes.list b (ticks_on j b)
along s zero w b l e h q o = record { lasts = weaker s (0 + w) w b (omega arith) o; sync = refl; list = refl; light = e ∙ sym (none_passed l) }
along s (suc j) w b l e h q o =
    let one = passes-one s (j + w) b (weaker s (suc j + w) (suc (j + w)) b (omega arith) o) (rw e h) (rw e (omega arith)) in
    let f = quiet-less l (omega arith) in
    let more = along s j w (tick_of b).next (passed_of l 1) (one.light ∙ ap (λ (x : Light). passed_of x 1) e) (passed-rest l 1 ∙ h)
    (omega arith) one.lasts in
    record { lasts = more.lasts; sync = more.sync ∙ one.sync; list = more.list ∙ one.list; light = more.light ∙ passed-joins l j }

-- where it is dark: at rest in the same state, with this list, and then activation
pub record Ended (s : State) (g : GrantList) (b c : FloorBox) : Type 0 where
  pub rests : Processes
  pub is : c.processes ≡ activate rests
  pub list : rests.list ≡ g
  pub light : rests.light ≡ resting
  pub state : rests.registration.state ≡ s
  pub sync : rests.registration.sync ≡ b.processes.registration.sync

-- ONE PHASE, to its end
module _ (s : State) (n w : ℕ) (b : FloorBox) (t : Timer) (h : t.left ≡ suc n) (o : Lasts s (suc n + w) b) where
  abbrev c : FloorBox
  c = ticks_on n b

  last : (timer_passed t n).left ≡ 1
  last = omega (arith, passed-left t n)

  quiet_is : timer_quiet t ≡ n
  quiet_is =
      let q = quiet-on t (omega arith) in
      omega arith

  module _ (f : Phase) (is : b.processes.light ≡ light_in f t) (r : rests f ≡ false) where
    pub on : (j : ℕ) → j ≤ n → Leaves s (suc w) (passed_of (light_in f t) j) b.processes.list b (ticks_on j b)
    unfolding quiet_of
    on j k = along s j (suc w) b (light_in f t) is r (omega (arith, quiet_is)) (weaker s (suc n + w) (j + suc w) b (omega arith) o)

    -- what its last tick leads to
    pub next : (v : State) (m : ℕ) (l : Light) (g : GrantList → GrantList)
        → ((x : FloorBox) → Lasts s (suc w) x → (u : Timer) → x.processes.light ≡ light_in f u → u.left ≡ 1
        → Leaves v m l (g x.processes.list) x (tick_of x).next)
        → Leaves v m l (g b.processes.list) b (ticks_on (suc n) b)
    unfolding passed_of
    next v m l g ends =
        let x = on n (omega arith) in
        rw (ticks-last n b) (listed (ap g x.list) (then x (ends c x.lasts (timer_passed t n) x.light last)))

    -- what is told on the way, and what by the last tick
    pub mute-on : (j : ℕ) → j < n → told_at j b ≡ no_notices
    unfolding quiet_of passed_of
    mute-on j k =
        let x = on j (omega arith) in
        let q = quiet-on (timer_passed t j) (omega (arith, passed-left t j)) in
        passes-mute s w (ticks_on j b) x.lasts (rw x.light (omega (arith, passed-left t j)))

    pub told-last : (x : Notice) → ((q : Processes) → (shine (after f).beam (with_light q (after f).light)).notice ≡ x) → told_at n b ≡ notices_of (x ∷ [])
    unfolding passed_of added
    told-last x e =
        let y = on n (omega arith) in
        tells_is s w c y.lasts _ (rung s w c y.lasts (light_in f (timer_passed t n)) y.light last)
        ∙ ap (λ (z : Notice). notices_of (z ∷ [])) (e (timed c.processes).next)

    pub mute-all : ((q : Processes) → (shine (after f).beam (with_light q (after f).light)).notice ≡ Nothing) → (j : ℕ) → j ≤ n → told_at j b ≡ no_notices
    unfolding added
    mute-all e j k =
        ⊎_elim (mute-on j)
        (λ (m : n ≤ j).
        let z : j ≡ n = omega arith in
        rw z (told-last Nothing e))
        (cut j n)

  -- rest, and then activation
  pub rest-next : b.processes.light ≡ light_in Fading t → Ended s b.processes.list b (ticks_on (suc n) b)
  unfolding passed_of
  rest-next is =
      let f = on Fading is refl n (omega arith) in
      let u = on-time s w c f.lasts in
      record {
        rests = with_light (timed c.processes).next resting;
        is = rw (ticks-last n b) (rests-then s w c f.lasts (timer_passed t n) f.light last);
        list = u.list ∙ f.list;
        light = refl;
        state = u.state;
        sync = u.sync ∙ f.sync;
      }
