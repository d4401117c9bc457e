-- The light of a discovery GATE: the start is waited for, then the random wait, and then it is lit as a grant of just the needed length.
-- Assumes nothing.
use Rattle.std.proofs.Common.{Some}
use Prim.Native.Nat.{ℕ, zero, suc, ◌+◌, ◌-◌, ◌≤◌}
use mathlib.Core.Path.{◌≡◌, refl, ap, ◌∙◌}
use mathlib.Core.Bool.{Bool, true, false, and-false, and-eq-true_iff}
use mathlib.Core.Logic.{⊎_elim}
use native.Mathlib.Nat.{mod-lt}
use native.Mathlib.Omega.{arith}
use borrow.Author.Tests.{le-leb, leb-true, ne_eqb}
use lib.Dec.{eqb}
use Rattle.laws.specs.Cases.{either, cut}
use Rattle.clock.specs.Counts.{reach}
use Rattle.clock.specs.Numbers.{laser_on, laser_off, furthest, quanta_of, needed, start_in_range, fits}
use Rattle.clock.specs.declared.Quanta.{Quanta}
use Rattle.clock.specs.declared.Timer.{Timer}
use Rattle.frame.specs.declared.Grant.{Grant}
use Rattle.frame.specs.declared.Message.{Message}
use Rattle.frame_range.specs.Fits.{fits_grant, fits_body}
use Rattle.frame_range.specs.Laws.{message-parts}
use Rattle.box_light.proofs.Laws.{on-for}
use Rattle.box_light.specs.Light.{light_in, resting, fading, laser_on_for, randomly, is_at_rest}
use Rattle.box_light.specs.declared.Light.{Light}
use Rattle.box_light.specs.declared.Phase.{Phase}
use Rattle.box_light.specs.declared.Phase.TheVariants.{Before, Random, Warming, Asking}
use Rattle.box_registration.specs.declared.State.TheVariants.{Registering, RegisterReq}
use Rattle.box_telling.specs.declared.Notice.{Notice}
use Rattle.box_processes.specs.Parts.{with_count, with_light}
use Rattle.box_processes.specs.declared.Processes.{Processes}
use Rattle.box_activation.specs.Activation.{activate}
use Rattle.box_hearing.specs.Discovery.{random_for, called, discover}
use Rattle.box_calls.specs.Answer.{accepted}
use Rattle.box_calls.specs.Box.{tick_of}
use Rattle.box_calls.specs.Hear.{hear_of}
use Rattle.box_calls.specs.declared.Answer.{Answer}
use Rattle.box_calls.specs.declared.FloorBox.{FloorBox}
use Rattle.box_laws.specs.Calls.{call-accepted}
use Rattle.box_laws.specs.Served.{ticks_on, light_at, Lights, Tells}
use Rattle.box_laws.specs.Stated.{hear, calls}
use Rattle.box_laws.specs.Window.{Called, Asks, WindowServed, WaitInside}
use Rattle.box_laws.proofs.Lasting.{Lasts, Leaves, on-time, left_in, left_as, rung, from, light, light-from, told-from, next}
use Rattle.box_laws.proofs.Lit.{Dark, waits-dark, lights-behind, tells-behind, Burns, end, lights-of, tells-of}

-- THE LAST TICK of each phase
randomly-busy : (random sync : Quanta) → is_at_rest (randomly random sync) ≡ false
unfolding randomly
randomly-busy random sync = either (λ (l : Light). is_at_rest l ≡ false) (eqb random.0 0) _ _ (λ _. refl) (λ _. refl)

module _ (w : ℕ) (b : FloorBox) (o : Lasts Registering (suc w) b) (t : Timer) (h : t.left ≡ 1) where
  before-ends : (random sync : Quanta) → light b ≡ light_in (Before random sync) t
      → Leaves Registering w (randomly random sync) b.processes.list b (tick_of b).next
  before-ends random sync is =
      left_as Registering w b o _ (rung Registering w b o (light_in (Before random sync) t) is h) b.processes.list (randomly-busy random sync) refl
      (on-time Registering w b o).list

  random-ends : (sync : Quanta) → light b ≡ light_in (Random sync) t
      → Leaves Registering w (light_in Warming (laser_on_for sync)) b.processes.list b (tick_of b).next
  random-ends sync is =
      left_as Registering w b o _ (rung Registering w b o (light_in (Random sync) t) is h) b.processes.list refl refl (on-time Registering w b o).list

  -- the window opens, and the wait for REGISTER is longer than it
  warming-ends : light b ≡ light_in Warming t
      → Leaves RegisterReq (quanta_of 60 + laser_off) (light_in Asking (record { left = quanta_of 60 })) b.processes.list b (tick_of b).next
  warming-ends is =
      let x = left_in Registering w b o RegisterReq (quanta_of 60 + laser_off) _ (rung Registering w b o (light_in Warming t) is h) refl refl (omega arith) refl in
      record { lasts = x.lasts; sync = x.sync; list = x.list ∙ (on-time Registering w b o).list; light = x.light }

asking-ends : (w : ℕ) (b : FloorBox) → Lasts RegisterReq (suc w) b → (t : Timer) → light b ≡ light_in Asking t → t.left ≡ 1
    → Leaves RegisterReq w fading b.processes.list b (tick_of b).next
asking-ends w b o t is h =
    left_as RegisterReq w b o _ (rung RegisterReq w b o (light_in Asking t) is h) b.processes.list refl refl (on-time RegisterReq w b o).list

-- THE WAITS
-- in REGISTERING no timer ends
any : (v w : ℕ) (b : FloorBox) → Lasts Registering v b → Lasts Registering w b
any v w b o = record { reached = o.reached; state = o.state; enough = tt }

none-dark : (b : FloorBox) → Dark 0 b
none-dark b = record { lit = λ k h. absurd (omega arith); sends = λ k h. absurd (omega arith); tells = λ k h. absurd (omega arith) }

-- dark, and dark again
dark-join : (c d : ℕ) (b : FloorBox) → Dark c b → Dark d (ticks_on c b) → Dark (c + d) b
dark-join c d b x y =
    record {
      lit = λ k h. ⊎_elim (x.lit k) (λ (m : c ≤ k). rw (light-from c k b m) (y.lit (k - c) (omega arith))) (cut k c);
      sends = λ k h. ⊎_elim (x.sends k) (λ (m : c ≤ k). rw (light-from c k b m) (y.sends (k - c) (omega arith))) (cut k c);
      tells = λ k h. ⊎_elim (x.tells k) (λ (m : c ≤ k). rw (told-from c k b m) (y.tells (k - c) (omega arith))) (cut k c);
    }

-- dark for so many ticks, and then the laser goes on
record Warms (d : ℕ) (sync : Quanta) (b : FloorBox) : Type 0 where
  dark : Dark d b
  lasts : Lasts Registering 0 (ticks_on d b)
  warming : light_at d b ≡ light_in Warming (laser_on_for sync)

random-warms : (r : ℕ) (sync : Quanta) (b : FloorBox) → Lasts Registering 0 b → light b ≡ randomly (record { 0 = r }) sync → Warms r sync b
unfolding randomly
random-warms zero sync b o is = record { dark = none-dark b; lasts = o; warming = is }
random-warms (suc n) sync b o is =
    let t : Timer = record { left = suc n } in
    let i : light b ≡ light_in (Random sync) t = is ∙ rw (ne_eqb (suc n) 0 (omega arith)) in
    let x = next Registering n 0 b t refl (any 0 (suc n + 0) b o) (Random sync) i refl Registering 0 (light_in Warming (laser_on_for sync)) (λ g. g)
    (λ c l u j h. random-ends 0 c l u h sync j) in
    record { dark = waits-dark Registering n 0 b t refl (any 0 (suc n + 0) b o) (Random sync) i refl refl refl (λ q. refl); lasts = x.lasts; warming = x.light }

start-warms : (d r : ℕ) (sync : Quanta) (b : FloorBox) → Lasts Registering 0 b → light b ≡ called (Some (record { 0 = d })) (record { 0 = r }) sync → Warms (d + r) sync b
start-warms zero r sync b o is =
    let z : 0 + r ≡ r = omega arith in
    rw z (random-warms r sync b o is)
start-warms (suc n) r sync b o is =
    let t : Timer = record { left = suc n } in
    let f : Phase = Before (record { 0 = r }) sync in
    let i : light b ≡ light_in f t = is ∙ rw (ne_eqb (suc n) 0 (omega arith)) in
    let x = next Registering n 0 b t refl (any 0 (suc n + 0) b o) f i refl Registering 0 (randomly (record { 0 = r }) sync) (λ g. g)
    (λ c l u j h. before-ends 0 c l u h (record { 0 = r }) sync j) in
    let y = random-warms r sync (ticks_on (suc n) b) x.lasts x.light in
    let z : suc n + r - suc n ≡ r = omega arith in
    let at : ticks_on (suc n + r) b ≡ ticks_on r (ticks_on (suc n) b) = from (suc n) (suc n + r) b (omega arith) ∙ rw z in
    record {
      dark = dark-join (suc n) r b (waits-dark Registering n 0 b t refl (any 0 (suc n + 0) b o) f i refl refl refl (λ q. refl)) y.dark;
      lasts = rw at y.lasts;
      warming = ap light at ∙ y.warming;
    }

-- THE LIGHT
idle : (p : Processes) → p.light ≡ resting → p.registration.state ≡ RegisterReq → (activate p).light ≡ resting
unfolding activate
idle p e i = rw (e, i)

module _ (d : ℕ) (sync : Quanta) (b : FloorBox) (z : Warms d sync b) (short : sync.0 ≤ 65535) where
  abbrev n : ℕ
  n = laser_on + sync.0 - 1

  abbrev c : FloorBox
  c = ticks_on d b

  abbrev asking : Timer
  asking = record { left = quanta_of 60 }

  burns : Burns Registering RegisterReq n 41 0 Warming Asking Notice.Window Notice.Nothing (laser_on_for sync) asking c
  burns =
      record {
        lasts = any 0 (suc n + 0) c z.lasts;
        first = z.warming;
        settling = omega (arith, on-for sync short);
        sending = refl;
        opens = λ x o r i h. warming-ends 0 x o r h i;
        closes = λ x o r i h. asking-ends laser_off x o r i h;
        busy = (refl, refl);
        on = (refl, refl);
        enabled = (refl, refl);
        told = λ q. (refl, refl);
      }

  lights : Lights d (needed sync.0) sync.0 b
  lights =
      lights-behind d (needed sync.0) sync.0 b z.dark (omega arith)
      (lights-of burns (needed sync.0) sync.0 (omega arith) (omega arith))

  tells : Tells Notice.Window Notice.Nothing d (needed sync.0) sync.0 b
  tells =
      tells-behind d (needed sync.0) sync.0 b z.dark (omega arith) Notice.Window Notice.Nothing
      (tells-of burns (needed sync.0) sync.0 (omega arith) (omega arith))
      (omega arith)

  ends : light_at (d + needed sync.0) b ≡ resting
  ends =
      let e = end burns in
      let k : d + needed sync.0 - d ≡ suc n + suc 41 + laser_off = omega arith in
      light-from d (d + needed sync.0) b (omega arith)
      ∙ rw k (ap (λ (p : Processes). p.light) e.is ∙ idle e.rests e.light e.state)

-- THE MESSAGE
pub wait-inside : WaitInside
unfolding WaitInside random_for
wait-inside own random length sync h =
    let long = leb-true (needed sync.0) length.0 h in
    either (λ (r : ℕ). r + needed sync.0 ≤ length.0) own _ _ (λ _. omega arith)
    (λ _.
    let below = mod-lt random {m = length.0 - needed sync.0 + 1} (omega arith) in
    omega arith)

module _ (d : ℕ) (b : FloorBox) (m : Message) (random : ℕ) (grant : Grant) (sync : Quanta) (u : Called d b m random grant sync) where
  abbrev own : Bool
  own = eqb m.destination.0 b.address.0

  abbrev r : ℕ
  r = (random_for own random grant.length sync).0

  abbrev p : Processes
  p = with_count b.processes m.timestamp

  in-range : start_in_range m.timestamp.0 grant.start.0 ≡ true
  unfolding start_in_range
  in-range = rw (u.start, le-leb 0 d (omega arith), le-leb d furthest u.near)

  acts : discover p grant sync own random ≡ with_light p (called (Some (record { 0 = d })) (random_for own random grant.length sync) sync)
  unfolding discover reach
  acts = rw (u.registering, u.rest, in-range, u.long, u.start)

  calm : activate (with_light p (called (Some (record { 0 = d })) (random_for own random grant.length sync) sync))
      ≡ with_light p (called (Some (record { 0 = d })) (random_for own random grant.length sync) sync)
  unfolding activate
  calm = rw u.registering (simp and-false refl)

  heard-is : (hear_of b m random).next.processes ≡ with_light p (called (Some (record { 0 = d })) (random_for own random grant.length sync) sync)
  unfolding accepted
  heard-is =
      ap (λ (x : Answer). x.next.processes) (call-accepted (hear m random) b u.accepted).answered
      ∙ rw (u.body, acts) calm

  lasts : Lasts Registering 0 (hear_of b m random).next
  lasts = record { reached = calls b u.reached (hear m random); state = rw heard-is u.registering; enough = tt }

  short : grant.length.0 ≤ 65535
  short =
      let body : fits_body m.body ≡ true = (message-parts m (call-accepted (hear m random) b u.accepted).passed.1.1.0).2 in
      let both = (and-eq-true_iff (fits_grant grant) (fits sync)).0 (rw u.body at body) in
      leb-true grant.length.0 65535 both.0

  long : needed sync.0 ≤ grant.length.0
  long = leb-true (needed sync.0) grant.length.0 u.long

  warms : Warms (d + r) sync (hear_of b m random).next
  warms = start-warms d r sync (hear_of b m random).next lasts (ap (λ (x : Processes). x.light) heard-is)

  asks : Asks (d + r) sync.0 (hear_of b m random).next
  asks =
      let s : sync.0 ≤ 65535 = omega (arith, long, short) in
      record {
        lights = lights (d + r) sync (hear_of b m random).next warms s;
        tells = tells (d + r) sync (hear_of b m random).next warms s;
        ends = ends (d + r) sync (hear_of b m random).next warms s;
      }

pub window-served : WindowServed
unfolding WindowServed
window-served d b m random grant sync u = asks d b m random grant sync u
