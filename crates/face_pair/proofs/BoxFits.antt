-- A box that runs reach fits its words: what is sound is in range, and the rest is kept neat.
-- Assumes nothing.
use Prim.Native.Nat.{ℕ, zero, suc, ◌-◌, ◌^◌, ◌<◌}
use mathlib.Core.Path.{◌≡◌, sym, ap, ◌∙◌}
use mathlib.Core.Bool.{Bool, true, ◌&&◌, and-eq-true_iff}
use mathlib.Core.List.{List, [], ◌∷◌, ◌++◌}
use native.Mathlib.Omega.{arith}
use borrow.Author.Tests.{leb-true, eqb-true}
use lib.Dec.{leb}
use lib.ListN.{length, drop, replicate}
use lib.Seq.{drop-append_seam}
use Rattle.clock.specs.Laws.{runs-in}
use Rattle.clock.specs.Numbers.{watchdog, periodic, wait, furthest, laser_on, laser_off, quanta_of}
use Rattle.clock.specs.Timers.{off, runs}
use Rattle.clock.specs.declared.Quanta.{Quanta}
use Rattle.clock.specs.declared.Timer.{Timer}
use Rattle.clock.specs.Spans.{none}
use Rattle.clock.specs.declared.Span.{Span}
use Rattle.box_grants.specs.Activation.{holds}
use Rattle.box_grants.specs.Keeps.{sound-parts}
use Rattle.box_grants.specs.Laws.{Packs, packs-list}
use Rattle.box_grants.specs.Listed.{list_of}
use Rattle.box_grants.specs.Sound.{in_range, sound_of as list_sound}
use Rattle.box_grants.specs.declared.GrantList.{GrantList}
use Rattle.box_light.proofs.Laws.{fits_in, served-in}
use Rattle.box_light.specs.Light.{laser_on_for}
use Rattle.box_light.specs.Sound.{wait_fits, served, sound_in as phase_sound}
use Rattle.box_light.specs.declared.Phase.{Phase}
use Rattle.box_light.specs.declared.Phase.TheVariants.{Rest, Before, Random, Warming, Asking, Due, Lit, Open, Fading}
use Rattle.box_registration.specs.Sound.{sound_in, sound_of as registration_sound}
use Rattle.box_registration.specs.declared.Registration.{Registration}
use Rattle.box_registration.specs.declared.State.{State}
use Rattle.box_registration.specs.declared.State.TheVariants.{Wait, Registering, RegisterReq, Registered}
use Rattle.box_calls.specs.declared.FloorBox.{FloorBox}
use Rattle.box_laws.specs.Sound.{Sound}
use Rattle.face_laws.specs.Box.{TimerFits, EntriesFit, PhaseFits, Fits}
use Rattle.face_pair.proofs.Neat.{Neat}

-- timers
pub off-fits : (t : Timer) → off t ≡ true → TimerFits t
unfolding off
off-fits t h = omega (arith, eqb-true t.left 0 h)

pub runs-fits : (t : Timer) (n : ℕ) → runs t n ≡ true → n < 2 ^ 32 → TimerFits t
runs-fits t n h k = omega (arith, (runs-in t n h).1)

three : (a b c : Bool) → (a && b && c) ≡ true → (a ≡ true) × (b ≡ true) × (c ≡ true)
three a b c h =
    let p = (and-eq-true_iff (a && b) c).0 h in
    let q = (and-eq-true_iff a b).0 p.0 in
    (q.0, q.1, p.1)

abbrev TimersFit : Registration → Type 0
TimersFit r = TimerFits r.wait × TimerFits r.watchdog × TimerFits r.report

timers-fit : (t : State) (r : Registration) → sound_in t r ≡ true → TimersFit r
timers-fit Wait r h =
    let p = three (off r.wait) (off r.watchdog) (off r.report) h in
    (off-fits r.wait p.0, off-fits r.watchdog p.1, off-fits r.report p.2)
timers-fit Registering r h =
    let p = three (off r.wait) (off r.watchdog) (off r.report) h in
    (off-fits r.wait p.0, off-fits r.watchdog p.1, off-fits r.report p.2)
timers-fit RegisterReq r h =
    let p = three (runs r.wait wait) (off r.watchdog) (off r.report) h in
    (runs-fits r.wait wait p.0 (omega arith), off-fits r.watchdog p.1, off-fits r.report p.2)
timers-fit Registered r h =
    let p = three (off r.wait) (runs r.watchdog watchdog) (runs r.report periodic) h in
    (off-fits r.wait p.0, runs-fits r.watchdog watchdog p.1 (omega arith), runs-fits r.report periodic p.2 (omega arith))

registration-fits : (r : Registration) → registration_sound r ≡ true → TimersFit r × (r.sync.0 < 2 ^ 32)
unfolding registration_sound
registration-fits r h =
    let p = (and-eq-true_iff (sound_in r.state r) (leb r.sync.0 65535)).0 h in
    (timers-fit r.state r p.0, omega (arith, leb-true r.sync.0 65535 p.1))

-- the transmitter
on_below : (sync : Quanta) → (laser_on_for sync).left < 2 ^ 32
unfolding laser_on_for
on_below sync = omega arith

fits-in-phase : (p : Phase) (t : Timer) (s : GrantList) → phase_sound p t s ≡ true → TimerFits t × PhaseFits p
fits-in-phase Rest t s h = (off-fits t h, tt)
fits-in-phase (Before random sync) t s h =
    let p = (and-eq-true_iff (runs t furthest) (wait_fits random.0 sync)).0 h in
    let f = fits_in random.0 sync p.1 in
    (runs-fits t furthest p.0 (omega arith), (omega arith, omega arith))
fits-in-phase (Random sync) t s h =
    let p = (and-eq-true_iff (runs t 65535) (wait_fits t.left sync)).0 h in
    let f = fits_in t.left sync p.1 in
    (runs-fits t 65535 p.0 (omega arith), omega arith)
fits-in-phase Warming t s h = (runs-fits t (65535 - quanta_of 60 - laser_off) h (omega arith), tt)
fits-in-phase Asking t s h = (runs-fits t (quanta_of 60) h (omega arith), tt)
fits-in-phase (Due entry sync) t s h =
    let p = (and-eq-true_iff (runs t (2 ^ 31 - 1) && holds entry (list_of s)) (served entry.length sync)).0 h in
    let q = (and-eq-true_iff (runs t (2 ^ 31 - 1)) (holds entry (list_of s))).0 p.0 in
    let f = served-in entry.length sync p.1 in
    (runs-fits t (2 ^ 31 - 1) q.0 (omega arith), (omega arith, omega arith))
fits-in-phase (Lit n sync) t s h =
    let p = (and-eq-true_iff (runs t (laser_on_for sync).left) (served n sync)).0 h in
    let f = served-in n sync p.1 in
    (runs-fits t (laser_on_for sync).left p.0 (on_below sync), (omega arith, omega arith))
fits-in-phase Open t s h = (runs-fits t (65535 - laser_on - laser_off) h (omega arith), tt)
fits-in-phase Fading t s h = (runs-fits t laser_off h (omega arith), tt)

-- the list
range-fits : (l : List Span) → in_range l ≡ true → EntriesFit l
range-fits [] h = tt
range-fits (e ∷ l) h =
    let p = (and-eq-true_iff (leb e.length.0 65535) (in_range l)).0 h in
    (omega (arith, leb-true e.length.0 65535 p.0), range-fits l p.1)

none-fit : (n : ℕ) → EntriesFit (replicate n none)
none-fit zero = tt
none-fit (suc n) = (omega arith, none-fit n)

both-fit : (l r : List Span) → EntriesFit l → EntriesFit r → EntriesFit (l ++ r)
both-fit [] r h k = k
both-fit (e ∷ l) r h k = (h.0, both-fit l r h.1 k)

entries_fit : (s : GrantList) → Packs s → list_sound s ≡ true → EntriesFit s.entries
entries_fit s w h =
    let l = w.list in
    let r : in_range l ≡ true = ap in_range (sym (packs-list s w)) ∙ (sound-parts s h).1 in
    rw (ap (λ (x : GrantList). x.entries) w.is) (both-fit l (replicate (16 - length l) none) (range-fits l r) (none-fit (16 - length l)))

-- nothing behind the list
none-behind : (s : GrantList) → Packs s → drop s.number s.entries ≡ replicate (16 - s.number) none
none-behind s w = rw w.is (drop-append_seam w.list (replicate (16 - length w.list) none))

-- the box
pub box-fits : (b : FloorBox) → Sound b.processes → Neat b.processes → b.processes.count.0 < 2 ^ 32 → Fits b
box-fits b s w k =
    let p = b.processes in
    let r = registration-fits p.registration s.registration in
    record {
      count = k;
      wait = r.0.0;
      watchdog = r.0.1;
      report = r.0.2;
      port = w.port;
      sync = r.1;
      entries = entries_fit p.list w.list s.list;
      light = fits-in-phase p.light.phase p.light.timer p.list s.light;
      places = s.places;
      behind = none-behind p.list w.list;
    }
