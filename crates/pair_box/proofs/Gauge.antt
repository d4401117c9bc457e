-- What holds of every box that a run of the pair reaches, and the ticks left to its timers.
-- Assumes nothing.
use Prim.Native.Nat.{ℕ, ◌^◌, ◌≤◌, ◌<◌}
use mathlib.Core.Path.{◌≡◌, sym, ap, subst}
use mathlib.Core.Bool.{true, false, ◌&&◌, and-eq-true_iff}
use mathlib.Core.Logic.{⊎_elim}
use native.Mathlib.Omega.{arith}
use lib.Dec.{leb}
use Rattle.laws.specs.Cases.{decided}
use Rattle.clock.specs.Laws.{runs-in}
use Rattle.clock.specs.Numbers.{watchdog, periodic, wait}
use Rattle.clock.specs.Timers.{off, runs}
use Rattle.frame.specs.Card.{number_of}
use Rattle.frame.specs.declared.Address.{Address}
use Rattle.frame.specs.declared.Reply.TheVariants.{Done}
use Rattle.frame_range.specs.Fits.{is_individual}
use Rattle.box_registration.specs.Sound.{sound_in, sound_of}
use Rattle.box_registration.specs.declared.Registration.{Registration}
use Rattle.box_registration.specs.declared.State.{State}
use Rattle.box_registration.specs.declared.State.TheVariants.{RegisterReq, Registered}
use Rattle.box_calls.specs.Box.{fresh_of}
use Rattle.box_calls.specs.declared.FloorBox.{FloorBox}
use Rattle.box_laws.proofs.Runs.{Holds, run_holds}
use Rattle.box_laws.specs.Stated.{fresh}
use Rattle.pair_demand.specs.Laws.{Gauge}
use Rattle.pair_box.specs.End.{BoxEnd}

abbrev pub dog_of : FloorBox → ℕ
dog_of b = b.processes.registration.watchdog.left

abbrev pub wait_of : FloorBox → ℕ
wait_of b = b.processes.registration.wait.left

module _ (A : Address) where
  pub record Ok (b : FloorBox) : Type 0 where
    pub address : b.address ≡ A
    pub holds : Holds b
    pub count : b.processes.count.0 < 2 ^ 32

  abbrev pub gauge : Gauge (BoxEnd A)
  gauge = record { Ok = Ok; dog = λ b p. dog_of b; wait = λ b p. wait_of b }

  -- a fresh box
  individual : (fresh_of A).reply ≡ Done → is_individual A ≡ true
  unfolding fresh_of
  individual h =
      ⊎_elim (λ (i : is_individual A ≡ true). i)
      (λ (i : is_individual A ≡ false).
      let four : number_of (fresh_of A).reply ≡ 4 = rw i in
      let none : number_of (fresh_of A).reply ≡ 0 = ap number_of h in
      absurd (omega arith))
      (decided (is_individual A))

  begun : is_individual A ≡ true → Ok (fresh_of A).next
  unfolding fresh_of
  begun i = record { address = rw i; holds = run_holds (fresh A i); count = rw i (omega arith) }

  pub fresh_ok : (b : FloorBox) → (BoxEnd A).Fresh b → Ok b
  fresh_ok b h = subst Ok (sym h.1) (begun (individual h.0))

-- the timers that a sound registration runs
module _ (r : Registration) (s : sound_of r ≡ true) where
  timers : (t : State) → r.state ≡ t → sound_in t r ≡ true
  unfolding sound_of
  timers t e = subst (λ (u : State). sound_in u r ≡ true) e ((and-eq-true_iff (sound_in r.state r) (leb r.sync.0 65535)).0 s).0

  pub watchdog-runs : r.state ≡ Registered → (1 ≤ r.watchdog.left) × (r.watchdog.left ≤ watchdog)
  watchdog-runs e =
      let one = off r.wait in
      let two = runs r.watchdog watchdog in
      let three = runs r.report periodic in
      runs-in r.watchdog watchdog ((and-eq-true_iff one two).0 ((and-eq-true_iff (one && two) three).0 (timers Registered e)).0).1

  pub wait-runs : r.state ≡ RegisterReq → (1 ≤ r.wait.left) × (r.wait.left ≤ wait)
  wait-runs e =
      let one = runs r.wait wait in
      let two = off r.watchdog in
      let three = off r.report in
      runs-in r.wait wait ((and-eq-true_iff one two).0 ((and-eq-true_iff (one && two) three).0 (timers RegisterReq e)).0).0
