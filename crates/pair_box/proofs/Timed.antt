-- The first stage of a tick: what the timers of the registration make of it, in each state.
-- Assumes nothing.
use Rattle.std.proofs.Common.{None}
use mathlib.Core.Path.{◌≡◌, refl}
use mathlib.Core.Bool.{true, false}
use Rattle.laws.specs.Cases.{either}
use Rattle.clock.specs.Counts.{next_of}
use Rattle.clock.specs.Timers.{ticked}
use Rattle.box_registration.specs.Tick.{tick_wait, tick_report, tick_watchdog}
use Rattle.box_registration.specs.declared.State.{State}
use Rattle.box_registration.specs.declared.State.TheVariants.{Wait, Registering, RegisterReq, Registered}
use Rattle.box_registration.specs.declared.Ticked.{Ticked}
use Rattle.box_processes.specs.Parts.{with_count, with_registration}
use Rattle.box_processes.specs.declared.Processes.{Processes}
use Rattle.box_ticking.specs.Tick.{ring, timed}
use Rattle.box_ticking.specs.declared.Stage.{Stage}
use Rattle.pair_box.proofs.Moves.{Idle}

-- a stage that leaves the registration as it was, and sends nothing
abbrev pub Still : Processes → Stage → Type 0
Still p x = (x.next.registration ≡ p.registration) × (x.sent ≡ None)

module _ (p : Processes) where
  still-in : (t : State) → p.registration.state ≡ t → Idle t → Still p (timed p)
  unfolding timed
  still-in Wait e i = rw e (refl, refl)
  still-in Registering e i = rw e (refl, refl)
  still-in RegisterReq e i = absurd i
  still-in Registered e i = absurd i

  -- a state that runs no timer
  pub idle-timed : Idle p.registration.state → Still p (timed p)
  idle-timed i = still-in p.registration.state refl i

  -- REGISTER_REQ
  module _ (e : p.registration.state ≡ RegisterReq) where
    pub retry-timed : (ticked p.registration.wait).rang ≡ true
        → ((timed p).next.registration.state ≡ Registering) × ((timed p).sent ≡ None) × ((timed p).next.light ≡ p.light)
    unfolding timed tick_wait
    retry-timed r = rw (e, r) (refl, refl, refl)

    pub asking-timed : (ticked p.registration.wait).rang ≡ false
        → ((timed p).next.registration.state ≡ RegisterReq)
        × ((timed p).next.registration.wait ≡ (ticked p.registration.wait).timer)
        × ((timed p).sent ≡ None)
    unfolding timed tick_wait
    asking-timed r = rw (e, r) (refl, refl, refl)

  -- REGISTERED
  module _ (e : p.registration.state ≡ Registered) where
    pub lost-timed : (ticked p.registration.watchdog).rang ≡ true → (timed p).next.registration.state ≡ Wait
    unfolding timed tick_watchdog
    lost-timed r = rw (e, r)

    abbrev Falls : Stage → Type 0
    Falls x = (x.next.registration.state ≡ Registered) × (x.next.registration.watchdog ≡ (ticked p.registration.watchdog).timer)

    pub registered-timed : (ticked p.registration.watchdog).rang ≡ false → Falls (timed p)
    unfolding timed tick_watchdog tick_report
    registered-timed r =
        rw (e, r)
        (either (λ (t : Ticked). Falls (ring t.bell (with_registration (with_count p (next_of p.count)) t.registration)))
        (ticked p.registration.report).rang _ _ (λ _. (refl, refl)) (λ _. (refl, refl)))
