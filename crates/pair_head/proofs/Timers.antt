-- A tick of a link with more than a tick left to its wait or its watchdog: the link stays, with one tick less.
-- Assumes nothing.
use Rattle.std.proofs.Common.{None, Some}
use Prim.Native.Nat.{ℕ, suc}
use mathlib.Core.Path.{◌≡◌, refl, sym, subst}
use mathlib.Core.Logic.{◌⊎◌, inl, inr}
use native.Mathlib.Omega.{arith}
use Rattle.laws.specs.Cases.{either}
use Rattle.clock.specs.Laws.{ticked-falls}
use Rattle.clock.specs.Timers.{ticked}
use Rattle.frame.specs.declared.Body.TheVariants.{Gate}
use Rattle.frame.specs.declared.Grants.TheVariants.{None}
use Rattle.head_links.specs.Link.{is_registered}
use Rattle.head_links.specs.Steps.{with_watchdog, gated}
use Rattle.head_links.specs.Tick.{tick_wait, tick_periodic, tick_watchdog, tick_in, tick_of}
use Rattle.head_links.specs.declared.Link.{Link}
use Rattle.head_links.specs.declared.State.{State}
use Rattle.head_links.specs.declared.State.TheVariants.{Waiting, Registered}
use Rattle.head_links.specs.declared.Stepped.{Stepped}

pub record StillWaiting (l : Link) (n : ℕ) (x : Stepped) : Type 0 where
  pub state : x.link.state ≡ Waiting
  pub address : x.link.address ≡ l.address
  pub left : x.link.wait.left ≡ n
  pub sent : x.sent ≡ None

pub tick-waiting : (l : Link) (port n : ℕ) → l.state ≡ Waiting → l.wait.left ≡ suc (suc n) → StillWaiting l (suc n) (tick_of l port)
unfolding tick_wait
tick-waiting l port n e w =
    let f = ticked-falls l.wait (omega arith) in
    subst (λ (s : State). StillWaiting l (suc n) (tick_in s l port)) (sym e)
    (rw f.0 (record { state = e; address = refl; left = omega (arith, f.1); sent = refl }))

-- a periodic GATE goes to the link's own address
pub record StillRegistered (l : Link) (n : ℕ) (x : Stepped) : Type 0 where
  pub state : x.link.state ≡ Registered
  pub address : x.link.address ≡ l.address
  pub left : x.link.watchdog.left ≡ n
  pub sent : (x.sent ≡ None) ⊎ (x.sent ≡ Some (l.address, Gate None))

gate-due : (l : Link) → l.state ≡ Registered → StillRegistered l l.watchdog.left (gated l None)
unfolding gated
gate-due l e =
    either (StillRegistered l l.watchdog.left) (is_registered l.state) _ _
    (λ _. record { state = e; address = refl; left = refl; sent = inr refl })
    (λ _. record { state = e; address = refl; left = refl; sent = inr refl })

tick-periodic : (l : Link) → l.state ≡ Registered → StillRegistered l l.watchdog.left (tick_periodic l)
unfolding tick_periodic
tick-periodic l e =
    either (StillRegistered l l.watchdog.left) (ticked l.periodic).rang _ _ (λ _. gate-due l e)
    (λ _. record { state = e; address = refl; left = refl; sent = inl refl })

pub tick-registered : (l : Link) (port n : ℕ) → l.state ≡ Registered → l.watchdog.left ≡ suc (suc n)
    → StillRegistered l (suc n) (tick_of l port)
unfolding tick_watchdog
tick-registered l port n e w =
    let f = ticked-falls l.watchdog (omega arith) in
    let p = tick-periodic (with_watchdog l (ticked l.watchdog).timer) e in
    subst (λ (s : State). StillRegistered l (suc n) (tick_in s l port)) (sym e)
    (rw f.0 (record { state = p.state; address = p.address; left = omega (arith, p.left, f.1); sent = p.sent }))
