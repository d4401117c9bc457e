-- The periodic GATE of one link, tick by tick, and of a link in the table.
-- Assumes nothing.
use Rattle.std.proofs.Common.{None}
use Prim.Native.Nat.{ℕ, zero, suc, ◌+◌, ◌-◌, ◌<◌}
use mathlib.Core.Path.{◌≡◌, refl, sym, ap, ◌∙◌}
use mathlib.Core.Bool.{true, false}
use mathlib.Core.List.{List, [], ◌∷◌, ◌++◌, append_assoc}
use mathlib.Core.Logic.{⊎_elim, ◌≢◌}
use native.Mathlib.Omega.{arith}
use borrow.Author.Tests.{eq-eqb, ne_eqb, eqb-true, eqb-false}
use lib.Dec.{eqb}
use Rattle.laws.specs.Cases.{decided}
use Rattle.clock.specs.Laws.{ticked-on}
use Rattle.clock.specs.Numbers.{periodic}
use Rattle.frame.specs.declared.Body.TheVariants.{Gate}
use Rattle.frame.specs.declared.Grants.TheVariants.{None}
use Rattle.frame.specs.declared.Message.{Message}
use Rattle.head_state.specs.Head.{tick_of as head_tick}
use Rattle.head_links.specs.Steps.{with_watchdog, with_periodic, still, gated}
use Rattle.head_links.specs.Tick.{tick_periodic, tick_watchdog, tick_in, tick_of}
use Rattle.head_links.specs.declared.Link.{Link}
use Rattle.head_links.specs.declared.State.{State}
use Rattle.head_links.specs.declared.Stepped.{Stepped}
use Rattle.head_survey.specs.Facts.{link_from}
use Rattle.head_table.specs.Events.{port_of}
use Rattle.head_table.specs.Output.{message_of}
use Rattle.head_table.specs.declared.Event.{Event}
use Rattle.head_table.specs.declared.Sender.{Sender}
use Rattle.head_judging.specs.declared.Call.{Call}
use Rattle.head_laws.specs.Stated.{sent_by, link_frames, from}
use Rattle.head_laws.specs.Numbered.{Has, held-has}
use Rattle.head_laws.specs.Periodic.{Gates, restarted, GateFires, ticks_on, Comes, GateComes, Among, GateSent}
use Rattle.head_laws.specs.Refusals.{call-accepted}
use Rattle.head_laws.specs.Ticks.{tick-links}

-- a tick of a registered link whose watchdog does not ring is one of its periodic timer
watched-tick : (l : Link) (port : ℕ) (n : ℕ) → Gates (suc n) l
    → tick_of l port ≡ tick_periodic (with_watchdog l (record { left = l.watchdog.left - 1 }))
unfolding tick_watchdog
watched-tick l port n g =
    let w = g.watched in
    ap (λ (s : State). tick_in s l port) g.registered
    ∙ rw (ticked-on l.watchdog (omega arith), ne_eqb l.watchdog.left 1 (omega arith))

pub gate-fires : GateFires
unfolding GateFires tick_periodic gated
gate-fires l port g =
    let d = g.due in
    watched-tick l port 0 g ∙ rw (ticked-on l.periodic (omega arith), eq-eqb l.periodic.left 1 g.due, g.registered)

-- a tick before the last sends nothing
abbrev passed : Link → Link
passed l = with_periodic (with_watchdog l (record { left = l.watchdog.left - 1 })) (record { left = l.periodic.left - 1 })

gate-waits : (n : ℕ) (l : Link) (port : ℕ) → Gates (suc (suc n)) l → tick_of l port ≡ still (passed l)
unfolding tick_periodic
gate-waits n l port g =
    let d = g.due in
    watched-tick l port (suc n) g ∙ rw (ticked-on l.periodic (omega arith), ne_eqb l.periodic.left 1 (omega arith))

passed-gates : (n : ℕ) (l : Link) → Gates (suc (suc n)) l → Gates (suc n) (passed l)
passed-gates n l g =
    let d = g.due in
    let w = g.watched in
    record { registered = g.registered; due = omega arith; watched = omega arith }

-- after the last the timer has its whole setting
last-again : (l : Link) → Gates 1 l → 1 + periodic < l.watchdog.left → Gates periodic (restarted l)
last-again l g w = record { registered = g.registered; due = refl; watched = omega arith }

-- the ticks after one tick
ticks-after : (k : ℕ) (l m : Link) (port : ℕ) → (tick_of l port).link ≡ m → ticks_on (suc k) l port ≡ ticks_on k m port
ticks-after k l m port e = ap (λ (x : Link). ticks_on k x port) e

pub gate-comes : GateComes
unfolding GateComes GateFires
gate-comes zero l port g =
    let e = gate-fires l port g in
    record {
      silent = λ k h. absurd (omega arith);
      fires = ap (λ (s : Stepped). s.sent) e;
      again = λ w. rw (ticks-after 0 l (restarted l) port (ap (λ (s : Stepped). s.link) e)) (last-again l g w);
    }
gate-comes (suc n) l port g =
    let e = gate-waits n l port g in
    let on : (k : ℕ) → ticks_on (suc k) l port ≡ ticks_on k (passed l) port = λ k. ticks-after k l (passed l) port (ap (λ (s : Stepped). s.link) e) in
    let c = gate-comes n (passed l) port (passed-gates n l g) in
    record {
      silent = silent-from (ap (λ (s : Stepped). s.sent) e) on c;
      fires = rw (on n) c.fires;
      again = λ w. rw (on (suc n)) (c.again (omega arith));
    }
  where
    silent-from : (tick_of l port).sent ≡ None → ((k : ℕ) → ticks_on (suc k) l port ≡ ticks_on k (passed l) port) → Comes n (passed l) port
        → (k : ℕ) → k < suc n → (tick_of (ticks_on k l port) port).sent ≡ None
    silent-from e on c zero h = e
    silent-from e on c (suc k) h = rw (on k) (c.silent k (omega arith))

-- in the table: what a link sends is among what all send
among_first : (m : Message) (ms ns : List Message) → ms ≡ m ∷ [] → Among m (ms ++ ns)
among_first m ms ns e = record { before = []; after = ns; stands = rw e }

among_later : (m : Message) (ms ns : List Message) → Among m ns → Among m (ms ++ ns)
among_later m ms ns a =
    record { before = ms ++ a.before; after = a.after; stands = rw a.stands (sym (append_assoc ms a.before (m ∷ a.after))) }

tick-among : (s : Sender) (m : Message) (n k : ℕ) (xs : List Link) → Has k xs n → sent_by s (tick_of (link_from n k xs) (port_of n)).sent ≡ m ∷ []
    → Among m (link_frames Event.Tick s k xs)
tick-among s m n k [] has e = absurd (omega arith)
tick-among s m n k (x ∷ xs) has e =
    ⊎_elim
    (λ (t : eqb k n ≡ true). among_first m (sent_by s (tick_of x (port_of k)).sent) (link_frames Event.Tick s (suc k) xs) (rw (eqb-true k n t) (rw t at e)))
    (λ (t : eqb k n ≡ false).
    let d : k ≢ n = eqb-false k n t in
    among_later m (sent_by s (tick_of x (port_of k)).sent) (link_frames Event.Tick s (suc k) xs) (tick-among s m n (suc k) xs (omega arith, omega arith) (rw t at e)))
    (decided (eqb k n))

pub gate-sent : GateSent
unfolding GateSent GateFires
gate-sent h xs os n d g =
    let l = link_from n 1 xs in
    let e = gate-fires l (port_of n) g in
    let has = held-has n 1 xs (rw g.registered) in
    let p = (call-accepted h xs Call.Tick os d).plan in (
      tick-links h xs os d n ∙ ap (λ (s : Stepped). s.link) e,
      rw p
          (tick-among (from (head_tick h)) (message_of (from (head_tick h)) l.address (Gate None)) n 1 xs has
          (ap (λ (s : Stepped). sent_by (from (head_tick h)) s.sent) e)),
    )
