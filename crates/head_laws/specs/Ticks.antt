-- Lemmas: R188 and R189: a tick as a whole, and what it makes of a link whose wait or watchdog ends.
-- Assumes nothing.
use Rattle.std.specs.Prelude.{ℕ, suc, ◌≡◌, refl, true, List, [], ◌∷◌, eqb, length}
use Rattle.std.proofs.Math.Path.{ap}
use Rattle.std.proofs.Common.{◌∙◌, eqb-true}
use Rattle.laws.specs.Cases.{either}
use Rattle.clock.specs.Timers.{ticked}
use Rattle.frame.specs.declared.Reply.TheVariants.{Done}
use Rattle.head_state.specs.Head.{tick_of as head_tick}
use Rattle.head_state.specs.declared.Head.{Head}
use Rattle.lent.specs.Folds.{places}
use Rattle.head_links.specs.Steps.{deregistered}
use Rattle.head_links.specs.Tick.{tick_wait, tick_watchdog, tick_in, tick_of}
use Rattle.head_links.specs.declared.Link.{Link}
use Rattle.head_links.specs.declared.State.{State}
use Rattle.head_links.specs.declared.State.TheVariants.{Waiting, Registered}
use Rattle.head_survey.specs.Facts.{link_from}
use Rattle.head_table.specs.Events.{port_of, reacted, driven_of}
use Rattle.head_table.specs.declared.Event.{Event}
use Rattle.head_plans.specs.declared.Plan.{Plan}
use Rattle.head_judging.specs.declared.Call.{Call}
use Rattle.head_calls.specs.Serve.{done_of, plan_of, serve_of}
use Rattle.head_laws.specs.Calls.{planned, known}
use Rattle.head_laws.specs.Refusals.{call-accepted}

tick-link : (n k : ℕ) (xs : List Link) → link_from n k (places (reacted Event.Tick) k xs) ≡ (tick_of (link_from n k xs) (port_of n)).link
unfolding places
tick-link n k [] = refl
tick-link n k (x ∷ xs) =
    either (λ (l : Link). l ≡ (tick_of (link_from n k (x ∷ xs)) (port_of n)).link) (eqb k n) _ _
    (λ t. rw (t, eqb-true k n t))
    (λ t. tick-link n (suc k) xs ∙ rw t)

module _ (h : Head) (xs : List Link) (os : List ℕ) (d : (serve_of h xs Call.Tick os).answer.reply ≡ Done) where
  tick-plan : plan_of h xs Call.Tick (length os) ≡ planned Call.Tick h (known xs Call.Tick)
  tick-plan = (call-accepted h xs Call.Tick os d).plan

  -- a tick that is done moves the head's count and window
  pub tick-head : (serve_of h xs Call.Tick os).answer.next ≡ head_tick h
  unfolding serve_of done_of
  tick-head = ap (λ (p : Plan). p.head) tick-plan

  -- and every link
  pub tick-links : (n : ℕ) → link_from n 1 (serve_of h xs Call.Tick os).table ≡ (tick_of (link_from n 1 xs) (port_of n)).link
  unfolding serve_of done_of
  tick-links n = ap (λ (p : Plan). link_from n 1 (driven_of p.event xs)) tick-plan ∙ tick-link n 1 xs

-- a wait that runs out deregisters the link, and that is all
pub wait-out : (l : Link) (port : ℕ) → l.state ≡ Waiting → (ticked l.wait).rang ≡ true → tick_of l port ≡ deregistered l port
unfolding tick_wait
wait-out l port e t = ap (λ (s : State). tick_in s l port) e ∙ rw t

-- so does a watchdog: no periodic GATE is sent in that tick
pub watchdog-out : (l : Link) (port : ℕ) → l.state ≡ Registered → (ticked l.watchdog).rang ≡ true → tick_of l port ≡ deregistered l port
unfolding tick_watchdog
watchdog-out l port e t = ap (λ (s : State). tick_in s l port) e ∙ rw t
