-- Demand 3's numbers are exact at the head, a tick at a time: a head that is ready is not refused its tick, and a link loses one tick of its
-- wait or its watchdog, and nothing else, until the last.
-- Assumes nothing.
use Prim.Native.Nat.{ℕ, suc}
use mathlib.Core.Path.{◌≡◌, sym, ap, subst, ◌∙◌}
use mathlib.Core.List.{List}
use Rattle.frame.specs.declared.Address.{Address}
use Rattle.frame.specs.declared.Reply.TheVariants.{Done}
use Rattle.head_links.specs.Tick.{tick_in, tick_of}
use Rattle.head_links.specs.declared.Link.{Link}
use Rattle.head_links.specs.declared.State.{State}
use Rattle.head_links.specs.declared.State.TheVariants.{Idle, Waiting}
use Rattle.head_table.specs.Events.{port_of}
use Rattle.head_judging.specs.declared.Call.{Call}
use Rattle.head_calls.specs.Serve.{serve_of}
use Rattle.head_laws.specs.Events.{table-parts, found-sound}
use Rattle.head_laws.specs.Links.{held_at, holds_at}
use Rattle.head_laws.specs.Runs.{run_sound}
use Rattle.head_laws.specs.Steps.{tick-keeps}
use Rattle.head_laws.specs.Ticks.{tick-links}
use Rattle.pair_demand.specs.Run.{Holds}
use Rattle.pair_head.specs.End.{HeadState, link_at, asked, HeldLink, RegisteredLink, HeadEnd}
use Rattle.pair_head.proofs.Ready.{Ready, Taken, ready-done, ready-taken}
use Rattle.pair_head.proofs.Timers.{tick-waiting, tick-registered}

-- a link that is registered for A, or waits for it, with so many ticks left
abbrev pub RegisteredFor : Address → ℕ → Link → Type 0
RegisteredFor A left l = RegisteredLink A l × (l.watchdog.left ≡ left)

abbrev pub WaitingFor : Address → ℕ → Link → Type 0
WaitingFor A left l = (l.state ≡ Waiting) × (l.address ≡ A) × (l.wait.left ≡ left)

module _ {out : List ℕ} {s : HeadState} (y : Ready out s) where
  abbrev ticked : HeadState
  ticked = (asked s Call.Tick out).next

  tick-done : (serve_of s.head s.table Call.Tick out).answer.reply ≡ Done
  tick-done = ready-done y Call.Tick tt

  -- the tick is not refused
  pub ready-tick : Taken out (asked s Call.Tick out)
  ready-tick = ready-taken y Call.Tick tick-done

  link-ticked : (n : ℕ) → link_at ticked n ≡ (tick_of (link_at s n) (port_of n)).link
  link-ticked = tick-links s.head s.table out tick-done

  -- a registered link stays, with a tick less
  pub registered-ticks : (A : Address) (n left : ℕ) → RegisteredFor A (suc (suc left)) (link_at s n)
      → RegisteredFor A (suc left) (link_at ticked n)
  registered-ticks A n left r =
      let t = tick-registered (link_at s n) (port_of n) left r.0.0 r.1 in
      subst (RegisteredFor A (suc left)) (sym (link-ticked n)) ((t.state, t.address ∙ r.0.1), t.left)

  -- so does a waiting one
  pub waiting-ticks : (A : Address) (n left : ℕ) → WaitingFor A (suc (suc left)) (link_at s n)
      → WaitingFor A (suc left) (link_at ticked n)
  waiting-ticks A n left w =
      let t = tick-waiting (link_at s n) (port_of n) left w.0 w.2 in
      subst (WaitingFor A (suc left)) (sym (link-ticked n)) (t.state, t.address ∙ w.1, t.left)

  -- an idle one stays idle
  pub idle-ticks : (n : ℕ) → (link_at s n).state ≡ Idle → (link_at ticked n).state ≡ Idle
  idle-ticks n e =
      ap (λ (l : Link). l.state) (link-ticked n)
      ∙ ap (λ (x : State). (tick_in x (link_at s n) (port_of n)).link.state) e
      ∙ e

  -- and a head that holds no link for A holds none
  pub none-ticks : (A : Address) → ¬ Holds (HeadEnd A) s → ¬ Holds (HeadEnd A) ticked
  none-ticks A off h =
      let n = h.0 in
      let l = link_at s n in
      let m = (tick_of l (port_of n)).link in
      let k = subst (λ (x : Link). HeldLink A x) (link-ticked n) h.1 in
      let sound = found-sound n 1 s.table (table-parts s.table (run_sound y.ok).table).1 in
      off (n, held_at A l ((tick-keeps l (port_of n) sound).within A (holds_at A m k.0 k.1)))
