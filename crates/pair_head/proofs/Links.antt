-- Demand 3 at the head, of one link: what a change or a tick makes of its watchdog and its wait, and what it sends to the box.
-- Assumes nothing.
use Rattle.std.proofs.Common.{Option, None, Some}
use Prim.Native.Nat.{ℕ, zero, suc, ◌+◌, ◌≤◌}
use mathlib.Core.Path.{◌≡◌, refl, sym, ap, subst, ◌∙◌}
use mathlib.Core.Bool.{Bool, true, false, true≢false, false≢true}
use mathlib.Core.Logic.{⊎_elim}
use native.Mathlib.Omega.{arith}
use Rattle.frame.specs.declared.Body.{Body}
use Rattle.laws.specs.Cases.{either}
use Rattle.clock.specs.Laws.{runs-in, ticked-rings}
use Rattle.clock.specs.Numbers.{watchdog, wait}
use Rattle.frame.specs.declared.Address.{Address}
use Rattle.frame.specs.declared.Body.TheVariants.{Gate}
use Rattle.frame.specs.declared.Grants.{Grants}
use Rattle.frame.specs.declared.Grants.TheVariants.{None}
use Rattle.head_links.specs.Link.{idle, is_held, is_registered}
use Rattle.head_links.specs.Sound.{sound_of}
use Rattle.head_links.specs.Steps.{still, deregistered, gated, change_of}
use Rattle.head_links.specs.Tick.{tick_in, tick_of}
use Rattle.head_links.specs.declared.Change.{Change}
use Rattle.head_links.specs.declared.Link.{Link}
use Rattle.head_links.specs.declared.State.{State}
use Rattle.head_links.specs.declared.State.TheVariants.{Idle, Waiting, Registered}
use Rattle.head_links.specs.declared.Stepped.{Stepped}
use Rattle.head_laws.specs.Links.{sound-in, waiting-parts, registered-parts}
use Rattle.head_laws.specs.Ticks.{wait-out, watchdog-out}
use Rattle.pair_wire.specs.Restarts.{restarts_box}
use Rattle.pair_head.specs.End.{HeldLink, RegisteredLink}
use Rattle.pair_head.proofs.Timers.{tick-waiting, tick-registered}

-- no link is in two states
idle-registered : Idle ≡ Registered → ⊥
idle-registered e = false≢true (ap is_registered e)

waiting-registered : Waiting ≡ Registered → ⊥
waiting-registered e = false≢true (ap is_registered e)

idle-waiting : Idle ≡ Waiting → ⊥
idle-waiting e = false≢true (ap is_held e)

module _ (A : Address) where
  -- a frame that restarts no watchdog at A
  abbrev pub Quiet : Option (Address × Body) → Type 0
  Quiet None = Unit {0}
  Quiet (Some (a, body)) = a ≡ A → restarts_box body ≡ false

  -- m in the place of l: a registered link was registered, and neither timer has more ticks left than before, less the loss
  pub record Falls (loss : ℕ) (kept : Bool) (l m : Link) : Type 0 where
    pub dog : kept ≡ false → RegisteredLink A m → RegisteredLink A l × (loss + m.watchdog.left ≤ l.watchdog.left)
    pub wait : l.state ≡ Waiting → m.state ≡ Waiting → loss + m.wait.left ≤ l.wait.left

  -- and only a link that is held for A sends such a frame
  pub record Behaves (loss : ℕ) (kept : Bool) (l : Link) (x : Stepped) : Type 0 where
    pub falls : Falls loss kept l x.link
    pub quiet : ¬ HeldLink A x.link → Quiet x.sent

  -- an idle link has no timer
  pub falls-idle : {loss : ℕ} {kept : Bool} (l : Link) → Falls loss kept l idle
  falls-idle l = record { dog = λ k r. absurd (idle-registered r.0); wait = λ w v. absurd (idle-waiting v) }

  pub still-behaves : {kept : Bool} (l : Link) → Behaves 0 kept l (still l)
  still-behaves l = record { falls = record { dog = λ k r. (r, omega arith); wait = λ w v. omega arith }; quiet = λ n. tt }

  dropped : {loss : ℕ} {kept : Bool} (l : Link) (port : ℕ) → Behaves loss kept l (deregistered l port)
  dropped l port = record { falls = falls-idle l; quiet = λ n e. refl }

  -- what a change asks of the link that it is made of; a message that starts or restarts a watchdog counts as kept, or is not A's
  abbrev pub May : Bool → Change → Link → Type 0
  May kept (Change.Admit a pending sync) l = is_held l.state ≡ false
  May kept (Change.Reregister sync) l = is_registered l.state ≡ true
  May kept Change.Deregister l = Unit {0}
  May kept (Change.Gate grants) l = is_held l.state ≡ true
  May kept Change.Register l = kept ≡ false → ¬ (l.address ≡ A)
  May kept Change.Report l = kept ≡ false → ¬ (l.address ≡ A)

  gated-behaves : {kept : Bool} (l : Link) (grants : Grants) → is_held l.state ≡ true → Behaves 0 kept l (gated l grants)
  unfolding gated
  gated-behaves {kept} l grants i =
      either (Behaves 0 kept l) (is_registered l.state) _ _
      (λ _. record { falls = record { dog = λ k r. (r, omega arith); wait = λ w v. omega arith }; quiet = λ n e. absurd (n (i, e)) })
      (λ _. record { falls = record { dog = λ k r. (r, omega arith); wait = λ w v. omega arith }; quiet = λ n e. absurd (n (i, e)) })

  pub change-behaves : {kept : Bool} (c : Change) (l : Link) (port : ℕ) → May kept c l → Behaves 0 kept l (change_of c l port)
  change-behaves (Change.Admit a pending sync) l port m =
      record {
        falls =
            record {
              dog = λ k r. absurd (waiting-registered r.0);
              wait = λ w v. absurd (true≢false (sym (ap is_held w) ∙ m));
            };
        quiet = λ n e. absurd (n (refl, e));
      }
  change-behaves (Change.Reregister sync) l port m =
      record {
        falls =
            record {
              dog = λ k r. absurd (waiting-registered r.0);
              wait = λ w v. absurd (false≢true (sym (ap is_registered w) ∙ m));
            };
        quiet = λ n e. absurd (n (refl, e));
      }
  change-behaves Change.Deregister l port m = dropped l port
  change-behaves (Change.Gate grants) l port m = gated-behaves l grants m
  change-behaves Change.Register l port m =
      record {
        falls = record { dog = λ k r. absurd (m k r.1); wait = λ w v. absurd (waiting-registered (sym v)) };
        quiet = λ n e. absurd (n (refl, e));
      }
  change-behaves Change.Report l port m =
      record { falls = record { dog = λ k r. absurd (m k r.1); wait = λ w v. omega arith }; quiet = λ n. tt }

  -- a tick, by the ticks left
  wait-behaves : (l : Link) (port left : ℕ) → l.state ≡ Waiting → l.wait.left ≡ left → 1 ≤ left → Behaves 1 false l (tick_of l port)
  wait-behaves l port zero e w o = absurd (omega arith)
  wait-behaves l port (suc zero) e w o =
      subst (λ (x : Stepped). Behaves 1 false l x) (sym (wait-out l port e (ticked-rings l.wait w))) (dropped l port)
  wait-behaves l port (suc (suc n)) e w o =
      let t = tick-waiting l port n e w in
      record {
        falls =
            record {
              dog = λ k r. absurd (waiting-registered (sym t.state ∙ r.0));
              wait = λ u v. omega (arith, t.left, w);
            };
        quiet = λ k. subst Quiet (sym t.sent) tt;
      }

  watchdog-behaves : (l : Link) (port left : ℕ) → l.state ≡ Registered → l.watchdog.left ≡ left → 1 ≤ left
      → Behaves 1 false l (tick_of l port)
  watchdog-behaves l port zero e w o = absurd (omega arith)
  watchdog-behaves l port (suc zero) e w o =
      subst (λ (x : Stepped). Behaves 1 false l x) (sym (watchdog-out l port e (ticked-rings l.watchdog w))) (dropped l port)
  watchdog-behaves l port (suc (suc n)) e w o =
      let t = tick-registered l port n e w in
      let x = tick_of l port in
      record {
        falls =
            record {
              dog = λ k r. ((e, sym t.address ∙ r.1), omega (arith, t.left, w));
              wait = λ u v. absurd (waiting-registered (sym u ∙ e));
            };
        quiet =
            λ k.
            ⊎_elim (λ (s : x.sent ≡ None). subst Quiet (sym s) tt)
            (λ (s : x.sent ≡ Some (l.address, Gate None)).
            subst Quiet (sym s) (λ q. absurd (k (ap is_held t.state, t.address ∙ q))))
            t.sent;
      }

  tick-in : (s : State) (l : Link) (port : ℕ) → l.state ≡ s → sound_of l ≡ true → Behaves 1 false l (tick_of l port)
  tick-in Idle l port e h =
      subst (λ (s : State). Behaves 1 false l (tick_in s l port)) (sym e)
      (record {
        falls =
            record {
              dog = λ k r. absurd (idle-registered (sym e ∙ r.0));
              wait = λ w v. absurd (idle-waiting (sym e ∙ w));
            };
        quiet = λ n. tt;
      })
  tick-in Waiting l port e h =
      wait-behaves l port l.wait.left e refl (runs-in l.wait wait (waiting-parts l (sound-in l Waiting e h)).1).0
  tick-in Registered l port e h =
      watchdog-behaves l port l.watchdog.left e refl (runs-in l.watchdog watchdog (registered-parts l (sound-in l Registered e h)).2).0

  pub tick-behaves : (l : Link) (port : ℕ) → sound_of l ≡ true → Behaves 1 false l (tick_of l port)
  tick-behaves l port h = tick-in l.state l port refl h
