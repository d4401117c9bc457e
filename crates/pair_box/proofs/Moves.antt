-- What a step of the box must leave of the registration, and what it may send, for the pair's laws.
-- Assumes nothing.
use Rattle.std.proofs.Common.{Option, None, Some}
use Prim.Native.Nat.{ℕ, ◌+◌, ◌≤◌}
use mathlib.Core.Path.{◌≡◌, refl, sym, ap, subst, ◌∙◌}
use mathlib.Core.Bool.{Bool, false, false≢true}
use native.Mathlib.Omega.{arith}
use Rattle.frame.specs.declared.Body.{Body}
use Rattle.box_registration.specs.Registration.{is_registered}
use Rattle.box_registration.specs.declared.Registration.{Registration}
use Rattle.box_registration.specs.declared.State.{State}
use Rattle.box_registration.specs.declared.State.TheVariants.{Wait, Registering, RegisterReq, Registered}
use Rattle.box_processes.specs.declared.Step.{Step}
use Rattle.pair_wire.specs.Restarts.{restarts_head}

-- nothing that restarts a watchdog of the head
abbrev pub Mute : Option Body → Type 0
Mute None = Unit {0}
Mute (Some body) = restarts_head body ≡ false

-- from r to t, with what is sent first and second; loss and kept as in the laws
pub record Moves (loss : ℕ) (kept : Bool) (r t : Registration) (first second : Option Body) : Type 0 where
  pub dog : kept ≡ false → t.state ≡ Registered → (r.state ≡ Registered) × (loss + t.watchdog.left ≤ r.watchdog.left)
  pub wait : r.state ≡ RegisterReq → t.state ≡ RegisterReq → loss + t.wait.left ≤ r.wait.left
  pub mute : ¬ (r.state ≡ Registered) → ¬ (t.state ≡ Registered) → Mute first × Mute second

abbrev pub MovedBy : ℕ → Bool → Registration → Step → Type 0
MovedBy loss kept r s = Moves loss kept r s.next.registration s.first s.second

-- the states that run no timer
abbrev pub Idle : State → Type 0
Idle Wait = Unit {0}
Idle Registering = Unit {0}
Idle RegisterReq = ⊥
Idle Registered = ⊥

pub idle-unregistered : (t : State) → Idle t → is_registered t ≡ false
idle-unregistered Wait i = refl
idle-unregistered Registering i = refl
idle-unregistered RegisterReq i = absurd i
idle-unregistered Registered i = absurd i

module _ {kept : Bool} {r t : Registration} {first second : Option Body} where
  -- a step that ends in one of them
  pub gone : {loss : ℕ} → Idle t.state → (¬ (r.state ≡ Registered) → Mute first × Mute second)
      → Moves loss kept r t first second
  gone i m = record { dog = λ _ h. absurd (subst Idle h i); wait = λ _ h. absurd (subst Idle h i); mute = λ n _. m n }

  -- one that begins in one of them, and doesn't end in REGISTERED
  pub unheld : {loss : ℕ} → Idle r.state → is_registered t.state ≡ false → Mute first → Mute second
      → Moves loss kept r t first second
  unheld i e f g =
      record {
        dog = λ _ h. absurd (false≢true (sym e ∙ ap is_registered h));
        wait = λ h _. absurd (subst Idle h i);
        mute = λ _ _. (f, g);
      }

  -- one that ends in REGISTERED, on a message that may restart the watchdog
  pub full : ¬ (kept ≡ false) → t.state ≡ Registered → Moves 0 kept r t first second
  full k e =
      record {
        dog = λ n _. absurd (k n);
        wait = λ _ h. absurd (false≢true (ap is_registered (sym h ∙ e)));
        mute = λ _ n. absurd (n e);
      }

  -- one that leaves the registration as it was, and sends nothing
  pub stays : t ≡ r → Mute first → Mute second → Moves 0 kept r t first second
  stays e f g =
      record {
        dog = λ _ h. (rw e at h, rw e (omega arith));
        wait = λ _ _. rw e (omega arith);
        mute = λ _ _. (f, g);
      }

  -- one in REGISTERED that leaves wait and watchdog as they were, whatever it sends
  pub speaks : r.state ≡ Registered → t.wait ≡ r.wait → t.watchdog ≡ r.watchdog → Moves 0 kept r t first second
  speaks e w d =
      record {
        dog = λ _ _. (e, rw d (omega arith));
        wait = λ _ _. rw w (omega arith);
        mute = λ n _. absurd (n e);
      }
