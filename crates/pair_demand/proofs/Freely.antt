-- An end has its laws still if it may be made fresh again, and hears frames that are changed in what no law looks at.
-- Assumes nothing.
use mathlib.Core.Path.{◌≡◌, refl, ◌∙◌}
use mathlib.Core.Bool.{Bool}
use Prim.Native.Nat.{ℕ}
use Rattle.pair_demand.specs.Run.{End}
use Rattle.pair_demand.specs.Laws.{Gauge, Laws}
use Rattle.pair_demand.specs.Faithful.{Does, does, begins, Faithful, hears}
use Rattle.pair_demand.specs.Freely.{FreeCall, given, again, FreeFair, free_call, Free, Freely}
use Rattle.pair_demand.proofs.Face.{gauge, laws-through}

module _ {In Out : Type 0} {E : End In Out} (Change : Type 0) (changed : Change → In → In) (G : Gauge E) (Alive : E.State → Type 0)
    (lives : Out → Bool) (keeps : In → Bool) {W T : ℕ} (L : Laws E G Alive lives keeps W T)
    (off : (s : E.State) → E.Fresh s → (p : E.Place) → (¬ E.Registered s p) × (¬ E.Waiting s p))
    (blind : (c : Change) (f : In) → keeps (changed c f) ≡ keeps f) where
  call-faithful : (s : E.State) (c : FreeCall E Change changed) → G.Ok s → FreeFair E Change changed c
      → Does (Free E Change changed) G.Ok s (free_call E Change changed s c)
  call-faithful s (given c) o f = does c f (record { good = (L.of-call s c o f).ok; reply = refl; next = refl; sent = refl })
  call-faithful s (again t f) o k = begins (L.fresh_ok t f) f refl

  faithful : Faithful (Free E Change changed) G.Ok keeps
  faithful =
      record {
        fresh = λ s f. (L.fresh_ok s f, f);
        of-call = call-faithful;
        of-hear =
            λ s v f o.
            hears v.0 (changed v.1 f) (λ e. blind v.1 f ∙ e)
            (record { good = (L.of-hear s v.0 (changed v.1 f) o).ok; reply = refl; next = refl; sent = refl });
        of-tick = λ s l o z. (l, record { good = (L.of-tick s l o z).ok; reply = refl; next = refl; sent = refl });
      }

  pub free-laws : Laws (Freely E Change changed) (gauge (Free E Change changed) G.Ok G Alive lives keeps) Alive lives keeps W T
  free-laws =
      laws-through (Free E Change changed) G.Ok G Alive lives keeps Alive (λ s o a. a)
      (record { held = λ s o p. (λ h. h, λ h. h); registered = λ s o p. (λ h. h, λ h. h); waiting = λ s o p. (λ h. h, λ h. h) })
      L (λ s o. o) off faithful
