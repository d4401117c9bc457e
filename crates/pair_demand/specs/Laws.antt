-- Lemmas: what each end must supply for the pair theorem: the laws of its definitions, one call at a time.
-- Assumes nothing.
use Rattle.std.specs.Prelude.{◌≡◌, Bool, false, List, [], ◌∷◌, ℕ, ◌+◌, ◌≤◌}
use Rattle.pair_demand.specs.Run.{Answer, End}

abbrev pub All : {A : Type 0} → (A → Type 0) → List A → Type 0
All P [] = Unit {0}
All P (x ∷ xs) = P x × All P xs

-- Which states a run can reach (as much of it as the laws need), and the ticks left to a registered and to a waiting link.
pub record Gauge {In Out : Type 0} (E : End In Out) : Type 1 where
  pub Ok : E.State → Type 0
  pub dog : E.State → E.Place → ℕ
  pub wait : E.State → E.Place → ℕ

module _ {In Out : Type 0} (E : End In Out) (G : Gauge E) (Alive : E.State → Type 0) (lives : Out → Bool) where
  -- What one call does, at the least. loss: 1 for a tick, else 0. kept: the call heard a frame that may restart a watchdog.
  pub record Step (loss : ℕ) (kept : Bool) (s : E.State) (a : Answer E.State Out) : Type 0 where
    pub ok : G.Ok a.next
    -- a registered link was registered before, and has no more ticks left than before, less the loss
    pub dog-falls : kept ≡ false → (p : E.Place) → E.Registered a.next p → E.Registered s p × (loss + G.dog a.next p ≤ G.dog s p)
    -- a link that waits before and after has no more ticks left than before, less the loss
    pub wait-falls : (p : E.Place) → E.Waiting s p → E.Waiting a.next p → loss + G.wait a.next p ≤ G.wait s p
    -- an end that is not alive before nor after hands out no frame that may restart the other's watchdog
    pub silent : ¬ Alive s → ¬ Alive a.next → All (λ f. lives f ≡ false) a.sent

  pub record Laws (keeps : In → Bool) (W T : ℕ) : Type 0 where
    pub fresh_ok : (s : E.State) → E.Fresh s → G.Ok s
    pub dog-range : (s : E.State) → G.Ok s → (p : E.Place) → E.Registered s p → (1 ≤ G.dog s p) × (G.dog s p ≤ W)
    pub wait-range : (s : E.State) → G.Ok s → (p : E.Place) → E.Waiting s p → (1 ≤ G.wait s p) × (G.wait s p ≤ T)
    pub of-call : (s : E.State) (c : E.Call) → G.Ok s → E.Fair c → Step 0 false s (E.call s c)
    pub of-hear : (s : E.State) (v : E.Via) (f : In) → G.Ok s → Step 0 (keeps f) s (E.hear s v f)
    pub of-tick : (s : E.State) (l : E.Lent) → G.Ok s → (E.tick s l).reply ≡ 0 → Step 1 false s (E.tick s l)
