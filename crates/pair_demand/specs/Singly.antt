-- Lemmas: what an end must have so that its advances are its single ticks.
-- Assumes nothing.
use Rattle.std.specs.Prelude.{◌≡◌, [], ℕ, zero, suc}
use Rattle.pair_demand.specs.Run.{Answer, End}
use Rattle.pair_demand.specs.Faithful.{Same}

module _ {In Out : Type 0} (E : End In Out) where
  -- before the first tick nothing is handed out
  abbrev pub untold : E.State → Answer E.State Out
  untold s = record { reply = 0; next = s; sent = [] }

  -- a state that tells of its links what another does
  pub record Alike (s t : E.State) : Type 0 where
    pub held : (p : E.Place) → Same (E.Held s p) (E.Held t p)
    pub registered : (p : E.Place) → Same (E.Registered s p) (E.Registered t p)
    pub waiting : (p : E.Place) → Same (E.Waiting s p) (E.Waiting t p)

  -- What k single ticks are that follow an answer a, of which the last is answered b: each is done and lent the same, and is made of a state
  -- that is like the first; the ones before the last hand out nothing.
  abbrev pub Singly : (E.State → Type 0) → E.Lent → ℕ → Answer E.State Out → Answer E.State Out → Type 0
  Singly Like l zero a b = a ≡ b
  Singly Like l (suc k) a b =
      Like a.next × (a.sent ≡ []) × ((E.tick a.next l).reply ≡ 0) × Singly Like l k (E.tick a.next l) b
