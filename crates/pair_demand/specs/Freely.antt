-- Statement: an end that may be made fresh again at any time of a run, and that may hear a frame changed on its way in what no law looks at (R203).
-- Assumes nothing.
use Rattle.std.specs.Prelude.{[]}
use Rattle.pair_demand.specs.Run.{Answer, End}
use Rattle.pair_demand.specs.Face.{Face, through}

module _ {In Out : Type 0} (E : End In Out) (Change : Type 0) (changed : Change → In → In) where
  pub data FreeCall : Type 0 where
    given : E.Call → FreeCall
    again : (s : E.State) → E.Fresh s → FreeCall

  abbrev pub FreeFair : FreeCall → Type 0
  FreeFair (given c) = E.Fair c
  FreeFair (again s f) = Unit {0}

  -- frames that it has handed out are still on their way
  abbrev pub free_call : E.State → FreeCall → Answer E.State Out
  free_call s (given c) = E.call s c
  free_call s (again t f) = record { reply = 0; next = t; sent = [] }

  abbrev pub Free : Face E
  Free =
      record {
        State = E.State;
        Call = FreeCall;
        Via = E.Via × Change;
        Lent = E.Lent;
        stands = λ s. s;
        Fresh = E.Fresh;
        Fair = FreeFair;
        call = free_call;
        hear = λ s v f. E.hear s v.0 (changed v.1 f);
        tick = E.tick;
        Held = E.Held;
        Registered = E.Registered;
        Waiting = E.Waiting;
      }

  abbrev pub Freely : End In Out
  Freely = through Free
