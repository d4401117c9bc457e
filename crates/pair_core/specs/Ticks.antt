-- Statement: that no tick is refused (R199) asks nothing of the code of head and box, only that the head's caller lends enough room.
-- Assumes nothing.
use Rattle.std.specs.Prelude.{ℕ, ◌*◌, ◌≤◌, List, length}
use Rattle.frame.specs.declared.Address.{Address}
use Rattle.pair_demand.specs.Run.{both-tick, Allowed, Span, last}
use Rattle.pair_box.specs.End.{BoxEnd}
use Rattle.pair_head.specs.End.{HeadEnd}

-- at the end of every span, and so at every moment of every run from a fresh start, since each is the end of one: a tick of both is done,
-- if it lends the head sixty octets for each link that the start lent it
unfoldable pub NoTickRefused : Type 0
NoTickRefused =
    (A : Address) (D : ℕ) (x : Span (HeadEnd A) (BoxEnd A) D) (out : List ℕ) → 60 * length x.start.head.table ≤ length out
    → Allowed (HeadEnd A) (BoxEnd A) D (last (HeadEnd A) (BoxEnd A) x) (both-tick out tt)
