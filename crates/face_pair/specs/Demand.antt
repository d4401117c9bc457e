-- Statement: demand 3 of the words that a C program holds, and what it rests on. `NoHalfOpen` is on the page Run of pair_demand.
-- Assumes nothing.
use Rattle.std.specs.Prelude.{ℕ, ◌*◌, ◌≤◌, List, ◌≢◌, length}
use Rattle.clock.specs.Numbers.{watchdog, wait}
use Rattle.frame.specs.declared.Address.{Address}
use Rattle.pair_demand.specs.Run.{both-tick, Allowed, Span, last, NoHalfOpen}
use Rattle.face_head.specs.Table.{links_in}
use Rattle.face_pair.specs.Advances.{BoxAsked, HeadAsked, BoxAdvances, HeadAdvances}
use Rattle.face_pair.specs.Box as box
use Rattle.face_pair.specs.Box.{BoxWords}
use Rattle.face_pair.specs.Head as head
use Rattle.face_pair.specs.Head.{HeadWords}

-- Head and box are words in a C program's memory, and each call is one of the C face, over the words that the last one left. Either may be
-- made fresh again at any time, in any memory, while frames are on their way, and be lent in other memory from one call to the next. A frame is
-- heard as it was handed out but for its timestamp, which may be any.
-- R200: where for D + 62,500,000 ticks on end no link's words have A and a state other than idle, word 2 of the box's block isn't 3 when
-- they are over. R201: where it isn't 3 for as long, no link's words then have A and registered. R202: word 2 of the block is 2, and a
-- link's state 1, for no more than 3,125,000 ticks: the last of them ends the wait.
unfoldable pub WordsDemand3 : Type 0
WordsDemand3 = (A : Address) (D : ℕ) → NoHalfOpen (HeadWords A) (BoxWords A) D watchdog wait

-- no tick is refused, at the end of every span, that lends what the header says: sixty octets for each link that the words hold, 10 words for
-- what the head tells; 120 octets for the box's frames, 19 words for what it tells
unfoldable pub WordsTicks : Type 0
WordsTicks =
    (A : Address) (D : ℕ) (x : Span (HeadWords A) (BoxWords A) D) (h : head.Lent) (b : box.Lent)
    → 60 * links_in (length (last (HeadWords A) (BoxWords A) x).head.links) ≤ length h.output → 10 ≤ length h.reply
    → 120 ≤ length b.frames → 19 ≤ length b.reply
    → Allowed (HeadWords A) (BoxWords A) D (last (HeadWords A) (BoxWords A) x) (both-tick h b)

-- no call is answered 13, at the end of every span, whatever it asks, hears or lends
pub record NeverUnsound (A : Address) (w : head.Words) (block : List ℕ) : Type 0 where
  pub head-asks : (c : head.Asked) → ((HeadWords A).call w c).reply ≢ 13
  pub head-hears : (v : head.Heard) (os : List ℕ) → ((HeadWords A).hear w v os).reply ≢ 13
  pub head-ticks : (l : head.Lent) → ((HeadWords A).tick w l).reply ≢ 13
  pub box-asks : (c : box.Asked A) → ((BoxWords A).call block c).reply ≢ 13
  pub box-hears : (v : box.Heard) (os : List ℕ) → ((BoxWords A).hear block v os).reply ≢ 13
  pub box-ticks : (l : box.Lent) → ((BoxWords A).tick block l).reply ≢ 13
  pub head-advances : (q : HeadAsked) → ((HeadAdvances A).advance w q).reply ≢ 13
  pub box-advances : (q : BoxAsked) → ((BoxAdvances A).advance block q).reply ≢ 13

unfoldable pub WordsSound : Type 0
WordsSound =
    (A : Address) (D : ℕ) (x : Span (HeadWords A) (BoxWords A) D)
    → NeverUnsound A (last (HeadWords A) (BoxWords A) x).head (last (HeadWords A) (BoxWords A) x).box
