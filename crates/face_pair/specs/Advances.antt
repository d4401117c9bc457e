-- Statement: a C program that advances head and box by several ticks in one call each: its calls are a run of single ticks of both, and demand 3
-- holds of the words that it sees. How a program is read as a run is on the page Advance of pair_demand.
-- Assumes nothing.
use Rattle.std.specs.Prelude.{ℕ, ◌+◌, ◌*◌, ◌≤◌, ◌≡◌, true, List, length, get_or}
use Rattle.clock.specs.Numbers.{watchdog, wait, is_in_reach}
use Rattle.frame.specs.declared.Address.{Address}
use Rattle.frame_range.specs.Fits.{is_individual}
use Rattle.face_head.specs.Table.{links_in}
use Rattle.pair_demand.specs.Run.{Span, last}
use Rattle.pair_demand.specs.Advance.{Advance, Step, Runs, Reads, BoxDropsSeen, HeadDropsSeen, BoxWaitsSeen, HeadWaitsSeen, NoHalfOpenSeen}
use Rattle.face_box_calls.specs.Calls as boxface
use Rattle.face_head_calls.specs.Calls as headface
use Rattle.face_pair.specs.Box as box
use Rattle.face_pair.specs.Box.{BoxWords}
use Rattle.face_pair.specs.Head as head
use Rattle.face_pair.specs.Head.{HeadWords}

-- what an advance is handed beside the words: the number of ticks, what it lends as a tick does, and the memory for the number made
pub record BoxAsked : Type 0 where
  pub ticks : ℕ
  pub lent : box.Lent
  pub made : List ℕ

pub record HeadAsked : Type 0 where
  pub ticks : ℕ
  pub lent : head.Lent
  pub made : List ℕ

abbrev pub box_advance : List ℕ → BoxAsked → boxface.AdvanceLeft
box_advance block q = boxface.advance_call q.ticks block q.lent.frames q.lent.reply q.made

abbrev pub head_advance : head.Words → HeadAsked → headface.AdvanceLeft
head_advance w q = headface.advance_call q.ticks w.head w.links q.lent.output q.lent.reply q.made

-- the first word of `made` is how many ticks were made
module _ (A : Address) where
  abbrev pub BoxAdvances : Advance (BoxWords A)
  BoxAdvances =
      record {
        Asked = BoxAsked;
        advance = λ block q. box.answered (box_advance block q).call;
        made = λ block q. get_or (box_advance block q).made 0 0;
        lent = λ q. q.lent;
      }

  abbrev pub HeadAdvances : Advance (HeadWords A)
  HeadAdvances =
      record {
        Asked = HeadAsked;
        advance = λ w q. head.answered (head_advance w q).call;
        made = λ w q. get_or (head_advance w q).made 0 0;
        lent = λ q. q.lent;
      }

  -- what such a program does
  abbrev pub WordsStep : Type 0
  WordsStep = Step (HeadWords A) (BoxWords A) HeadAdvances BoxAdvances

-- From the end of every span: a list of events and of advances, each call answered 0 and both ends advanced by as many ticks, is a run of
-- single events. Its words at the end are those of the run, and it makes as many ticks.
unfoldable pub WordsAdvance : Type 0
WordsAdvance =
    (A : Address) (D : ℕ) (x : Span (HeadWords A) (BoxWords A) D) (steps : List (WordsStep A))
    → Runs (HeadWords A) (BoxWords A) (HeadAdvances A) (BoxAdvances A) D (last (HeadWords A) (BoxWords A) x) steps
    → Reads (HeadWords A) (BoxWords A) (HeadAdvances A) (BoxAdvances A) D (last (HeadWords A) (BoxWords A) x) steps

-- So demand 3 holds of programs that advance: what it asks of every moment need only be so of the words that the program sees, between its
-- calls.
unfoldable pub WordsAdvanceDemand3 : Type 0
WordsAdvanceDemand3 = (A : Address) (D : ℕ) → NoHalfOpenSeen (HeadWords A) (BoxWords A) (HeadAdvances A) (BoxAdvances A) D watchdog wait

-- and its numbers are exact of them too: with one tick less each claim is false
pub record OneTickLessSeen (A : Address) (D : ℕ) : Type 0 where
  pub box-drops : ¬ BoxDropsSeen (HeadWords A) (BoxWords A) (HeadAdvances A) (BoxAdvances A) D (D + 62_499_999)
  pub head-drops : ¬ HeadDropsSeen (HeadWords A) (BoxWords A) (HeadAdvances A) (BoxAdvances A) D (D + 62_499_999)
  pub box-wait : ¬ BoxWaitsSeen (HeadWords A) (BoxWords A) (HeadAdvances A) (BoxAdvances A) D 3_124_999
  pub head-wait : ¬ HeadWaitsSeen (HeadWords A) (BoxWords A) (HeadAdvances A) (BoxAdvances A) D 3_124_999

unfoldable pub WordsAdvanceExact : Type 0
WordsAdvanceExact = (A : Address) → is_individual A ≡ true → (D : ℕ) → OneTickLessSeen A D

-- At the end of every span an advance by 1 to 65,536 ticks that lends what the header says is done; it makes at least one tick and no more than
-- it was asked for.
pub record Makes (A : Address) (w : head.Words) (block : List ℕ) : Type 0 where
  pub box : (q : BoxAsked) → is_in_reach q.ticks ≡ true → 120 ≤ length q.lent.frames → 19 ≤ length q.lent.reply → 1 ≤ length q.made
      → (((BoxAdvances A).advance block q).reply ≡ 0) × (1 ≤ (BoxAdvances A).made block q) × ((BoxAdvances A).made block q ≤ q.ticks)
  pub head : (q : HeadAsked) → is_in_reach q.ticks ≡ true → 60 * links_in (length w.links) ≤ length q.lent.output
      → 10 ≤ length q.lent.reply → 1 ≤ length q.made
      → (((HeadAdvances A).advance w q).reply ≡ 0) × (1 ≤ (HeadAdvances A).made w q) × ((HeadAdvances A).made w q ≤ q.ticks)

unfoldable pub WordsAdvances : Type 0
WordsAdvances =
    (A : Address) (D : ℕ) (x : Span (HeadWords A) (BoxWords A) D)
    → Makes A (last (HeadWords A) (BoxWords A) x).head (last (HeadWords A) (BoxWords A) x).box
