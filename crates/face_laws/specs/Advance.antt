-- Statement: an advance beside the other calls of the C face: it takes the same words, its refusals change nothing, and it tells how many ticks
-- it made. What it leaves is on the pages Calls of face_box_calls and face_head_calls.
-- Assumes nothing.
use Rattle.std.specs.Prelude.{ℕ, ◌*◌, ◌≤◌, ◌<◌, ◌≡◌, false, List, [], ◌∷◌, ◌≢◌, length}
use Rattle.clock.specs.Numbers.{is_in_reach}
use Rattle.head_judging.specs.declared.Call.{Call}
use Rattle.face_words.specs.Words.{laid}
use Rattle.face_box_calls.specs.Calls as boxface
use Rattle.face_head_calls.specs.Calls as headface
use Rattle.face_head.specs.Table.{links_in}
use Rattle.face_laws.specs.Box.{Stand, bare}
use Rattle.face_laws.specs.Head as stands

module _ (n : ℕ) (block frames reply made : List ℕ) where
  abbrev pub box_left : boxface.AdvanceLeft
  box_left = boxface.advance_call n block frames reply made

  abbrev pub BoxLends : Type 0
  BoxLends = (29 ≤ length block) × (120 ≤ length frames) × (19 ≤ length reply) × (1 ≤ length made)

  pub record BoxAdvances : Type 0 where
    -- too little lent is 100, and nothing is touched
    pub short : ¬ BoxLends → box_left ≡ boxface.advance_left (boxface.left 100 block frames reply) made
    -- 13 is the answer just where no sound box stands
    pub judged : BoxLends → (Stand block → box_left.call.number ≢ 13) × (box_left.call.number ≢ 13 → Stand block)
    -- then 9 to a number that isn't 1 to 65,536
    pub beyond : BoxLends → Stand block → is_in_reach n ≡ false → box_left.call.number ≡ 9
    -- a refusal tells its number, that no tick was made, and nothing else; it leaves block and frames
    pub refused : BoxLends → box_left.call.number ≢ 0
        → box_left ≡ boxface.advance_left (bare box_left.call.number block frames reply) (laid (0 ∷ []) made)

unfoldable pub BoxAdvance : Type 0
BoxAdvance = (n : ℕ) (block frames reply made : List ℕ) → BoxAdvances n block frames reply made

module _ (n : ℕ) (head links output reply made : List ℕ) where
  abbrev pub head_left : headface.AdvanceLeft
  head_left = headface.advance_call n head links output reply made

  pub record HeadAdvances : Type 0 where
    -- without a word for the number made it is 100, and nothing is touched
    pub short : length made < 1 → head_left ≡ headface.advance_left (headface.left 100 head links output reply) made
    -- with one it is a request as any other: so 100, 13 and 12 come as they do to a tick
    pub request : 1 ≤ length made → head_left.call ≡ headface.served_of (Call.Advance n) head links output reply
    -- then 9 to a number that isn't 1 to 65,536
    pub beyond : 1 ≤ length made → 5 ≤ length head → 10 ≤ length reply → stands.Stand head links → 60 * links_in (length links) ≤ length output
        → is_in_reach n ≡ false → head_left.call.number ≡ 9
    -- a refusal leaves head, links and output, and tells that no tick was made
    pub refused : 1 ≤ length made → 5 ≤ length head → 10 ≤ length reply → head_left.call.number ≢ 0
        → (head_left.call.head ≡ head) × (head_left.call.links ≡ links) × (head_left.call.output ≡ output) × (head_left.made ≡ laid (0 ∷ []) made)

unfoldable pub HeadAdvance : Type 0
HeadAdvance = (n : ℕ) (head links output reply made : List ℕ) → HeadAdvances n head links output reply made
