-- Statement: how many ticks are sure to be done and to hand out nothing (`until_call` of the box and of the head): what a program may take from
-- the number.
-- Assumes nothing.
use Rattle.std.specs.Prelude.{ℕ, ◌+◌, ◌*◌, ◌≤◌, ◌<◌, ◌≡◌, List, [], ◌∷◌, ◌⊎◌, length, get_or}
use Rattle.face_words.specs.Words.{laid}
use Rattle.face_head.specs.Table.{links_in}
use Rattle.face_box_calls.specs.Calls as boxface
use Rattle.face_box_calls.specs.Calls.{until_call as box_until}
use Rattle.face_head_calls.specs.Calls as headface
use Rattle.face_head_calls.specs.Calls.{until_call as head_until}
use Rattle.face_laws.specs.Box.{Stand}
use Rattle.face_laws.specs.Head as stands

-- an advance that makes all its k ticks and hands out nothing: no drift, no frame, no notice, and the memory for frames as it was
pub record BoxPasses (k : ℕ) (block frames reply made : List ℕ) : Type 0 where
  pub done : (boxface.advance_call k block frames reply made).call.number ≡ 0
  pub all_made : (boxface.advance_call k block frames reply made).made ≡ laid (k ∷ []) made
  pub no-frame : (boxface.advance_call k block frames reply made).call.frames ≡ frames
  pub nothing-told : (boxface.advance_call k block frames reply made).call.reply ≡ laid (0 ∷ 0 ∷ 0 ∷ []) reply

-- every advance by no more ticks is one
unfoldable pub BoxUntil : Type 0
BoxUntil =
    (block : List ℕ)
    → (box_until block ≤ 65536)
    × ((frames reply made : List ℕ) (k : ℕ) → 120 ≤ length frames → 19 ≤ length reply → 1 ≤ length made → 1 ≤ k → k ≤ box_until block
    → BoxPasses k block frames reply made)

-- there are none of words that no sound box has, to which every call is 13
unfoldable pub BoxUntilSound : Type 0
BoxUntilSound = (block : List ℕ) → 1 ≤ box_until block → Stand block

-- what ends them, after u: the wait, the watchdog, the report's or the transmitter's timer has one tick more to run, or the box chooses a grant
-- at the next tick, as it does in REGISTERED with its transmitter at rest and a grant in its list
abbrev pub Ends : ℕ → List ℕ → Type 0
Ends u block =
    (get_or block 3 0 ≡ u + 1)
    ⊎ ((get_or block 4 0 ≡ u + 1)
    ⊎ ((get_or block 5 0 ≡ u + 1)
    ⊎ ((get_or block 9 0 ≡ u + 1) ⊎ ((u ≡ 0) × (get_or block 2 0 ≡ 3) × (get_or block 8 0 ≡ 0) × (1 ≤ get_or block 12 0)))))

unfoldable pub BoxUntilEnds : Type 0
BoxUntilEnds = (block : List ℕ) → 29 ≤ length block → Stand block → box_until block < 65536 → Ends (box_until block) block

-- the same of the head: no frame and no notice, and the output as it was
pub record HeadPasses (k : ℕ) (head links output reply made : List ℕ) : Type 0 where
  pub done : (headface.advance_call k head links output reply made).call.number ≡ 0
  pub all_made : (headface.advance_call k head links output reply made).made ≡ laid (k ∷ []) made
  pub no-frame : (headface.advance_call k head links output reply made).call.output ≡ output
  pub nothing-told : (headface.advance_call k head links output reply made).call.reply ≡ laid (0 ∷ 0 ∷ []) reply

unfoldable pub HeadUntil : Type 0
HeadUntil =
    (head links : List ℕ)
    → (head_until head links ≤ 65536)
    × ((output reply made : List ℕ) (k : ℕ) → 60 * links_in (length links) ≤ length output → 10 ≤ length reply → 1 ≤ length made
    → 1 ≤ k → k ≤ head_until head links → HeadPasses k head links output reply made)

unfoldable pub HeadUntilSound : Type 0
HeadUntilSound = (head links : List ℕ) → 1 ≤ head_until head links → stands.Stand head links

-- and exact: where head and table are sound, the tick after u hands out a frame, as word 0 of the reply says
pub record HeadSends (u : ℕ) (head links output reply made : List ℕ) : Type 0 where
  pub done : (headface.advance_call (u + 1) head links output reply made).call.number ≡ 0
  pub all_made : (headface.advance_call (u + 1) head links output reply made).made ≡ laid ((u + 1) ∷ []) made
  pub a-frame : 1 ≤ get_or (headface.advance_call (u + 1) head links output reply made).call.reply 0 0

unfoldable pub HeadUntilEnds : Type 0
HeadUntilEnds =
    (head links output reply made : List ℕ) → stands.Stand head links → 5 ≤ length head
    → 60 * links_in (length links) ≤ length output → 10 ≤ length reply → 1 ≤ length made → head_until head links < 65536
    → HeadSends (head_until head links) head links output reply made
