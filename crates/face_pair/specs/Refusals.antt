-- Statement: a refusal changes nothing, in any words: what stands in a block, a table or an output is what stood there, word for word. A fresh
-- start that is refused for its address is the one exception: it leaves a block that holds address zero (the pages of face_laws have it word
-- for word). And a slice that is shorter than a block is never touched.
-- Assumes nothing.
use Rattle.std.specs.Prelude.{ℕ, ◌<◌, ◌≡◌, List, ◌≢◌, length}
use Rattle.frame.specs.declared.Address.{Address}
use Rattle.box_calls.specs.declared.Answer.{Answer}
use Rattle.box_calls.specs.declared.FloorBox.{FloorBox}
use Rattle.head_judging.specs.declared.Call.{Call}
use Rattle.face_box_calls.specs.Calls as box
use Rattle.face_box_calls.specs.Calls.{box_call, fresh_call}
use Rattle.face_head_calls.specs.Calls.{Left, left, begun_left, served_of, advance_call, heard_of, begun_of}

-- register, deregister, report, hear and tick of the box are each a `box_call`
unfoldable pub BoxRefusals : Type 0
BoxRefusals =
    (f : FloorBox → Answer) (block frames reply : List ℕ) → (box_call f block frames reply).number ≢ 0
    → (box_call f block frames reply).block ≡ block

abbrev pub Unchanged : Left → List ℕ → List ℕ → List ℕ → Type 0
Unchanged l head links output = (l.head ≡ head) × (l.links ≡ links) × (l.output ≡ output)

unfoldable pub HeadRefusals : Type 0
HeadRefusals =
    (head links output reply : List ℕ)
    → ((r : Call) → (served_of r head links output reply).number ≢ 0 → Unchanged (served_of r head links output reply) head links output)
    × ((link : ℕ) (os : List ℕ) → (heard_of link os head links output reply).number ≢ 0
    → Unchanged (heard_of link os head links output reply) head links output)

-- an advance as well
unfoldable pub AdvanceRefusals : Type 0
AdvanceRefusals =
    ((n : ℕ) (block frames reply made : List ℕ) → (box.advance_call n block frames reply made).call.number ≢ 0
    → (box.advance_call n block frames reply made).call.block ≡ block)
    × ((n : ℕ) (head links output reply made : List ℕ) → (advance_call n head links output reply made).call.number ≢ 0
    → Unchanged (advance_call n head links output reply made).call head links output)

-- too short a block is answered 100 by every call, and nothing is touched: so a program that lends one has made no call
unfoldable pub BoxShort : Type 0
BoxShort =
    (block frames reply : List ℕ) → length block < 29
    → ((f : FloorBox → Answer) → box_call f block frames reply ≡ box.left 100 block frames reply)
    × ((address : ℕ) → fresh_call address block frames reply ≡ box.left 100 block frames reply)

unfoldable pub HeadShort : Type 0
HeadShort =
    (head links output reply : List ℕ) → length head < 5
    → ((r : Call) → served_of r head links output reply ≡ left 100 head links output reply)
    × ((link : ℕ) (os : List ℕ) → heard_of link os head links output reply ≡ left 100 head links output reply)
    × ((a : Address) → begun_of a head links reply ≡ begun_left 100 head links reply)
