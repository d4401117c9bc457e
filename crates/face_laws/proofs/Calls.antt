-- The box that a call of the C face leaves in the block is the box that the core's call answers with: so a run of face calls is the
-- core's run.
-- Assumes nothing.
use Prim.Native.Nat.{ℕ, ◌≤◌}
use mathlib.Core.Path.{◌≡◌, ap, ◌∙◌}
use mathlib.Core.Bool.{true, false}
use mathlib.Core.List.{List, ◌++◌}
use native.Mathlib.Omega.{arith}
use lib.Dec.{eqb}
use lib.ListN.{length, drop, replicate, length-append, length-drop, length-map}
use lib.Seq.{take_at}
use Rattle.face_box.specs.Box.{front_words, box_words, box_in}
use Rattle.face_fields.specs.Fields.{span_word}
use Rattle.face_box_calls.specs.Calls.{words_at, box_at, is_lent, handed, settled, box_call}
use Rattle.box_calls.specs.declared.Answer.{Answer}
use Rattle.box_calls.specs.declared.FloorBox.{FloorBox}
use Rattle.frame.specs.Card.{number_of}
use Rattle.face_words.specs.Words.{laid}
use Rattle.face_words.specs.Laws.{laid-over, laid-whole}
use Rattle.face_laws.specs.Box.{Fits}
use Rattle.face_laws.proofs.RoundTrip.{unpacked}

-- the list's array has sixteen places
abbrev pub Sixteen : FloorBox → Type 0
Sixteen b = length b.processes.list.entries ≡ 16

pub size : (b : FloorBox) → Sixteen b → length (box_words b) ≡ 29
unfolding box_words front_words
size b h = rw (length-map b.processes.list.entries span_word, h)

-- a box laid into a block is there, word for word
pub words-stand : (b : FloorBox) (block : List ℕ) → Sixteen b → 29 ≤ length block → words_at (laid (box_words b) block) ≡ box_words b
unfolding words_at
words-stand b block s h =
    let n : length (box_words b) ≡ 29 = size b s in
    let over : laid (box_words b) block ≡ box_words b ++ drop 29 block =
    laid-over (box_words b) block (omega (arith, n)) ∙ ap (λ (k : ℕ). box_words b ++ drop k block) n in
    let long : 29 ≤ length (box_words b ++ drop 29 block) = rw length-append (omega (arith, n)) in
    ap (λ (w : List ℕ). laid w (replicate 29 0)) over
    ∙ laid-whole (box_words b ++ drop 29 block) (replicate 29 0) long
    ∙ take_at (box_words b) (drop 29 block) 29 n

pub stands : (b : FloorBox) (block : List ℕ) → Fits b → 29 ≤ length block → box_at (laid (box_words b) block) ≡ b
unfolding box_at
stands b block f h = ap box_in (words-stand b block f.places h) ∙ unpacked b f

-- and the block as long as it was
pub stands-long : (b : FloorBox) (block : List ℕ) → Sixteen b → 29 ≤ length block → length (laid (box_words b) block) ≡ length block
stands-long b block s h =
    let n : length (box_words b) ≡ 29 = size b s in
    ap length (laid-over (box_words b) block (omega (arith, n))) ∙ simp (length-append, length-drop) (omega (arith, n))

-- the theorem, of a call that is done
pub left_there : (f : FloorBox → Answer) (block frames reply : List ℕ) → is_lent (length block) (length frames) (length reply) ≡ true
    → eqb (number_of (f (box_at block)).reply) 0 ≡ true
    → 29 ≤ length block → Fits (f (box_at block)).next
    → box_at (box_call f block frames reply).block ≡ (f (box_at block)).next
unfolding box_call settled handed
left_there f block frames reply e n h fits = rw (e, n) (stands (f (box_at block)).next block fits h)

-- and of one that is refused: the block is as it was, word for word
pub left_alone : (f : FloorBox → Answer) (block frames reply : List ℕ) → is_lent (length block) (length frames) (length reply) ≡ true
    → eqb (number_of (f (box_at block)).reply) 0 ≡ false
    → (box_call f block frames reply).block ≡ block
unfolding box_call settled
left_alone f block frames reply e n = rw (e, n)
