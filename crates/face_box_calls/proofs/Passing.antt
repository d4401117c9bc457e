-- Quiet ticks made in place leave what the core's call would.
-- Assumes nothing.
use Prim.Native.Nat.{ℕ, ◌≤◌}
use mathlib.Core.Path.{◌≡◌, sym, ◌∙◌}
use mathlib.Core.Bool.{Bool, true, false, ◌&&◌, and-false, and-eq-true_iff}
use mathlib.Core.List.{List, [], ◌∷◌}
use native.Mathlib.Omega.{arith}
use borrow.Author.Tests.{le-leb, leb-true}
use lib.Dec.{leb}
use lib.ListN.{length}
use Rattle.face_box_pass.specs.Block.{box_at, until_call}
use Rattle.face_box_pass.specs.Passes.{passes}
use Rattle.face_box_pass.specs.Passing.{passed_words_of}
use Rattle.face_box.specs.Told.{listed, told_words}
use Rattle.clock.specs.Laws.{reach-parts}
use Rattle.clock.specs.Numbers.{is_in_reach}
use Rattle.box_calls.specs.Answer.{bare}
use Rattle.box_calls.specs.Box.{tick_of}
use Rattle.box_calls.specs.Leap.{passed_of}
use Rattle.box_calls.specs.Pass.{quiet_of}
use Rattle.box_calls.specs.Quiet.{quiet_one}
use Rattle.box_calls.specs.Turns.{advance-quiet}
use Rattle.frame.specs.declared.Reply.TheVariants.{Done}
use Rattle.face_words.specs.Words.{short, laid}
use Rattle.face_box_calls.specs.Advancing.{advanced_of}
use Rattle.face_box_calls.specs.Calls.{left, is_lent, told_of, handed, settled, advance_left, advance_call}

-- where the block is long enough, the number is that of its box
until-box : (block : List ℕ) → 29 ≤ length block → until_call block ≡ quiet_of (box_at block)
unfolding until_call
until-box block h = rw (le-leb 29 (length block) h)

module _ (block : List ℕ) (h : 29 ≤ length block) (frames reply : List ℕ) where
  -- no drift, no frame, no notice
  quiet-left : (k : ℕ) → 1 ≤ quiet_of (box_at block)
      → settled (bare (passed_of (box_at block) k) Done) block frames reply ≡ left 0 (passed_words_of block k) frames (laid (0 ∷ 0 ∷ 0 ∷ []) reply)
  unfolding settled handed told_of told_words listed
  quiet-left k q = rw (passes block k h q)

  pub tick-left : 1 ≤ until_call block
      → left 0 (passed_words_of block 1) frames (laid (0 ∷ 0 ∷ 0 ∷ []) reply) ≡ settled (tick_of (box_at block)) block frames reply
  tick-left u =
      let q : 1 ≤ quiet_of (box_at block) = rw (until-box block h) at u in
      rw (quiet_one (box_at block) q) (sym (quiet-left 1 q))

-- the parts of the test that an advance is quiet
pub quiet-parts : (n u : ℕ) (t : Bool) → t ≡ (is_in_reach n && leb n u) → t ≡ true → (is_in_reach n ≡ true) × (n ≤ u)
quiet-parts n u t e f =
    let p = (and-eq-true_iff (is_in_reach n) (leb n u)).0 (sym e ∙ f) in
    (p.0, leb-true n u p.1)

pub advance-left : (n : ℕ) (block frames reply made : List ℕ) → 29 ≤ length block → is_in_reach n ≡ true → n ≤ until_call block
    → advance_left (left 0 (passed_words_of block n) frames (laid (0 ∷ 0 ∷ 0 ∷ []) reply)) (laid (n ∷ []) made) ≡ advanced_of n block frames reply made
unfolding advanced_of
advance-left n block frames reply made h r u =
    let q : n ≤ quiet_of (box_at block) = rw (until-box block h) at u in
    let p = reach-parts n r in
    rw (advance-quiet (box_at block) n r q, quiet-left block h frames reply n (omega (arith, q, p.0)))

-- what is lent for an advance
module _ (n : ℕ) (block frames reply made : List ℕ) where
  pub none_made : length made ≡ 0 → advance_left (left short block frames reply) made ≡ advance_call n block frames reply made
  unfolding advance_call
  none_made z = rw (z, and-false (is_lent (length block) (length frames) (length reply)))

  module _ (t : Bool) (e : t ≡ is_lent (length block) (length frames) (length reply)) where
    pub too-little : t ≡ false → advance_left (left short block frames reply) made ≡ advance_call n block frames reply made
    unfolding advance_call
    too-little f = rw (← e, f)

    pub enough : t ≡ true → (length made ≡ 0 → ⊥) → advanced_of n block frames reply made ≡ advance_call n block frames reply made
    unfolding advance_call advanced_of
    enough f some = rw (← e, f, le-leb 1 (length made) (omega (arith, some)))
