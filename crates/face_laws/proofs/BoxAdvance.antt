-- An advance of the box in a block: the words that it takes, and its refusals.
-- Assumes nothing.
use Prim.Native.Nat.{ℕ}
use mathlib.Core.Path.{◌≡◌, refl, sym, ap, subst, ◌∙◌}
use mathlib.Core.Bool.{true, false, ◌&&◌, and-eq-true_iff, false≢true}
use mathlib.Core.List.{List, [], ◌∷◌}
use mathlib.Core.Logic.{◌≢◌, ⊎_elim}
use native.Mathlib.Omega.{arith}
use borrow.Author.Tests.{leb-true, le-leb, eqb-true, eqb-false}
use lib.Dec.{leb}
use lib.ListN.{length}
use Rattle.laws.specs.Cases.{decided}
use Rattle.clock.specs.Numbers.{is_in_reach}
use Rattle.frame.specs.Card.{number_of}
use Rattle.frame.specs.declared.Reply.TheVariants.{Done, Grant}
use Rattle.box_calls.specs.Advance.{is_done, out, advance_of}
use Rattle.box_calls.specs.Answer.{refused}
use Rattle.box_calls.specs.Box.{sound_of, tick_of}
use Rattle.box_calls.specs.declared.Advanced.{Advanced}
use Rattle.box_calls.specs.declared.Answer.{Answer}
use Rattle.box_calls.specs.declared.FloorBox.{FloorBox}
use Rattle.box_laws.specs.Stated as core
use Rattle.box_laws.proofs.Refused.{refused-unchanged}
use Rattle.box_laws.specs.Stated.{Unchanged}
use Rattle.box_laws.specs.Outcome.{Outcome, unsound, beyond, refuses, makes, outcome}
use Rattle.face_words.specs.Words.{laid}
use Rattle.face_box_calls.specs.Calls.{Left, left, AdvanceLeft, advance_left, box_at, is_lent, box_call, advance_call}
use Rattle.face_laws.specs.Advance.{box_left, BoxLends, BoxAdvance}
use Rattle.face_laws.specs.Box.{Stand, tick, BoxJudged, bare}
use Rattle.face_laws.proofs.BoxStands.{only, lent, number_is, judged, box-judged, refused-left, lent-left}

-- the core's call in an advance
abbrev pub advancing : ℕ → FloorBox → Answer
advancing n b = (advance_of b n).answer

-- where enough is lent
pub as_call : (n : ℕ) (block frames reply made : List ℕ) → is_lent (length block) (length frames) (length reply) ≡ true → leb 1 (length made) ≡ true
    → advance_call n block frames reply made
    ≡ advance_left (box_call (advancing n) block frames reply) (laid ((advance_of (box_at block) n).made ∷ []) made)
unfolding advance_call box_call
as_call n block frames reply made e h = rw (e, h)

-- and where not
pub as_short : (n : ℕ) (block frames reply made : List ℕ) → (is_lent (length block) (length frames) (length reply) && leb 1 (length made)) ≡ false
    → advance_call n block frames reply made ≡ advance_left (left 100 block frames reply) made
unfolding advance_call
as_short n block frames reply made e = rw e

lends : (n : ℕ) (block frames reply made : List ℕ) → (is_lent (length block) (length frames) (length reply) && leb 1 (length made)) ≡ true
    → BoxLends n block frames reply made
unfolding is_lent
lends n block frames reply made e =
    let p = (and-eq-true_iff (leb 29 (length block) && leb 120 (length frames) && leb 19 (length reply)) (leb 1 (length made))).0 e in
    let q = (and-eq-true_iff (leb 29 (length block) && leb 120 (length frames)) (leb 19 (length reply))).0 p.0 in
    let r = (and-eq-true_iff (leb 29 (length block)) (leb 120 (length frames))).0 q.0 in
    (leb-true 29 (length block) r.0, leb-true 120 (length frames) r.1, leb-true 19 (length reply) q.1, leb-true 1 (length made) p.1)

-- 13 comes of a box that is not sound, and of no other
module _ (b : FloorBox) (n : ℕ) where
  never-by : (x : Advanced) → Outcome b n x → sound_of b ≡ true → number_of x.answer.reply ≢ 13
  unfolding is_done
  never-by x (unsound f e) = λ s. absurd (false≢true (sym f ∙ s))
  never-by x (beyond s i e) = λ _. rw e (omega arith)
  never-by x (refuses s d e) = λ _. subst (λ (y : Advanced). number_of y.answer.reply ≢ 13) (sym e) ((judged tick_of tick b).0 s)
  never-by x (makes s d l h) = λ _ z. omega (arith, eqb-true (number_of x.answer.reply) 0 d, z)

  pub never : sound_of b ≡ true → number_of (advancing n b).reply ≢ 13
  never = never-by (advance_of b n) (outcome b n)

  always-by : (x : Advanced) → Outcome b n x → sound_of b ≡ false → number_of x.answer.reply ≡ 13
  always-by x (unsound f e) _ = rw e
  always-by x (beyond s i e) f = absurd (false≢true (sym f ∙ s))
  always-by x (refuses s d e) f = absurd (false≢true (sym f ∙ s))
  always-by x (makes s d l h) f = absurd (false≢true (sym f ∙ s))

  -- what is refused made no tick, and changed nothing
  refused-by : (x : Advanced) → Outcome b n x → number_of x.answer.reply ≢ 0 → Unchanged b x.answer × (x.made ≡ 0)
  unfolding is_done
  refused-by x (unsound f e) k = rw e (record { drift = refl; next = refl; frames = refl; notices = refl }, refl)
  refused-by x (beyond s i e) k = rw e (record { drift = refl; next = refl; frames = refl; notices = refl }, refl)
  refused-by x (refuses s d e) k =
      let no : (tick_of b).reply ≢ Done = λ (z : (tick_of b).reply ≡ Done). eqb-false (number_of (tick_of b).reply) 0 d (ap number_of z) in
      subst (λ (y : Advanced). Unchanged b y.answer × (y.made ≡ 0)) (sym e) (refused-unchanged core.tick b no, refl)
  refused-by x (makes s d l h) k = absurd (k (eqb-true (number_of x.answer.reply) 0 d))

  pub far-is : sound_of b ≡ true → is_in_reach n ≡ false → advance_of b n ≡ out (refused b Grant) 0
  unfolding advance_of
  far-is s i = rw (s, i)

  pub far : sound_of b ≡ true → is_in_reach n ≡ false → number_of (advancing n b).reply ≡ 9
  far s i = ap (λ (x : Advanced). number_of x.answer.reply) (far-is s i)

module _ (n : ℕ) (block frames reply made : List ℕ) (k : BoxLends n block frames reply made) where
  abbrev b : FloorBox
  b = box_at block

  enough : is_lent (length block) (length frames) (length reply) ≡ true
  enough = lent (length block) (length frames) (length reply) k.0 k.1 k.2

  call-is : box_left n block frames reply made ≡ advance_left (box_call (advancing n) block frames reply) (laid ((advance_of b n).made ∷ []) made)
  call-is = as_call n block frames reply made enough (le-leb 1 (length made) k.3)

  number : (box_left n block frames reply made).call.number ≡ number_of (advancing n b).reply
  number = ap (λ (l : AdvanceLeft). l.call.number) call-is ∙ number_is (advancing n) block frames reply enough

  stand-sound : Stand block → sound_of b ≡ true
  stand-sound s = ap sound_of (only block k.0 s.its s.has) ∙ s.sound

  -- a tick of it tells the same
  sound-stand : sound_of b ≡ true → Stand block
  unfolding BoxJudged
  sound-stand s =
      (box-judged tick_of tick block frames reply k.0 k.1 k.2).1
      (λ (z : (box_call tick_of block frames reply).number ≡ 13). (judged tick_of tick b).0 s (sym (number_is tick_of block frames reply enough) ∙ z))

  taken : (box_left n block frames reply made).call.number ≢ 13 → Stand block
  taken t =
      ⊎_elim sound-stand (λ (s : sound_of b ≡ false). absurd (t (number ∙ always-by b n (advance_of b n) (outcome b n) s))) (decided (sound_of b))

  refusal : (box_left n block frames reply made).call.number ≢ 0
      → box_left n block frames reply made ≡ advance_left (bare (box_left n block frames reply made).call.number block frames reply) (laid (0 ∷ []) made)
  refusal z =
      let x = advance_of b n in
      let bad : number_of x.answer.reply ≢ 0 = λ (e : number_of x.answer.reply ≡ 0). z (number ∙ e) in
      let u = refused-by b n x (outcome b n) bad in
      let c : box_call (advancing n) block frames reply ≡ bare (box_left n block frames reply made).call.number block frames reply =
      lent-left (advancing n) block frames reply enough
      ∙ refused-left x.answer b block frames reply bad u.0
      ∙ ap (λ (m : ℕ). bare m block frames reply) (sym number) in
      call-is ∙ ap (λ (l : Left). advance_left l (laid (x.made ∷ []) made)) c
      ∙ ap (λ (m : ℕ). advance_left (bare (box_left n block frames reply made).call.number block frames reply) (laid (m ∷ []) made)) u.1

pub box-advance : BoxAdvance
unfolding BoxAdvance
box-advance n block frames reply made =
    record {
      short = λ no.
          let t = is_lent (length block) (length frames) (length reply) && leb 1 (length made) in
          ⊎_elim (λ (e : t ≡ true). absurd (no (lends n block frames reply made e))) (as_short n block frames reply made) (decided t);
      judged = λ k. (
        λ s z. never (box_at block) n (stand-sound n block frames reply made k s) (sym (number n block frames reply made k) ∙ z),
        taken n block frames reply made k,
      );
      beyond = λ k s i. number n block frames reply made k ∙ far (box_at block) n (stand-sound n block frames reply made k s) i;
      refused = refusal n block frames reply made;
    }
