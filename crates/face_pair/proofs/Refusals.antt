-- A refusal changes nothing, in any words, and too short a block is never touched.
-- Assumes nothing.
use Prim.Native.Nat.{ℕ, ◌<◌}
use mathlib.Core.Path.{◌≡◌, refl, sym, ap, subst, ◌∙◌}
use mathlib.Core.Bool.{true, false, ◌&&◌, and-eq-true_iff}
use mathlib.Core.List.{List}
use mathlib.Core.Logic.{◌≢◌, ⊎_elim}
use borrow.Author.Tests.{eqb-true, eqb-false, lt-leb}
use lib.Dec.{eqb, leb}
use lib.ListN.{length}
use Rattle.laws.specs.Cases.{either, decided}
use Rattle.frame.specs.Card.{number_of}
use Rattle.frame.specs.declared.Address.{Address}
use Rattle.frame.specs.declared.Reply.TheVariants.{Done}
use Rattle.head_judging.specs.declared.Call.{Call}
use Rattle.frame_reader.specs.Decode.{read_of}
use Rattle.head_calls.specs.Fresh.{is_done}
use Rattle.head_calls.specs.Serve.{Served, serve_of}
use Rattle.head_laws.specs.Refusals.{refused-unchanged}
use Rattle.face_head.specs.Table.{links_at}
use Rattle.face_head_calls.specs.Calls.{Left, left, AdvanceLeft, begun_left, head_at, is_lent, kept_head, kept_links, handed, served_of, advance_call, refused_of, heard_of, begun_of}
use Rattle.face_box_calls.specs.Calls as face
use Rattle.face_laws.proofs.BoxAdvance as box-calls
use Rattle.face_laws.proofs.BoxAdvance.{advancing}
use Rattle.face_laws.proofs.HeadAdvance as head-calls
use Rattle.face_laws.proofs.HeadCalls.{is-handed}
use Rattle.face_pair.specs.Box as box
use Rattle.face_pair.specs.Refusals.{Unchanged, BoxRefusals, HeadRefusals, AdvanceRefusals, BoxShort, HeadShort}
use Rattle.face_pair.proofs.BoxLeft as lefts

pub box-refusals : BoxRefusals
unfolding BoxRefusals
box-refusals f block frames reply n =
    let l : box.Lent = record { frames = frames; reply = reply } in
    ⊎_elim
    (λ (e : lefts.lent f block l ≡ true).
    ⊎_elim
    (λ (d : lefts.is_done f block l ≡ true).
    absurd (n (lefts.done-number f block l e d ∙ eqb-true (number_of (f (face.box_at block)).reply) 0 d)))
    (λ (d : lefts.is_done f block l ≡ false). lefts.refuse-block f block l e d)
    (decided (lefts.is_done f block l)))
    (λ (e : lefts.lent f block l ≡ false). ap (λ (y : face.Left). y.block) (lefts.short f block l e))
    (decided (lefts.lent f block l))

module _ (head links output reply : List ℕ) where
  module _ (r : Call) where
    abbrev x : Served
    x = serve_of (head_at head) (links_at links) r output

    abbrev got : Left
    got = served_of r head links output reply

    lent-unchanged : is_lent (length head) (length reply) ≡ true → got.number ≢ 0 → Unchanged got head links output
    unfolding handed kept_head kept_links
    lent-unchanged e n =
        let at = is-handed r head links output reply e in
        let number : got.number ≡ number_of x.answer.reply = ap (λ (y : Left). y.number) at in
        ⊎_elim
        (λ (d : is_done x.answer.reply ≡ true). absurd (n (number ∙ eqb-true (number_of x.answer.reply) 0 d)))
        (λ (d : is_done x.answer.reply ≡ false).
        let other : x.answer.reply ≢ Done = λ (z : x.answer.reply ≡ Done). eqb-false (number_of x.answer.reply) 0 d (ap number_of z) in (
          ap (λ (y : Left). y.head) at ∙ rw d,
          ap (λ (y : Left). y.links) at ∙ rw d,
          ap (λ (y : Left). y.output) at ∙ ap (λ (y : Served). y.octets) (refused-unchanged (head_at head) (links_at links) r output other),
        ))
        (decided (is_done x.answer.reply))

    short-unchanged : is_lent (length head) (length reply) ≡ false → Unchanged got head links output
    unfolding served_of
    short-unchanged e = rw e (refl, refl, refl)

    request-unchanged : got.number ≢ 0 → Unchanged got head links output
    request-unchanged n =
        ⊎_elim (λ (e : is_lent (length head) (length reply) ≡ true). lent-unchanged e n) short-unchanged
        (decided (is_lent (length head) (length reply)))

  heard-unchanged : (link : ℕ) (os : List ℕ) → (heard_of link os head links output reply).number ≢ 0
      → Unchanged (heard_of link os head links output reply) head links output
  unfolding heard_of
  heard-unchanged link os =
      either (λ (y : Left). y.number ≢ 0 → Unchanged y head links output) (eqb (number_of (read_of os).reply) 0) _ _
      (λ _. request-unchanged (Call.Hear link (read_of os).message))
      (λ _ n. (refl, refl, refl))

pub head-refusals : HeadRefusals
unfolding HeadRefusals
head-refusals head links output reply = (request-unchanged head links output reply, heard-unchanged head links output reply)

box-advance-refused : (n : ℕ) (block frames reply made : List ℕ) → (face.advance_call n block frames reply made).call.number ≢ 0
    → (face.advance_call n block frames reply made).call.block ≡ block
unfolding BoxRefusals
box-advance-refused n block frames reply made z =
    let t = face.is_lent (length block) (length frames) (length reply) in
    ⊎_elim
    (λ (e : (t && leb 1 (length made)) ≡ true).
    let p = (and-eq-true_iff t (leb 1 (length made))).0 e in
    let is = ap (λ (y : face.AdvanceLeft). y.call) (box-calls.as_call n block frames reply made p.0 p.1) in
    ap (λ (y : face.Left). y.block) is
    ∙ box-refusals (advancing n) block frames reply (λ k. z (ap (λ (y : face.Left). y.number) is ∙ k)))
    (λ (e : (t && leb 1 (length made)) ≡ false). ap (λ (y : face.AdvanceLeft). y.call.block) (box-calls.as_short n block frames reply made e))
    (decided (t && leb 1 (length made)))

head-advance-refused : (n : ℕ) (head links output reply made : List ℕ) → (advance_call n head links output reply made).call.number ≢ 0
    → Unchanged (advance_call n head links output reply made).call head links output
head-advance-refused n head links output reply made z =
    ⊎_elim
    (λ (e : leb 1 (length made) ≡ true).
    let is = head-calls.as-request n head links output reply made e in
    subst (λ (y : Left). Unchanged y head links output) (sym is)
    (request-unchanged head links output reply (Call.Advance n) (λ k. z (ap (λ (y : Left). y.number) is ∙ k))))
    (λ (e : leb 1 (length made) ≡ false).
    subst (λ (y : AdvanceLeft). Unchanged y.call head links output) (sym (head-calls.as_short n head links output reply made e)) (refl, refl, refl))
    (decided (leb 1 (length made)))

pub advance-refusals : AdvanceRefusals
unfolding AdvanceRefusals
advance-refusals = (box-advance-refused, head-advance-refused)

pub box-short : BoxShort
unfolding BoxShort face.box_call face.fresh_call face.is_lent
box-short block frames reply h = let no = lt-leb 29 (length block) h in (λ f. rw no, λ address. rw no)

module _ (head links output reply : List ℕ) (h : length head < 5) where
  no_room : is_lent (length head) (length reply) ≡ false
  unfolding is_lent
  no_room = rw (lt-leb 5 (length head) h)

  short-served : (r : Call) → served_of r head links output reply ≡ left 100 head links output reply
  unfolding served_of
  short-served r = rw no_room

  short-heard : (link : ℕ) (os : List ℕ) → heard_of link os head links output reply ≡ left 100 head links output reply
  unfolding heard_of refused_of
  short-heard link os =
      either (λ (y : Left). y ≡ left 100 head links output reply) (eqb (number_of (read_of os).reply) 0) _ _
      (λ _. short-served (Call.Hear link (read_of os).message))
      (λ _. rw no_room)

  short-begun : (a : Address) → begun_of a head links reply ≡ begun_left 100 head links reply
  unfolding begun_of
  short-begun a = rw no_room

pub head-short : HeadShort
unfolding HeadShort
head-short head links output reply h =
    (short-served head links output reply h, short-heard head links output reply h, short-begun head links output reply h)
