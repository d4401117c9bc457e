-- An advance of the head in the words is its request; and its refusals.
-- Assumes nothing.
use Prim.Native.Nat.{ℕ, ◌*◌, ◌≤◌}
use mathlib.Core.Path.{◌≡◌, refl, ap, ◌∙◌}
use mathlib.Core.Bool.{true, false, and-false}
use mathlib.Core.List.{List, [], ◌∷◌}
use mathlib.Core.Logic.{◌≢◌, ⊎_elim}
use borrow.Author.Tests.{le-leb, lt-leb, ne_eqb}
use lib.Dec.{eqb, leb}
use lib.ListN.{length}
use Rattle.laws.specs.Cases.{decided}
use Rattle.clock.specs.Numbers.{is_in_reach}
use Rattle.frame.specs.Card.{number_of}
use Rattle.frame.specs.declared.Reply.TheVariants.{Done}
use Rattle.head_state.specs.Head.{sound_of}
use Rattle.head_state.specs.declared.Head.{Head}
use Rattle.head_links.specs.declared.Link.{Link}
use Rattle.head_survey.specs.Facts.{sound_table}
use Rattle.head_judging.specs.Judge.{has_room}
use Rattle.head_judging.specs.declared.Call.{Call}
use Rattle.head_calls.specs.Serve.{Served, serve_of}
use Rattle.head_laws.specs.Refusals.{call-reply, refused-unchanged}
use Rattle.face_words.specs.Words.{laid}
use Rattle.face_head.proofs.Laws.{length-links}
use Rattle.face_head.specs.Table.{links_in, links_at}
use Rattle.face_head_calls.specs.Calls.{AdvanceLeft, left, advance_left, head_at, is_lent, kept_head, kept_links, handed, served_of, advanced_of, advance_call}
use Rattle.face_laws.specs.Advance.{head_left, HeadAdvance}
use Rattle.face_laws.specs.Head.{Stand, HeadRepacked}
use Rattle.face_laws.proofs.HeadStands.{enough, head-repacked}

-- where a word is lent for the number made
pub as-request : (n : ℕ) (head links output reply made : List ℕ) → leb 1 (length made) ≡ true
    → (advance_call n head links output reply made).call ≡ served_of (Call.Advance n) head links output reply
unfolding advance_call advanced_of served_of
as-request n head links output reply made h =
    ⊎_elim (λ (e : is_lent (length head) (length reply) ≡ true). rw (e, h)) (λ (e : is_lent (length head) (length reply) ≡ false). rw e)
    (decided (is_lent (length head) (length reply)))

-- and where not
pub as_short : (n : ℕ) (head links output reply made : List ℕ) → leb 1 (length made) ≡ false
    → advance_call n head links output reply made ≡ advance_left (left 100 head links output reply) made
unfolding advance_call
as_short n head links output reply made h = rw (h, and-false (is_lent (length head) (length reply)))

pub as-handed : (n : ℕ) (head links output reply made : List ℕ) → is_lent (length head) (length reply) ≡ true → leb 1 (length made) ≡ true
    → (x : Served) → serve_of (head_at head) (links_at links) (Call.Advance n) output ≡ x
    → advance_call n head links output reply made ≡ advance_left (handed x head links reply) (laid (x.answer.made ∷ []) made)
unfolding advance_call advanced_of
as-handed n head links output reply made e h x s = rw (e, h, s)

-- the tests in their order, of what is sound
module _ (h : Head) (xs : List Link) (n : ℕ) (os : List ℕ) (s : sound_of h ≡ true) (t : sound_table xs ≡ true) where
  pub narrow : leb (60 * length xs) (length os) ≡ false → number_of (serve_of h xs (Call.Advance n) os).answer.reply ≡ 12
  unfolding has_room
  narrow r = ap number_of (call-reply h xs (Call.Advance n) os) ∙ rw (s, t, r)

  pub far : leb (60 * length xs) (length os) ≡ true → is_in_reach n ≡ false → number_of (serve_of h xs (Call.Advance n) os).answer.reply ≡ 9
  unfolding has_room
  far r i = ap number_of (call-reply h xs (Call.Advance n) os) ∙ rw (s, t, r, i)

module _ (n : ℕ) (head links output reply made : List ℕ) (d : 1 ≤ length made) (a : 5 ≤ length head) (c : 10 ≤ length reply) where
  abbrev x : Served
  x = serve_of (head_at head) (links_at links) (Call.Advance n) output

  is : head_left n head links output reply made ≡ advance_left (handed x head links reply) (laid (x.answer.made ∷ []) made)
  is = as-handed n head links output reply made (enough head reply a c) (le-leb 1 (length made) d) x refl

  number : (head_left n head links output reply made).call.number ≡ number_of x.answer.reply
  unfolding handed
  number = ap (λ (l : AdvanceLeft). l.call.number) is

  beyond : Stand head links → 60 * links_in (length links) ≤ length output → is_in_reach n ≡ false → (head_left n head links output reply made).call.number ≡ 9
  unfolding HeadRepacked
  beyond s room i =
      let r = head-repacked head links s in
      let m : length (links_at links) ≡ links_in (length links) = length-links (links_in (length links)) links in
      number
      ∙ far (head_at head) (links_at links) n output (ap sound_of r.its ∙ s.its-sound) (ap sound_table r.table ∙ s.table-sound)
      (le-leb (60 * length (links_at links)) (length output) (rw m room)) i

  refused : (head_left n head links output reply made).call.number ≢ 0
      → ((head_left n head links output reply made).call.head ≡ head)
      × ((head_left n head links output reply made).call.links ≡ links)
      × ((head_left n head links output reply made).call.output ≡ output)
      × ((head_left n head links output reply made).made ≡ laid (0 ∷ []) made)
  unfolding handed kept_head kept_links
  refused z =
      let bad : number_of x.answer.reply ≢ 0 = λ (e : number_of x.answer.reply ≡ 0). z (number ∙ e) in
      let u = refused-unchanged (head_at head) (links_at links) (Call.Advance n) output (λ (e : x.answer.reply ≡ Done). bad (ap number_of e)) in
      let not : eqb (number_of x.answer.reply) 0 ≡ false = ne_eqb (number_of x.answer.reply) 0 bad in (
        ap (λ (l : AdvanceLeft). l.call.head) is ∙ rw not,
        ap (λ (l : AdvanceLeft). l.call.links) is ∙ rw not,
        ap (λ (l : AdvanceLeft). l.call.output) is ∙ ap (λ (s : Served). s.octets) u,
        ap (λ (l : AdvanceLeft). l.made) is ∙ ap (λ (s : Served). laid (s.answer.made ∷ []) made) u,
      )

pub head-advance : HeadAdvance
unfolding HeadAdvance
head-advance n head links output reply made =
    record {
      short = λ h. as_short n head links output reply made (lt-leb 1 (length made) h);
      request = λ h. as-request n head links output reply made (le-leb 1 (length made) h);
      beyond = beyond n head links output reply made;
      refused = refused n head links output reply made;
    }
