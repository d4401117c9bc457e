-- The head and the links that a call of the C face leaves in the words are those that the core's call answers with, whether it is done or
-- refused: so a run of face calls is the core's run. And where more links are lent than a table may have, the face answers as the core does.
-- Assumes nothing.
use Prim.Native.Nat.{ℕ, ◌*◌, ◌/◌, ◌≤◌}
use mathlib.Core.Path.{◌≡◌, refl, sym, ap, ◌∙◌}
use mathlib.Core.Bool.{Bool, true, false, cond, ◌&&◌, and-eq-true_iff}
use mathlib.Core.List.{List, [], ◌++◌}
use mathlib.Core.Logic.{◌≢◌}
use native.Mathlib.Omega.{arith}
use borrow.Author.Tests.{leb-true, eqb-false, ne_eqb}
use lib.Dec.{leb}
use lib.ListN.{length, drop, get_or, replicate, length-append, length-drop}
use lib.Seq.{take_at}
use Rattle.frame.specs.Card.{number_of}
use Rattle.frame.specs.declared.Address.{Address}
use Rattle.frame.specs.declared.Reply.{Reply}
use Rattle.frame.specs.declared.Reply.TheVariants.{Done, Unsound}
use Rattle.head_state.specs.Head.{sound_of}
use Rattle.head_state.specs.declared.Head.{Head}
use Rattle.face_head_calls.specs.Calls.{Left, left, BegunLeft, begun_left, head_at, is_lent, laid_head, kept_head, kept_links, begun_head, handed, served_of, cleared, begun_of}
use Rattle.head_laws.specs.Fresh.{fresh-unsound, fresh-refused}
use Rattle.head_laws.specs.Places.{length-places}
use Rattle.head_laws.specs.Refusals.{call-reply, refused-unchanged}
use Rattle.head_laws.specs.Stated.{telling}
use Rattle.head_laws.specs.Sound.{call_length}
use Rattle.face_head.specs.Head.{head_words, head_in}
use Rattle.face_head.proofs.Laws.{links-few, length-links, length-table, told-few}
use Rattle.face_head.specs.Table.{table_words, links_of, links_in, links_at}
use Rattle.face_head.specs.Told.{told_words}
use Rattle.head_judging.specs.declared.Call.{Call}
use Rattle.lent.specs.Folds.{places}
use Rattle.head_links.specs.Link.{idle}
use Rattle.head_links.specs.declared.Link.{Link}
use Rattle.head_calls.specs.Fresh.{Freshly, is_done, begun_of as made_of, fresh_of}
use Rattle.head_calls.specs.Serve.{Served, served, serve_of}
use Rattle.head_calls.specs.declared.Answer.{Answer}
use Rattle.head_survey.specs.Facts.{is_few, sound_table}
use Rattle.face_words.specs.Laws.{laid-over, laid-whole}
use Rattle.face_words.specs.Words.{laid}
use Rattle.face_laws.specs.Head.{HeadFits, LinksFit}
use Rattle.face_laws.proofs.HeadTrip.{head-back, table-back}

-- a head laid into a block is there
pub head-stands : (h : Head) (block : List ℕ) → HeadFits h → 5 ≤ length block → head_at (laid (head_words h) block) ≡ h
unfolding head_at head_words
head-stands h block f n =
    let over : laid (head_words h) block ≡ head_words h ++ drop 5 block = laid-over (head_words h) block n in
    let long : 5 ≤ length (head_words h ++ drop 5 block) = rw length-append (omega arith) in
    ap (λ (w : List ℕ). head_in (laid w (replicate 5 0))) over
    ∙ ap head_in (laid-whole (head_words h ++ drop 5 block) (replicate 5 0) long ∙ take_at (head_words h) (drop 5 block) 5 refl)
    ∙ head-back h f

-- a table laid over words that hold as many links is there
pub links-stand : (ls : List Link) (ws : List ℕ) → LinksFit ls → length ls ≡ links_in (length ws) → links_at (laid (table_words ls) ws) ≡ ls
links-stand ls ws f e =
    let n : ℕ = links_in (length ws) in
    let size : length (table_words ls) ≡ 5 * n = length-table ls ∙ ap (λ (k : ℕ). 5 * k) e in
    let room : length (table_words ls) ≤ length ws = omega (arith, size, (links-few (length ws)).1) in
    let rest : List ℕ = drop (length (table_words ls)) ws in
    let over : laid (table_words ls) ws ≡ table_words ls ++ rest = laid-over (table_words ls) ws room in
    let long : length (table_words ls ++ rest) ≡ length ws = rw (length-append, length-drop) (omega (arith, room)) in
    ap links_at over
    ∙ ap (λ (k : ℕ). links_of (links_in k) (table_words ls ++ rest)) long
    ∙ ap (λ (k : ℕ). links_of k (table_words ls ++ rest)) (sym e)
    ∙ table-back ls rest f

-- word 0 of what is told is the number of frames
pub told-number : (a : Answer) (reply : List ℕ) → 10 ≤ length reply → get_or (laid (told_words a) reply) 0 0 ≡ a.frames
unfolding told_words
told-number a reply h = ap (λ (w : List ℕ). get_or w 0 0) (laid-over (told_words a) reply (omega (arith, told-few a)))

lent-head : (a b : ℕ) → is_lent a b ≡ true → 5 ≤ a
unfolding is_lent
lent-head a b e = leb-true 5 a ((and-eq-true_iff (leb 5 a) (leb 10 b)).0 e).0

fresh-by : (t : Bool) (xs : List Link) → length (cond t (places (λ k l. idle) 1 xs) xs) ≡ length xs
fresh-by true xs = length-places (λ k l. idle) 1 xs
fresh-by false xs = refl

pub fresh-length : (a : Address) (xs : List Link) → length (fresh_of a xs).table ≡ length xs
unfolding fresh_of
fresh-length a xs = fresh-by (is_done (made_of a (length xs)).reply) xs

not_done : (x : Reply) → is_done x ≡ false → x ≢ Done
not_done x e d = eqb-false (number_of x) 0 e (ap number_of d)

module _ (r : Call) (head links output reply : List ℕ) (lent : is_lent (length head) (length reply) ≡ true) where
  abbrev done : Served
  done = serve_of (head_at head) (links_at links) r output

  -- where enough is lent the core's answer is in the caller's memory
  pub is-handed : served_of r head links output reply ≡ handed done head links reply
  unfolding served_of
  is-handed = rw lent

  still : (t : Bool) → is_done done.answer.reply ≡ t → HeadFits done.answer.next → LinksFit done.table
      → (head_at (kept_head done.answer head) ≡ done.answer.next) × (links_at (kept_links done.answer done.table links) ≡ done.table)
  unfolding kept_head kept_links laid_head
  still true e f g = (
    rw e (head-stands done.answer.next head f (lent-head (length head) (length reply) lent)),
    rw e (links-stand done.table links g (call_length (head_at head) (links_at links) r output ∙ length-links (links_in (length links)) links)),
  )
  still false e f g =
      let same : done ≡ served (telling done.answer.reply (head_at head)) (links_at links) output =
      refused-unchanged (head_at head) (links_at links) r output (not_done done.answer.reply e) in
      (rw e (sym (ap (λ (d : Served). d.answer.next) same)), rw e (sym (ap (λ (d : Served). d.table) same)))

  -- the theorem
  pub left_there : HeadFits done.answer.next → LinksFit done.table
      → (head_at (served_of r head links output reply).head ≡ done.answer.next) × (links_at (served_of r head links output reply).links ≡ done.table)
  unfolding handed
  left_there f g =
      let k = still (is_done done.answer.reply) refl f g in (
        ap (λ (l : Left). head_at l.head) is-handed ∙ k.0,
        ap (λ (l : Left). links_at l.links) is-handed ∙ k.1,
      )

module _ (a : Address) (head links reply : List ℕ) (lent : is_lent (length head) (length reply) ≡ true) where
  abbrev made : Freshly
  made = fresh_of a (links_at links)

  fresh-handed : begun_of a head links reply ≡ cleared made head links reply
  unfolding begun_of
  fresh-handed = rw lent

  fresh-still : (t : Bool) → is_done made.answer.reply ≡ t → LinksFit made.table
      → links_at (kept_links made.answer made.table links) ≡ made.table
  unfolding kept_links
  fresh-still true e g =
      rw e (links-stand made.table links g (fresh-length a (links_at links) ∙ length-links (links_in (length links)) links))
  fresh-still false e g =
      rw e (sym (ap (λ (m : Freshly). m.table) (fresh-refused a (links_at links) (not_done made.answer.reply e))))

  fresh-block : number_of made.answer.reply ≢ 13 → begun_head made.answer head ≡ laid (head_words made.answer.next) head
  unfolding begun_head laid_head
  fresh-block n = rw (ne_eqb (number_of made.answer.reply) 13 n)

  -- the same of a fresh head, but where the table is of no allowed size: one that is refused for its address stands in the block too
  pub fresh-there : number_of made.answer.reply ≢ 13 → HeadFits made.answer.next → LinksFit made.table
      → (head_at (begun_of a head links reply).head ≡ made.answer.next) × (links_at (begun_of a head links reply).links ≡ made.table)
  unfolding cleared
  fresh-there n f g = (
    ap (λ (l : BegunLeft). head_at l.head) fresh-handed
        ∙ ap head_at (fresh-block n)
        ∙ head-stands made.answer.next head f (lent-head (length head) (length reply) lent),
    ap (λ (l : BegunLeft). links_at l.links) fresh-handed ∙ fresh-still (is_done made.answer.reply) refl g,
  )

-- more links than a table may have
neither : (t u : Bool) → u ≡ false → (t && u) ≡ false
neither true u e = e
neither false u e = refl

many-unsound : (xs : List Link) → is_few (length xs) ≡ false → sound_table xs ≡ false
unfolding sound_table
many-unsound xs e = rw e

-- the core too answers 13, and changes nothing
pub unsound-unchanged : (h : Head) (xs : List Link) (r : Call) (os : List ℕ) → is_few (length xs) ≡ false
    → serve_of h xs r os ≡ served (telling Unsound h) xs os
unsound-unchanged h xs r os e =
    let no : (sound_of h && sound_table xs) ≡ false = neither (sound_of h) (sound_table xs) (many-unsound xs e) in
    let is : (serve_of h xs r os).answer.reply ≡ Unsound = call-reply h xs r os ∙ rw no in
    let other : (serve_of h xs r os).answer.reply ≢ Done = λ (d : (serve_of h xs r os).answer.reply ≡ Done). omega (arith, ap number_of (sym is ∙ d)) in
    refused-unchanged h xs r os other ∙ ap (λ (x : Reply). served (telling x h) xs os) is

few-false : (n : ℕ) → leb n 64 ≡ false → is_few n ≡ false
unfolding is_few
few-false n e = neither (leb 1 n) (leb n 64) e

none-few : is_few 0 ≡ false
unfolding is_few
none-few = refl

module _ (links : List ℕ) where
  -- every link that the words hold, be they more than a table may have
  abbrev pub all_links : List Link
  all_links = links_of (length links / 5) links

  at_all : leb (length links / 5) 64 ≡ true → links_at links ≡ all_links
  unfolding links_in
  at_all e = rw e

  at_none : leb (length links / 5) 64 ≡ false → links_at links ≡ []
  unfolding links_in links_of
  at_none e = rw e

  many : leb (length links / 5) 64 ≡ false → is_few (length all_links) ≡ false
  many e = rw (length-links (length links / 5) links) (few-false (length links / 5) e)

  module _ (r : Call) (head output reply : List ℕ) where
    any-by : (t : Bool) → leb (length links / 5) 64 ≡ t
        → handed (serve_of (head_at head) (links_at links) r output) head links reply ≡ handed (serve_of (head_at head) all_links r output) head links reply
    unfolding handed kept_head kept_links
    any-by true e = ap (λ (xs : List Link). handed (serve_of (head_at head) xs r output) head links reply) (at_all e)
    any-by false e =
        ap (λ (xs : List Link). handed (serve_of (head_at head) xs r output) head links reply) (at_none e)
        ∙ ap (λ (d : Served). handed d head links reply) (unsound-unchanged (head_at head) [] r output none-few)
        ∙ sym (ap (λ (d : Served). handed d head links reply) (unsound-unchanged (head_at head) all_links r output (many e)))

    -- so a call is the core's over all the links that are lent, however many they are
    pub served-any : served_of r head links output reply
        ≡ cond (is_lent (length head) (length reply)) (handed (serve_of (head_at head) all_links r output) head links reply) (left 100 head links output reply)
    unfolding served_of
    served-any =
        ap (λ (l : Left). cond (is_lent (length head) (length reply)) l (left 100 head links output reply)) (any-by (leb (length links / 5) 64) refl)

  module _ (a : Address) (head reply : List ℕ) where
    begun-by : (t : Bool) → leb (length links / 5) 64 ≡ t
        → cleared (fresh_of a (links_at links)) head links reply ≡ cleared (fresh_of a all_links) head links reply
    unfolding cleared kept_links
    begun-by true e = ap (λ (xs : List Link). cleared (fresh_of a xs) head links reply) (at_all e)
    begun-by false e =
        ap (λ (xs : List Link). cleared (fresh_of a xs) head links reply) (at_none e)
        ∙ ap (λ (m : Freshly). cleared m head links reply) (fresh-unsound a [] none-few)
        ∙ sym (ap (λ (m : Freshly). cleared m head links reply) (fresh-unsound a all_links (many e)))

    pub begun-any : begun_of a head links reply
        ≡ cond (is_lent (length head) (length reply)) (cleared (fresh_of a all_links) head links reply) (begun_left 100 head links reply)
    unfolding begun_of
    begun-any =
        ap (λ (l : BegunLeft). cond (is_lent (length head) (length reply)) l (begun_left 100 head links reply)) (begun-by (leb (length links / 5) 64) refl)
