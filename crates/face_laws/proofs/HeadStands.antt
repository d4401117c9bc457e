-- The calls of the head take the words of a sound head and a sound table, and no others.
-- Assumes nothing.
use Prim.Native.Nat.{ℕ, zero, suc, ◌+◌, ◌*◌, ◌/◌, ◌≤◌}
use mathlib.Core.Path.{◌≡◌, refl, sym, ap, ◌∙◌}
use mathlib.Core.Bool.{Bool, true, false, ◌&&◌, and-eq-true_iff, true≢false}
use mathlib.Core.List.{List, [], ◌∷◌, ◌++◌}
use mathlib.Core.Logic.{◌≢◌, ⊎_elim}
use native.Mathlib.Omega.{arith}
use borrow.Author.Tests.{le-leb, eq-eqb, ne_eqb}
use lib.Dec.{eqb, leb}
use lib.ListN.{length, take, drop, replicate, length-take, length-drop, take-append-drop}
use lib.Seq.{take-add}
use Rattle.laws.specs.Cases.{either, decided}
use Rattle.clock.specs.Timers.{off}
use Rattle.frame.specs.Card.{number_of}
use Rattle.frame.specs.declared.Reply.TheVariants.{Unsound}
use Rattle.head_state.specs.Head.{sound_of}
use Rattle.head_state.specs.declared.Head.{Head}
use Rattle.head_links.specs.Sound as link
use Rattle.head_links.specs.declared.Link.{Link}
use Rattle.head_survey.specs.Facts.{is_few, are_all_sound, sound_table}
use Rattle.head_judging.specs.declared.Call.{Call}
use Rattle.frame_reader.specs.Decode.{read_of}
use Rattle.head_calls.specs.Serve.{plan_of, serve_of}
use Rattle.head_plans.specs.declared.Plan.{Plan}
use Rattle.head_laws.specs.Calls.{known, Outcome, unsound, short, refuses, accepts, outcome}
use Rattle.head_laws.specs.Events.{table-parts}
use Rattle.head_laws.specs.Fresh.{nobody-unsound}
use Rattle.head_laws.specs.Refusals.{planned-done, call-reply, reply-is}
use Rattle.face_words.specs.Laws.{laid-whole, same-is}
use Rattle.face_words.specs.Words.{laid}
use Rattle.face_head.specs.Head.{window_of, head_words, head_of, is_head, nobody, head_in}
use Rattle.face_head.specs.declared.WindowWords.{WindowWords}
use Rattle.face_head.specs.Table.{link_words, link_of, five, is_link, no_link, link_in, words_at, table_words, links_of, links_in, links_at}
use Rattle.face_head.specs.declared.LinkWords.{LinkWords}
use Rattle.face_head.proofs.Laws.{links-few, length-links}
use Rattle.face_head_calls.specs.Calls.{Left, head_at, is_lent, handed, refused_of, served_of, heard_of}
use Rattle.face_laws.specs.Head.{WindowFits, HeadFits, LinkFits, LinksFit, Stand, HeadJudged, HeadReads, HeadRepacked}
use Rattle.face_laws.proofs.HeadTrip.{head-back, table-back}
use Rattle.face_laws.proofs.HeadCalls.{is-handed}

-- A HEAD
window-fits : (u : WindowWords) → WindowFits (window_of u)
unfolding window_of
window-fits u =
    either WindowFits (eqb u.phase 1) _ _ (λ _. (omega arith, omega arith))
    (λ _. either WindowFits (eqb u.phase 2) _ _ (λ _. omega arith) (λ _. tt))

module _ (w : List ℕ) where
  told-fits : HeadFits (head_of w)
  unfolding head_of
  told-fits = record { count = omega arith; window = window-fits _ }

  theirs : is_head w ≡ true → head_in w ≡ head_of w
  unfolding head_in
  theirs e = rw e

  nobodys : is_head w ≡ false → head_in w ≡ nobody
  unfolding head_in
  nobodys e = rw e

  -- a sound head is somebody
  is-head : sound_of (head_in w) ≡ true → is_head w ≡ true
  is-head s =
      ⊎_elim (λ (e : is_head w ≡ true). e)
      (λ (e : is_head w ≡ false). absurd (true≢false (sym s ∙ ap sound_of (nobodys e) ∙ nobody-unsound)))
      (decided (is_head w))

  head-words : sound_of (head_in w) ≡ true → head_words (head_in w) ≡ w
  unfolding is_head
  head-words s = ap head_words (theirs (is-head s)) ∙ same-is (head_words (head_of w)) w (is-head s)

  head-fits : sound_of (head_in w) ≡ true → HeadFits (head_in w)
  head-fits s = rw (theirs (is-head s)) told-fits

-- A LINK
no-link-unsound : link.sound_of no_link ≡ false
unfolding link.sound_of off
no-link-unsound = refl

module _ (w : LinkWords) where
  its : is_link w ≡ true → link_in w ≡ link_of w
  unfolding link_in
  its e = rw e

  none : is_link w ≡ false → link_in w ≡ no_link
  unfolding link_in
  none e = rw e

  is-link : link.sound_of (link_in w) ≡ true → is_link w ≡ true
  is-link s =
      ⊎_elim (λ (e : is_link w ≡ true). e)
      (λ (e : is_link w ≡ false). absurd (true≢false (sym s ∙ ap link.sound_of (none e) ∙ no-link-unsound)))
      (decided (is_link w))

  link-words : link.sound_of (link_in w) ≡ true → five (link_words (link_in w)) ≡ five w
  unfolding is_link
  link-words s = ap (λ (l : Link). five (link_words l)) (its (is-link s)) ∙ same-is (five (link_words (link_of w))) (five w) (is-link s)

  told-link : LinkFits (link_of w)
  told-link = record { wait = omega arith; watchdog = omega arith; periodic = omega arith }

  link_fits : link.sound_of (link_in w) ≡ true → LinkFits (link_in w)
  link_fits s = rw (its (is-link s)) told-link

-- A TABLE
fives : (ws : List ℕ) → 5 ≤ length ws → five (words_at ws) ≡ take 5 ws
fives [] h = absurd (omega arith)
fives (a ∷ []) h = absurd (omega arith)
fives (a ∷ b ∷ []) h = absurd (omega arith)
fives (a ∷ b ∷ c ∷ []) h = absurd (omega arith)
fives (a ∷ b ∷ c ∷ d ∷ []) h = absurd (omega arith)
fives (a ∷ b ∷ c ∷ d ∷ e ∷ ws) h = refl

links-words : (n : ℕ) (ws : List ℕ) → 5 * n ≤ length ws → are_all_sound (links_of n ws) ≡ true
    → (table_words (links_of n ws) ≡ take (5 * n) ws) × LinksFit (links_of n ws)
unfolding links_of table_words
links-words zero ws h s = (refl, tt)
links-words (suc n) ws h s =
    let both = (and-eq-true_iff (link.sound_of (link_in (words_at ws))) (are_all_sound (links_of n (drop 5 ws)))).0 s in
    let room : 5 * n ≤ length (drop 5 ws) = rw length-drop (omega arith) in
    let rest = links-words n (drop 5 ws) room both.1 in
    let long : 5 ≤ length ws = omega arith in
    let first : five (link_words (link_in (words_at ws))) ≡ take 5 ws = link-words (words_at ws) both.0 ∙ fives ws long in
    let further : 5 + 5 * n ≡ 5 * suc n = omega arith in (
      ap (λ (us : List ℕ). us ++ table_words (links_of n (drop 5 ws))) first
          ∙ ap (λ (us : List ℕ). take 5 ws ++ us) rest.0
          ∙ sym (take-add 5 (5 * n) ws)
          ∙ ap (λ (k : ℕ). take k ws) further,
      (link_fits (words_at ws) both.0, rest.1),
    )

-- as many links as there are words for, if a table may have so many
links_in-few : (w : ℕ) → is_few (w / 5) ≡ true → links_in w ≡ w / 5
unfolding links_in is_few
links_in-few w e = rw ((and-eq-true_iff (leb 1 (w / 5)) (leb (w / 5) 64)).0 e).1

few-is : (w : ℕ) (t : Bool) → leb (w / 5) 64 ≡ t → is_few (links_in w) ≡ true → links_in w ≡ w / 5
unfolding links_in is_few
few-is w true e f = rw e
few-is w false e f = absurd (true≢false (sym f ∙ rw e))

-- THE CALLS
module _ (r : Call) (h : Head) (xs : List Link) (os : List ℕ) where
  sound-by : (p : Plan) → Outcome h xs r (length os) p → (sound_of h && sound_table xs) ≡ true → number_of p.reply ≢ 13
  sound-by p (unsound s e) t = absurd (true≢false (sym t ∙ s))
  sound-by p (short s k e) t = rw e (omega arith)
  sound-by p (refuses s k x a b c e) t = rw e c
  sound-by p (accepts s k ts e) t = rw (e, planned-done r h (known xs r) ts) (omega arith)

  sound-never : (sound_of h && sound_table xs) ≡ true → number_of (serve_of h xs r os).answer.reply ≢ 13
  sound-never t = rw (reply-is h xs r os) (sound-by (plan_of h xs r (length os)) (outcome h xs r (length os)) t)

  unsound-always : (sound_of h && sound_table xs) ≡ false → number_of (serve_of h xs r os).answer.reply ≡ 13
  unsound-always t =
      let is : (serve_of h xs r os).answer.reply ≡ Unsound = call-reply h xs r os ∙ rw t in
      ap number_of is

pub enough : (head reply : List ℕ) → 5 ≤ length head → 10 ≤ length reply → is_lent (length head) (length reply) ≡ true
unfolding is_lent
enough head reply h k = rw (le-leb 5 (length head) h, le-leb 10 (length reply) k)

-- the first five words of a block
block-is : (head : List ℕ) → 5 ≤ length head → laid head (replicate 5 0) ≡ take 5 head
block-is head h = laid-whole head (replicate 5 0) h

module _ (head links : List ℕ) where
  -- words that stand are unpacked to what stands there
  module _ (s : Stand head links) where
    long : 5 ≤ length head
    unfolding head_words
    long =
        let n : length (take 5 head) ≡ 5 = ap length s.its-words in
        omega (arith, n, length-take 5 head)

    head-there : head_at head ≡ s.its
    unfolding head_at
    head-there = ap head_in (block-is head long ∙ s.its-words) ∙ head-back s.its s.its-fit

    allowed : links_in (length links) ≡ length s.table
    allowed =
        links_in-few (length links) (rw s.all at (table-parts s.table s.table-sound).0) ∙ sym s.all

    links-there : links_at links ≡ s.table
    links-there =
        let n : ℕ = 5 * length s.table in
        let whole : links ≡ table_words s.table ++ drop n links =
        sym (take-append-drop n links) ∙ ap (λ (us : List ℕ). us ++ drop n links) s.table-words in
        ap (λ (k : ℕ). links_of k links) allowed
        ∙ ap (links_of (length s.table)) whole
        ∙ table-back s.table (drop n links) s.table_fits

    sound-there : (sound_of (head_at head) && sound_table (links_at links)) ≡ true
    sound-there = rw (head-there, links-there, s.its-sound, s.table-sound)

  -- and sound words stand
  stand : 5 ≤ length head → (sound_of (head_at head) && sound_table (links_at links)) ≡ true → Stand head links
  unfolding head_at
  stand h t =
      let both = (and-eq-true_iff (sound_of (head_at head)) (sound_table (links_at links))).0 t in
      let w : List ℕ = laid head (replicate 5 0) in
      let n : ℕ = links_in (length links) in
      let parts = table-parts (links_at links) both.1 in
      let size : length (links_at links) ≡ n = length-links n links in
      let few : n ≡ length links / 5 = few-is (length links) (leb (length links / 5) 64) refl (rw size at parts.0) in
      let words = links-words n links (links-few (length links)).1 parts.1 in
      record {
        its = head_at head;
        table = links_at links;
        its-fit = head-fits w both.0;
        table_fits = words.1;
        its-sound = both.0;
        table-sound = both.1;
        its-words = sym (block-is head h) ∙ sym (head-words w both.0);
        all = size ∙ few;
        table-words = ap (λ (k : ℕ). take (5 * k) links) size ∙ sym words.0;
      }

number_is : (r : Call) (head links output reply : List ℕ) → is_lent (length head) (length reply) ≡ true
    → (served_of r head links output reply).number ≡ number_of (serve_of (head_at head) (links_at links) r output).answer.reply
unfolding handed
number_is r head links output reply e = ap (λ (l : Left). l.number) (is-handed r head links output reply e)

pub head-judged : HeadJudged
unfolding HeadJudged
head-judged r head links output reply h k =
    let number = number_is r head links output reply (enough head reply h k) in (
      λ s. rw number (sound-never r (head_at head) (links_at links) output (sound-there head links s)),
      λ n.
          ⊎_elim (stand head links h)
          (λ (e : (sound_of (head_at head) && sound_table (links_at links)) ≡ false).
          absurd (n (number ∙ unsound-always r (head_at head) (links_at links) output e)))
          (decided (sound_of (head_at head) && sound_table (links_at links))),
    )

pub head-reads : HeadReads
unfolding HeadReads heard_of refused_of
head-reads link os head links output reply h k = (
  λ n. rw (ne_eqb (number_of (read_of os).reply) 0 n, enough head reply h k),
  λ e. rw (eq-eqb (number_of (read_of os).reply) 0 e),
)

pub head-repacked : HeadRepacked
unfolding HeadRepacked
head-repacked head links s =
    record {
      its = head-there head links s;
      table = links-there head links s;
      its-words = ap head_words (head-there head links s) ∙ sym s.its-words;
      table-words =
          ap table_words (links-there head links s) ∙ sym s.table-words ∙ ap (λ (k : ℕ). take (5 * k) links) s.all;
    }
