-- A call over links that are lent and loaded is the core's over the links that the words tell.
-- Assumes nothing.
use Prim.Native.Nat.{ℕ, zero, suc, ◌*◌, ◌/◌, ◌≤◌, min}
use mathlib.Core.Path.{◌≡◌, refl, sym, ap, ◌∙◌}
use mathlib.Core.Bool.{Bool, not, true, false, cond, ◌&&◌, false≢true}
use mathlib.Core.List.{List, [], ◌∷◌, ◌++◌, append-nil}
use native.Mathlib.Omega.{arith}
use native.Mathlib.Nat.{le_refl, not-suc-le-zero, le_of_suc-le-suc}
use borrow.Author.Tests.{leb-true}
use denote.Enum.Bare.{sameb}
use lib.Dec.{eqb, leb}
use lib.ListN.{length, take, drop, replicate, length-replicate, drop_of_length-le}
use lib.Seq.{take-length}
use Rattle.clock.specs.Laws.{reach-parts}
use Rattle.clock.specs.Numbers.{is_in_reach}
use Rattle.frame.specs.contracts.Reply.{the_type}
use Rattle.frame.specs.declared.Reply.{Reply}
use Rattle.frame.specs.Card.{number_of}
use Rattle.frame.specs.declared.Address.{Address}
use Rattle.head_state.specs.Head.{after_of}
use Rattle.head_state.specs.declared.Head.{Head}
use Rattle.head_laws.specs.Advance.{Ready, quiet-tick, quiet-advance}
use Rattle.head_laws.specs.Advanced.{still_at, with_made}
use Rattle.head_laws.specs.Passing.{passed_all}
use Rattle.face_head_pass.specs.Passed.{passed_head, passed_links}
use Rattle.face_head_pass.specs.Quiet.{head_at, until_call}
use Rattle.face_head_pass.proofs.Passing.{quietly, pass-leaves}
use Rattle.face_head.proofs.Laws.{links-few, length-links, length-table}
use Rattle.face_head.specs.Table.{table_words, links_of, links_in, links_at, room_of, loaded, stored}
use Rattle.face_head.specs.Told.{told_words, notice_words}
use Rattle.head_judging.specs.Judge.{has_room}
use Rattle.head_judging.specs.declared.Call.{Call}
use Rattle.lent.specs.Folds.{places}
use Rattle.lent.proofs.Folds.{up-all, up-length}
use Rattle.head_links.specs.Link.{idle}
use Rattle.head_links.specs.declared.Link.{Link}
use Rattle.frame_reader.specs.Decode.{read_of}
use Rattle.frame.specs.declared.Reading.{Reading}
use Rattle.head_calls.specs.Fresh.{Freshly, is_done, begun_of, fresh_of}
use Rattle.head_calls.specs.Serve.{Served, done_of, serve_of}
use Rattle.head_calls.specs.declared.Answer.{Answer}
use Rattle.face_words.specs.Laws.{laid-over}
use Rattle.face_words.specs.Words.{short, laid}
use Rattle.face_head_calls.specs.Answered.{AnswerLeft, answer_left, told_of, answered_of, quiet_by}
use Rattle.face_head_calls.specs.Calls.{Left, left, begun_left, advance_left, Told, told, is_lent, laid_head, kept_head, kept_links, begun_head, handed, served_of, advanced_of, advance_call, refused_of, heard_of, cleared, begun_of as begun}
use Rattle.face_head_calls.specs.Lend.{kept_of, LendLeft, lend_left, lend_of, ClearLeft, clear_left, clear_of}

length-places : (f : ℕ → Link → Link) (k : ℕ) (xs : List Link) → length (places f k xs) ≡ length xs
length-places f k xs = sym (ap length (up-all f k xs (length xs) (le_refl (length xs)))) ∙ up-length f k xs (length xs)

-- no call changes how many links there are
length-served : (h : Head) (xs : List Link) (r : Call) (os : List ℕ) → length (serve_of h xs r os).table ≡ length xs
unfolding serve_of done_of
length-served h xs r os = length-places _ 1 xs

cleared_by : (t : Bool) (xs : List Link) → length (cond t (places (λ k l. idle) 1 xs) xs) ≡ length xs
cleared_by true xs = length-places (λ k l. idle) 1 xs
cleared_by false xs = refl

length-cleared : (a : Address) (xs : List Link) → length (fresh_of a xs).table ≡ length xs
unfolding fresh_of
length-cleared a xs = cleared_by (is_done (begun_of a (length xs)).reply) xs

-- the first of a table of idle links
-- a reply is done, or unsound, where its number says so
pub same-done : (r : Reply) → sameb the_type r Reply.Done ≡ eqb (number_of r) 0
same-done Reply.Done = refl
same-done Reply.Size = refl
same-done Reply.Kind = refl
same-done Reply.Opcode = refl
same-done Reply.Range = refl
same-done Reply.Direction = refl
same-done Reply.Link = refl
same-done Reply.State = refl
same-done Reply.Party = refl
same-done Reply.Grant = refl
same-done Reply.Held = refl
same-done Reply.Full = refl
same-done Reply.Output = refl
same-done Reply.Unsound = refl
same-done Reply.Window = refl

pub same-unsound : (r : Reply) → sameb the_type r Reply.Unsound ≡ eqb (number_of r) 13
same-unsound Reply.Done = refl
same-unsound Reply.Size = refl
same-unsound Reply.Kind = refl
same-unsound Reply.Opcode = refl
same-unsound Reply.Range = refl
same-unsound Reply.Direction = refl
same-unsound Reply.Link = refl
same-unsound Reply.State = refl
same-unsound Reply.Party = refl
same-unsound Reply.Grant = refl
same-unsound Reply.Held = refl
same-unsound Reply.Full = refl
same-unsound Reply.Output = refl
same-unsound Reply.Unsound = refl
same-unsound Reply.Window = refl

pub turned : (b t : Bool) → not b ≡ t → b ≡ not t
turned true t e = rw (← e)
turned false t e = rw (← e)

pub take-idle : (k m : ℕ) → k ≤ m → take k (replicate m idle) ≡ replicate k idle
take-idle zero m l = refl
take-idle (suc k) zero l = absurd (not-suc-le-zero l)
take-idle (suc k) (suc m) l = ap (λ (xs : List Link). idle ∷ xs) (take-idle k m (le_of_suc-le-suc l))

-- where just as many links are lent as the words hold, they become those that the words tell
loaded-all : (ws : List ℕ) (xs : List Link) → length xs ≡ links_in (length ws) → loaded ws xs ≡ links_at ws
unfolding loaded room_of
loaded-all ws xs e =
    let n : ℕ = links_in (length ws) in
    let all : min (length ws / 5) (length xs) ≡ n = omega (arith, e, (links-few (length ws)).1) in
    let none : drop n xs ≡ [] = drop_of_length-le xs {i = n} (omega (arith, e)) in
    ap (λ (k : ℕ). links_of k ws ++ drop k xs) all ∙ ap (λ (ys : List Link). links_of n ws ++ ys) none ∙ append-nil (links_of n ws)

no_words : (ws : List ℕ) → table_words [] ++ drop (5 * 0) ws ≡ ws
unfolding table_words
no_words ws = refl

-- and all of them are laid back where the call is done
laid_by : (t : Bool) (ls : List Link) (m : ℕ) (ws : List ℕ) → length ls ≡ links_in (length ws) → m ≡ links_in (length ws)
    → stored ls (cond t m 0) ws ≡ cond t (laid (table_words ls) ws) ws
unfolding stored room_of
laid_by true ls m ws e f =
    let few = links-few (length ws) in
    let all : min m (min (length ws / 5) (length ls)) ≡ length ls = omega (arith, e, f, few.1) in
    let size : length (table_words ls) ≡ 5 * length ls = length-table ls in
    let fits : length (table_words ls) ≤ length ws = omega (arith, size, e, few.1) in
    ap (λ (k : ℕ). table_words (take k ls) ++ drop (5 * k) ws) all
    ∙ ap (λ (us : List Link). table_words us ++ drop (5 * length ls) ws) (take-length ls)
    ∙ ap (λ (k : ℕ). table_words ls ++ drop k ws) (sym size)
    ∙ sym (laid-over (table_words ls) ws fits)
laid_by false ls m ws e f =
    let none : min 0 (min (length ws / 5) (length ls)) ≡ 0 = omega arith in
    ap (λ (k : ℕ). table_words (take k ls) ++ drop (5 * k) ws) none ∙ no_words ws

kept-laid : (a : Answer) (ls : List Link) (m : ℕ) (ws : List ℕ) → length ls ≡ links_in (length ws) → m ≡ links_in (length ws)
    → stored ls (kept_of a m) ws ≡ kept_links a ls ws
unfolding kept_of kept_links
kept-laid a ls m ws e f = laid_by (is_done a.reply) ls m ws e f

pub lent_is : (h : Head) (ws : List ℕ) (xs : List Link) (r : Call) (os : List ℕ) → length xs ≡ links_in (length ws)
    → lend_of h ws xs r os
    ≡ lend_left (serve_of h (links_at ws) r os).answer (kept_links (serve_of h (links_at ws) r os).answer (serve_of h (links_at ws) r os).table ws)
    (serve_of h (links_at ws) r os).octets
unfolding lend_of
lent_is h ws xs r os e =
    let done : Served = serve_of h (links_at ws) r os in
    let few : length done.table ≡ links_in (length ws) = length-served h (links_at ws) r os ∙ length-links (links_in (length ws)) ws in
    ap (λ (y : List Link). lend_left (serve_of h y r os).answer (stored (serve_of h y r os).table (kept_of (serve_of h y r os).answer (length xs)) ws) (serve_of h y r os).octets)
    (loaded-all ws xs e)
    ∙ ap (λ (us : List ℕ). lend_left done.answer us done.octets) (kept-laid done.answer done.table (length xs) ws few e)

-- a fresh head's links are idle, whatever they were
all-idle : (k : ℕ) (xs : List Link) → places (λ j l. idle) k xs ≡ replicate (length xs) idle
unfolding places
all-idle k [] = refl
all-idle k (x ∷ xs) = ap (λ (zs : List Link). idle ∷ zs) (all-idle (suc k) xs)

alike-by : (t : Bool) (ws : List ℕ) (xs ys : List Link) → length xs ≡ length ys
    → cond t (laid (table_words (cond t (places (λ k l. idle) 1 xs) xs)) ws) ws ≡ cond t (laid (table_words (cond t (places (λ k l. idle) 1 ys) ys)) ws) ws
alike-by true ws xs ys e = ap (λ (zs : List Link). laid (table_words zs) ws) (all-idle 1 xs ∙ ap (λ (n : ℕ). replicate n idle) e ∙ sym (all-idle 1 ys))
alike-by false ws xs ys e = refl

-- so what a fresh head leaves is a matter of how many links are lent
fresh-alike : (a : Address) (ws : List ℕ) (xs ys : List Link) → length xs ≡ length ys
    → clear_left (fresh_of a xs).answer (kept_links (fresh_of a xs).answer (fresh_of a xs).table ws)
    ≡ clear_left (fresh_of a ys).answer (kept_links (fresh_of a ys).answer (fresh_of a ys).table ws)
unfolding fresh_of kept_links
fresh-alike a ws xs ys e =
    ap (λ (n : ℕ). clear_left (begun_of a n) (cond (is_done (begun_of a n).reply) (laid (table_words (cond (is_done (begun_of a n).reply) (places (λ k l. idle) 1 xs) xs)) ws) ws)) e
    ∙ ap (clear_left (begun_of a (length ys))) (alike-by (is_done (begun_of a (length ys)).reply) ws xs ys e)

pub cleared-is : (a : Address) (ws : List ℕ) (xs : List Link) → length xs ≡ links_in (length ws)
    → clear_of a ws xs
    ≡ clear_left (fresh_of a (links_at ws)).answer (kept_links (fresh_of a (links_at ws)).answer (fresh_of a (links_at ws)).table ws)
unfolding clear_of
cleared-is a ws xs e =
    let made : Freshly = fresh_of a xs in
    ap (clear_left made.answer) (kept-laid made.answer made.table (length xs) ws (length-cleared a xs ∙ e) e)
    ∙ fresh-alike a ws xs (links_at ws) (e ∙ sym (length-links (links_in (length ws)) ws))

-- the core's call, of what each step of it left
pub answered-whole : (r : Call) (head links output : List ℕ) (h : Head) (n : ℕ) (a : Answer) (head' links' output' : List ℕ)
    → h ≡ head_at head → n ≡ links_in (length links)
    → lend_left a links' output' ≡ lend_of h links (replicate n idle) r output → head' ≡ kept_head a head
    → answer_left a head' links' output' ≡ answered_of r head links output
unfolding answered_of
answered-whole r head links output h n a head' links' output' at few said keeps =
    let done : Served = serve_of (head_at head) (links_at links) r output in
    let whole : lend_left a links' output' ≡ lend_left done.answer (kept_links done.answer done.table links) done.octets =
    said ∙ ap (λ (y : Head). lend_of y links (replicate n idle) r output) at
    ∙ lent_is (head_at head) links (replicate n idle) r output (length-replicate n idle ∙ few) in
    ap (λ (us : List ℕ). answer_left a us links' output') keeps
    ∙ ap (λ (u : LendLeft). answer_left u.answer (kept_head u.answer head) u.words u.octets) whole

-- and what is told of it
told-whole : (r : Call) (head links output reply : List ℕ) (a : Answer) (head' links' output' reply' : List ℕ) (k : ℕ)
    → answer_left a head' links' output' ≡ answered_of r head links output → told k reply' ≡ told_of a reply
    → left k head' links' output' reply' ≡ handed (serve_of (head_at head) (links_at links) r output) head links reply
unfolding answered_of handed told_of
told-whole r head links output reply a head' links' output' reply' k said tells =
    ap (λ (u : Told). left u.number head' links' output' u.reply) tells
    ∙ ap (λ (u : AnswerLeft). left (number_of u.answer.reply) u.head u.links u.output (laid (told_words u.answer) reply)) said

pub served-whole : (r : Call) (head links output reply : List ℕ) (t : Bool) (a : Answer) (head' links' output' reply' : List ℕ) (k : ℕ)
    → t ≡ is_lent (length head) (length reply) → t ≡ true
    → answer_left a head' links' output' ≡ answered_of r head links output → told k reply' ≡ told_of a reply
    → left k head' links' output' reply' ≡ served_of r head links output reply
unfolding served_of
served-whole r head links output reply t a head' links' output' reply' k lent taken said tells =
    told-whole r head links output reply a head' links' output' reply' k said tells
    ∙ ap (λ (b : Bool). cond b (handed (serve_of (head_at head) (links_at links) r output) head links reply) (left short head links output reply)) (sym taken ∙ lent)

pub advanced-whole : (n : ℕ) (head links output reply made : List ℕ) (a : Answer) (head' links' output' reply' made' : List ℕ) (k : ℕ)
    → answer_left a head' links' output' ≡ answered_of (Call.Advance n) head links output → told k reply' ≡ told_of a reply
    → made' ≡ laid (a.made ∷ []) made
    → advance_left (left k head' links' output' reply') made' ≡ advanced_of n head links output reply made
unfolding advanced_of answered_of
advanced-whole n head links output reply made a head' links' output' reply' made' k said tells makes =
    let done : Served = serve_of (head_at head) (links_at links) (Call.Advance n) output in
    ap (λ (l : Left). advance_left l made') (told-whole (Call.Advance n) head links output reply a head' links' output' reply' k said tells)
    ∙ ap (advance_left (handed done head links reply)) (makes ∙ ap (λ (u : AnswerLeft). laid (u.answer.made ∷ []) made) said)

-- ---- quiet ticks, passed in place
module _ (head links output : List ℕ) (room : has_room (links_in (length links)) (length output) ≡ true) where
  ready : 1 ≤ until_call head links → Ready (still_at (head_at head) (links_at links) output)
  ready h =
      let q = quietly head links h in
      record { sound = record { head = q.sound; table = q.table }; room = rw (length-links (links_in (length links)) links) room }

  -- what is left of them
  module _ (k : ℕ) (lo : 1 ≤ k) (hi : k ≤ until_call head links) (reply head' links' reply' : List ℕ)
      (heads : head' ≡ passed_head head k) (tables : links' ≡ passed_links links k) (tells : reply' ≡ laid (replicate 2 0) reply) where
    still : left 0 head' links' output reply'
        ≡ handed (still_at (after_of (head_at head) k) (passed_all (links_at links) k) output) head links reply
    unfolding handed kept_head laid_head kept_links told_words notice_words
    still =
        let p = pass-leaves head links k lo hi in
        rw (heads, tables, tells, p.0, p.1)

    pub passed-by : is_in_reach k ≡ true → (made made' : List ℕ) → made' ≡ laid (k ∷ []) made
        → advance_left (left 0 head' links' output reply') made' ≡ advanced_of k head links output reply made
    unfolding advanced_of handed kept_head kept_links laid_head told_words
    passed-by reach made made' makes =
        let q = quietly head links (omega (arith, lo, hi)) in
        let e : serve_of (head_at head) (links_at links) (Call.Advance k) output ≡ with_made k (still_at (after_of (head_at head) k) (passed_all (links_at links) k) output) =
        quiet-advance (head_at head) (links_at links) output (ready (omega (arith, lo, hi))) k reach (omega (arith, hi, q.until)) in
        rw (e, makes) (ap (λ (l : Left). advance_left l (laid (k ∷ []) made)) still)

  pub ticked-by : 1 ≤ until_call head links → (reply head' links' reply' : List ℕ)
      → head' ≡ passed_head head 1 → links' ≡ passed_links links 1 → reply' ≡ laid (replicate 2 0) reply → is_lent (length head) (length reply) ≡ true
      → left 0 head' links' output reply' ≡ served_of Call.Tick head links output reply
  unfolding served_of
  ticked-by h reply head' links' reply' heads tables tells lent =
      let q = quietly head links h in
      rw (lent, quiet-tick (head_at head) (links_at links) output (ready h) (omega (arith, h, q.until)))
      (still 1 (omega arith) h reply head' links' reply' heads tables tells)

pub quiet-parts : (n : ℕ) (head links : List ℕ) (octets : ℕ) → quiet_by n head links octets ≡ true
    → (is_in_reach n ≡ true) × (has_room (links_in (length links)) octets ≡ true) × (n ≤ until_call head links)
unfolding quiet_by
quiet-parts n head links octets h = by-test (is_in_reach n) refl (has_room (links_in (length links)) octets) refl h
  where
    by-test : (s : Bool) → is_in_reach n ≡ s → (t : Bool) → has_room (links_in (length links)) octets ≡ t → cond (s && t) (leb n (until_call head links)) false ≡ true
        → (is_in_reach n ≡ true) × (has_room (links_in (length links)) octets ≡ true) × (n ≤ until_call head links)
    by-test true e true f k = (e, f, leb-true n (until_call head links) k)
    by-test true e false f k = absurd (false≢true k)
    by-test false e t f k = absurd (false≢true k)

-- quiet ticks of an advance
pub advance-passed : (n : ℕ) (head links output reply made head' links' reply' made' : List ℕ) → quiet_by n head links (length output) ≡ true
    → head' ≡ passed_head head n → links' ≡ passed_links links n → reply' ≡ laid (replicate 2 0) reply → made' ≡ laid (n ∷ []) made
    → (is_lent (length head) (length reply) && leb 1 (length made)) ≡ true
    → advance_left (left 0 head' links' output reply') made' ≡ advance_call n head links output reply made
unfolding advance_call
advance-passed n head links output reply made head' links' reply' made' quiet heads tables tells makes lent =
    let p = quiet-parts n head links (length output) quiet in
    rw lent (passed-by head links output p.1 n (reach-parts n p.0).0 p.2 reply head' links' reply' heads tables tells p.0 made made' makes)

pub begun-whole : (o : Address) (head links reply : List ℕ) (t : Bool) (n : ℕ) (a : Answer) (head' links' reply' : List ℕ) (k : ℕ)
    → t ≡ is_lent (length head) (length reply) → t ≡ true → n ≡ links_in (length links)
    → clear_left a links' ≡ clear_of o links (replicate n idle) → head' ≡ begun_head a head → told k reply' ≡ told_of a reply
    → begun_left k head' links' reply' ≡ begun o head links reply
unfolding begun cleared told_of
begun-whole o head links reply t n a head' links' reply' k lent taken few said lays tells =
    let made : Freshly = fresh_of o (links_at links) in
    let whole : clear_left a links' ≡ clear_left made.answer (kept_links made.answer made.table links) =
    said ∙ cleared-is o links (replicate n idle) (length-replicate n idle ∙ few) in
    ap (λ (u : Told). begun_left u.number head' links' u.reply) tells
    ∙ ap (λ (us : List ℕ). begun_left (number_of a.reply) us links' (laid (told_words a) reply)) lays
    ∙ ap (λ (u : ClearLeft). begun_left (number_of u.answer.reply) (begun_head u.answer head) u.words (laid (told_words u.answer) reply)) whole
    ∙ ap (λ (b : Bool). cond b (cleared made head links reply) (begun_left short head links reply)) (sym taken ∙ lent)

-- a frame that the reader refused
pub heard-refused : (link : ℕ) (octets head links output reply : List ℕ) (r : Reading) (k : ℕ) (reply' : List ℕ)
    → r ≡ read_of octets → eqb (number_of r.reply) 0 ≡ false → told k reply' ≡ refused_of r.reply head reply
    → left k head links output reply' ≡ heard_of link octets head links output reply
unfolding heard_of
heard-refused link octets head links output reply r k reply' read refuses tells =
    ap (λ (u : Told). left u.number head links output u.reply) tells ∙ rw (← read, refuses)
