-- Quiet ticks passed in the words are those of the head and of the links that the words tell.
-- Assumes nothing.
use Prim.Native.Nat.{ℕ, zero, suc, ◌+◌, ◌*◌, ◌≤◌, ◌<◌}
use mathlib.Core.Path.{◌≡◌, refl, sym, ap, ◌∙◌}
use mathlib.Core.Bool.{Bool, true, false, cond, ◌&&◌, and-eq-true_iff}
use mathlib.Core.List.{List, [], ◌∷◌, ◌++◌}
use native.Mathlib.Omega.{arith}
use borrow.Author.Tests.{leb-true, le-leb, lt-leb}
use lib.Dec.{leb}
use lib.ListN.{length, take, drop, get_or, length-append}
use lib.Seq.{take_all, take-append_seam, get_or-append_seam, take_at, drop_at, drop-drop}
use Rattle.clock.specs.Timers.{passed_of as timer_passed}
use Rattle.head_state.specs.Head.{sound_of, after_of}
use Rattle.head_laws.specs.Passing.{passed_all, passed_length}
use Rattle.face_head.specs.Head.{head_words}
use Rattle.face_head.proofs.Laws.{links-few, length-links, links-more, length-table, table_more}
use Rattle.face_head.specs.Table.{link_words, five, link_in, table_words, words_at, links_of, links_in, links_at}
use Rattle.face_head.specs.declared.LinkWords.{LinkWords}
use Rattle.head_links.specs.Pass.{passed_of}
use Rattle.head_links.specs.declared.Link.{Link}
use Rattle.head_survey.specs.Facts.{is_few, are_all_sound, different, sound_table, quiet_all}
use Rattle.face_words.specs.Laws.{laid-over}
use Rattle.face_words.specs.Words.{laid}
use Rattle.face_head_pass.specs.Judge.{table_of, head_fits, quiet_links}
use Rattle.face_head_pass.specs.Passed.{less_of, passed_at, passed_to, passed_links, passed_head}
use Rattle.face_head_pass.specs.Quiet.{head_at, quiet_of, until_call}
use Rattle.face_head_pass.proofs.Heads.{head-is, passed-head}
use Rattle.face_head_pass.proofs.Links.{Sounds}
use Rattle.face_head_pass.proofs.Page.{snoc-sound, quiet-links-is}

-- one link more at the end
passed-more : (xs : List Link) (x : Link) (k : ℕ) → passed_all (xs ++ (x ∷ [])) k ≡ passed_all xs k ++ (passed_of x k ∷ [])
passed-more [] x k = refl
passed-more (y ∷ xs) x k = ap (λ (ys : List Link). passed_of y k ∷ ys) (passed-more xs x k)

table-last : (xs : List Link) (x : Link) → table_words (xs ++ (x ∷ [])) ≡ table_words xs ++ five (link_words x)
table-last xs x =
    let size : length (xs ++ (x ∷ [])) ≡ length xs + 1 = length-append xs (x ∷ []) in
    ap table_words (sym (take_all (suc (length xs)) (xs ++ (x ∷ [])) (omega (arith, size))))
    ∙ table_more (xs ++ (x ∷ [])) (length xs) x (omega (arith, size))
    ∙ rw (take-append_seam xs (x ∷ []), get_or-append_seam xs x [] x)

-- the words of a link k ticks on
link-passed : (w : LinkWords) (k : ℕ) → Sounds w → five (link_words (passed_of (link_in w) k)) ≡ five (less_of w k)
unfolding passed_of timer_passed
link-passed w k s =
    let at : (i : ℕ) → get_or (five (link_words (link_in w))) i 0 ≡ get_or (five w) i 0 = λ i. ap (λ (us : List ℕ). get_or us i 0) s.packed in
    rw (at 0, at 1, at 2, at 3, at 4)

pub passed_is : (n : ℕ) (ws : List ℕ) (k : ℕ) → are_all_sound (links_of n ws) ≡ true
    → passed_to n ws k ≡ table_words (passed_all (links_of n ws) k) ++ drop (5 * n) ws
unfolding passed_to passed_at links_of table_words
passed_is zero ws k h = refl
passed_is (suc n) ws k h =
    let w : LinkWords = words_at (drop (5 * n) ws) in
    let p = snoc-sound (links_of n ws) w (sym (ap are_all_sound (links-more n ws)) ∙ h) in
    let xs : List Link = links_of n ws in
    let t : List ℕ = table_words (passed_all xs k) in
    let now : List ℕ = passed_to n ws k in
    let is : now ≡ t ++ drop (5 * n) ws = passed_is n ws k p.0 in
    let size : length t ≡ 5 * n = length-table (passed_all xs k) ∙ ap (λ (m : ℕ). 5 * m) (passed_length xs k ∙ length-links n ws) in
    let front : take (5 * n) now ≡ t = ap (take (5 * n)) is ∙ take_at t (drop (5 * n) ws) (5 * n) size in
    let behind : drop (5 * n) now ≡ drop (5 * n) ws = ap (drop (5 * n)) is ∙ drop_at t (drop (5 * n) ws) (5 * n) size in
    let further : 5 * n + 5 ≡ 5 * suc n = omega arith in
    let rest : drop (5 * n + 5) now ≡ drop (5 * suc n) ws =
    sym (drop-drop 5 (5 * n) now) ∙ ap (drop 5) behind ∙ drop-drop 5 (5 * n) ws ∙ ap (λ (m : ℕ). drop m ws) further in
    let whole : table_words (passed_all (links_of (suc n) ws) k) ≡ t ++ five (less_of w k) =
    ap (λ (ys : List Link). table_words (passed_all ys k)) (links-more n ws)
    ∙ ap table_words (passed-more xs (link_in w) k) ∙ table-last (passed_all xs k) (passed_of (link_in w) k)
    ∙ ap (λ (us : List ℕ). t ++ us) (link-passed w k p.1) in
    ap (λ (us : List ℕ). us ++ five (less_of (words_at (drop (5 * n) now)) k) ++ drop (5 * n + 5) now) front
    ∙ ap (λ (us : List ℕ). t ++ five (less_of (words_at us) k) ++ drop (5 * n + 5) now) behind
    ∙ ap (λ (us : List ℕ). t ++ five (less_of w k) ++ us) rest
    ∙ ap (λ (us : List ℕ). us ++ drop (5 * suc n) ws) (sym whole)

passed-links : (ws : List ℕ) (k : ℕ) → are_all_sound (links_at ws) ≡ true → passed_links ws k ≡ laid (table_words (passed_all (links_at ws) k)) ws
unfolding passed_links
passed-links ws k h =
    let n : ℕ = links_in (length ws) in
    let size : length (table_words (passed_all (links_at ws) k)) ≡ 5 * n =
    length-table (passed_all (links_at ws) k) ∙ ap (λ (m : ℕ). 5 * m) (passed_length (links_at ws) k ∙ length-links n ws) in
    passed_is n ws k h
    ∙ ap (λ (m : ℕ). table_words (passed_all (links_at ws) k) ++ drop m ws) (sym size)
    ∙ sym (laid-over (table_words (passed_all (links_at ws) k)) ws (omega (arith, size, (links-few (length ws)).1)))

-- ---- the head and its table together
module _ (head links : List ℕ) where
  pub until-short : length head < 5 → until_call head links ≡ 0
  unfolding until_call
  until-short h = rw (lt-leb 5 (length head) h)

  until-is : 5 ≤ length head → until_call head links ≡ cond (head_fits head) (quiet_links (table_of links)) 0
  unfolding until_call quiet_of
  until-is h = rw (le-leb 5 (length head) h, head-is head h, quiet-links-is links) (by-test (sound_of (head_at head)) (sound_table (links_at links)))
    where
      by-test : (s t : Bool) → cond (s && t) (quiet_all (links_at links)) 0 ≡ cond s (cond t (quiet_all (links_at links)) 0) 0
      by-test true t = refl
      by-test false t = refl

  pub until-fits : 5 ≤ length head → head_fits head ≡ true → until_call head links ≡ quiet_links (table_of links)
  until-fits h e = until-is h ∙ rw e

  pub until-misfits : 5 ≤ length head → head_fits head ≡ false → until_call head links ≡ 0
  until-misfits h e = until-is h ∙ rw e

-- what a quiet tick tells of the words
pub record Quietly (head links : List ℕ) : Type 0 where
  pub long : 5 ≤ length head
  pub sound : sound_of (head_at head) ≡ true
  pub table : sound_table (links_at links) ≡ true
  pub until : until_call head links ≡ quiet_all (links_at links)

pub quietly : (head links : List ℕ) → 1 ≤ until_call head links → Quietly head links
unfolding until_call quiet_of
quietly head links h = by-long (leb 5 (length head)) refl h
  where
    by-sound : (s t : Bool) → sound_of (head_at head) ≡ s → sound_table (links_at links) ≡ t → 5 ≤ length head → leb 5 (length head) ≡ true
        → 1 ≤ cond (s && t) (quiet_all (links_at links)) 0 → Quietly head links
    by-sound true true e f l k g = record { long = l; sound = e; table = f; until = rw (k, e, f) }
    by-sound true false e f l k g = absurd (omega (arith, g))
    by-sound false t e f l k g = absurd (omega (arith, g))

    by-long : (t : Bool) → leb 5 (length head) ≡ t → 1 ≤ cond t (cond (sound_of (head_at head) && sound_table (links_at links)) (quiet_all (links_at links)) 0) 0 → Quietly head links
    by-long true e k = by-sound (sound_of (head_at head)) (sound_table (links_at links)) refl refl (leb-true 5 (length head) e) e k
    by-long false e k = absurd (omega (arith, k))

-- k quiet ticks passed in place
pub pass-leaves : (head links : List ℕ) (k : ℕ) → 1 ≤ k → k ≤ until_call head links
    → (passed_head head k ≡ laid (head_words (after_of (head_at head) k)) head) × (passed_links links k ≡ laid (table_words (passed_all (links_at links) k)) links)
unfolding sound_table
pass-leaves head links k l h =
    let q = quietly head links (omega (arith, l, h)) in
    let p = (and-eq-true_iff (is_few (length (links_at links)) && are_all_sound (links_at links)) (different (links_at links))).0 q.table in
    let r = (and-eq-true_iff (is_few (length (links_at links))) (are_all_sound (links_at links))).0 p.0 in
    (passed-head head k q.long q.sound, passed-links links k r.1)
