-- What a fresh head leaves in the caller's memory, word for word.
-- Assumes nothing.
use Prim.Native.Nat.{ℕ, suc, ◌+◌, ◌*◌, ◌/◌, ◌≤◌}
use mathlib.Core.Path.{◌≡◌, refl, sym, ap, ◌∙◌}
use mathlib.Core.Bool.{true, false, and-eq-true_iff}
use mathlib.Core.List.{List, [], ◌∷◌, ◌++◌}
use mathlib.Core.Logic.{◌⊎◌, ⊎_elim}
use native.Mathlib.Omega.{arith}
use borrow.Author.Tests.{leb-true}
use lib.Dec.{leb}
use lib.ListN.{length, replicate, replicate-append-replicate}
use Rattle.laws.specs.Cases.{decided}
use Rattle.frame.specs.declared.Address.{Address}
use Rattle.frame_range.specs.Fits.{is_individual}
use Rattle.lent.specs.Folds.{places}
use Rattle.head_links.specs.Link.{idle}
use Rattle.head_links.specs.declared.Link.{Link}
use Rattle.head_survey.specs.Facts.{is_few}
use Rattle.head_calls.specs.Fresh.{Freshly, fresh_of}
use Rattle.head_laws.specs.Fresh.{fresh-unsound, fresh-range, fresh-done}
use Rattle.face_words.specs.Words.{laid}
use Rattle.face_head.specs.Head.{head_words}
use Rattle.face_head.proofs.Laws.{length-links}
use Rattle.face_head.specs.Table.{table_words}
use Rattle.face_head.specs.Told.{notice_words, told_words}
use Rattle.face_head_calls.specs.Calls.{BegunLeft, begun_left, is_lent, laid_head, kept_links, begun_head, cleared, begun_of}
use Rattle.face_laws.specs.Head.{Fresh, HeadFresh, FreshSpares}
use Rattle.face_laws.proofs.HeadCalls.{all_links, begun-any}
use Rattle.face_laws.proofs.HeadStands.{enough}

-- an idle link's words are 0
idle-words : (k : ℕ) (xs : List Link) → table_words (places (λ k l. idle) k xs) ≡ replicate (5 * length xs) 0
unfolding places table_words
idle-words k [] = refl
idle-words k (x ∷ xs) =
    let further : 5 * suc (length xs) ≡ 5 + 5 * length xs = omega arith in
    ap (λ (us : List ℕ). replicate 5 0 ++ us) (idle-words (suc k) xs)
    ∙ replicate-append-replicate {A = ℕ} 5 (5 * length xs) 0
    ∙ ap (λ (n : ℕ). replicate {A = ℕ} n 0) (sym further)

module _ (a : Address) (head links reply : List ℕ) where
  not-lent : is_lent (length head) (length reply) ≡ false → begun_of a head links reply ≡ begun_left 100 head links reply
  unfolding begun_of
  not-lent e = rw e

  both : is_lent (length head) (length reply) ≡ true → (5 ≤ length head) × (10 ≤ length reply)
  unfolding is_lent
  both e =
      let k = (and-eq-true_iff (leb 5 (length head)) (leb 10 (length reply))).0 e in
      (leb-true 5 (length head) k.0, leb-true 10 (length reply) k.1)

  module _ (h : 5 ≤ length head) (k : 10 ≤ length reply) where
    size : length (all_links links) ≡ length links / 5
    size = length-links (length links / 5) links

    handed : begun_of a head links reply ≡ cleared (fresh_of a (all_links links)) head links reply
    handed = begun-any links a head reply ∙ rw (enough head reply h k)

    from : (m : Freshly) → fresh_of a (all_links links) ≡ m → begun_of a head links reply ≡ cleared m head links reply
    from m e = handed ∙ ap (λ (x : Freshly). cleared x head links reply) e

    is-unsound : is_few (length links / 5) ≡ false → begun_of a head links reply ≡ begun_left 13 head links (laid (0 ∷ 0 ∷ []) reply)
    unfolding cleared begun_head kept_links told_words notice_words
    is-unsound n = from _ (fresh-unsound a (all_links links) (rw size n))

    is-range : is_few (length links / 5) ≡ true → is_individual a ≡ false
        → begun_of a head links reply ≡ begun_left 4 (laid (0 ∷ 0 ∷ 0 ∷ 0 ∷ 0 ∷ []) head) links (laid (0 ∷ 0 ∷ []) reply)
    unfolding cleared begun_head laid_head head_words kept_links told_words notice_words
    is-range n i = from _ (fresh-range a (all_links links) (rw size n) i)

    is-done : is_few (length links / 5) ≡ true → is_individual a ≡ true
        → begun_of a head links reply
        ≡ begun_left 0 (laid (a.0 ∷ 0 ∷ 0 ∷ 0 ∷ 0 ∷ []) head) (laid (replicate (5 * (length links / 5)) 0) links) (laid (0 ∷ 0 ∷ []) reply)
    unfolding cleared begun_head laid_head head_words kept_links told_words notice_words
    is-done n i =
        let zeros : table_words (places (λ k l. idle) 1 (all_links links)) ≡ replicate (5 * (length links / 5)) 0 =
        idle-words 1 (all_links links) ∙ ap (λ (m : ℕ). replicate (5 * m) 0) size in
        from _ (fresh-done a (all_links links) (rw size n) i)
        ∙ ap (λ (us : List ℕ). begun_left 0 (laid (a.0 ∷ 0 ∷ 0 ∷ 0 ∷ 0 ∷ []) head) (laid us links) (laid (0 ∷ 0 ∷ []) reply)) zeros

  fresh-is : Fresh a head links reply
  fresh-is =
      record {
        short = λ no.
            ⊎_elim (λ (e : is_lent (length head) (length reply) ≡ true). absurd (no (both e))) not-lent
            (decided (is_lent (length head) (length reply)));
        unsound = is-unsound;
        range = is-range;
        done = is-done;
      }

-- neither 13 nor 100
few : (n m : ℕ) → n ≡ m → m ≤ 4 → (n ≡ 13) ⊎ (n ≡ 100) → ⊥
few n m e h z = ⊎_elim (λ (t : n ≡ 13). omega arith) (λ (t : n ≡ 100). omega arith) z

pub head-fresh : HeadFresh
unfolding HeadFresh
head-fresh a head links reply = fresh-is a head links reply

pub fresh-spares : FreshSpares
unfolding FreshSpares
fresh-spares a head links reply z =
    let left : BegunLeft = begun_of a head links reply in
    let number : (l : BegunLeft) → left ≡ l → left.number ≡ l.number = λ l e. ap (λ (x : BegunLeft). x.number) e in
    ⊎_elim
    (λ (e : is_lent (length head) (length reply) ≡ true).
    let k = both a head links reply e in
    ⊎_elim
    (λ (n : is_few (length links / 5) ≡ true).
    ⊎_elim
    (λ (i : is_individual a ≡ true). absurd (few left.number 0 (number _ (is-done a head links reply k.0 k.1 n i)) (omega arith) z))
    (λ (i : is_individual a ≡ false). absurd (few left.number 4 (number _ (is-range a head links reply k.0 k.1 n i)) (omega arith) z))
    (decided (is_individual a)))
    (λ (n : is_few (length links / 5) ≡ false). rw (is-unsound a head links reply k.0 k.1 n) (refl, refl))
    (decided (is_few (length links / 5))))
    (λ (e : is_lent (length head) (length reply) ≡ false). rw (not-lent a head links reply e) (refl, refl))
    (decided (is_lent (length head) (length reply)))
