-- Lemmas: a table's words one link further on: what the loops over them do in a turn. And how many words a reply has.
-- Assumes nothing.
use Rattle.std.specs.Prelude.{ℕ, zero, suc, ◌+◌, ◌*◌, ◌/◌, ◌≤◌, ◌<◌, Bool, true, false, ◌≡◌, refl, List, [], ◌∷◌, ◌++◌, eqb, leb, length, take, drop, get_or, set}
use Rattle.std.proofs.Common.{sym, ◌∙◌, ap, arith, add-zero, leb-true, length-take-le, take-suc, take_at, drop_at, drop-cons, drop-drop, get_or-drop}
use Rattle.std.proofs.Math.Seq.{append_snoc}
use Rattle.std.proofs.lemmas.List.{set_at}
use Rattle.std.proofs.lemmas.List.Edits.{sets-eq}
use Rattle.std.specs.Simd.{first_chunks}
use Rattle.std.proofs.lemmas.List.{get_or-take}
use Rattle.laws.specs.Cases.{either}
use Rattle.head_links.specs.declared.Link.{Link}
use Rattle.face_head.specs.Table.{link_words, link_in, five, words_at, table_words, links_of, links_in}
use Rattle.face_head.specs.Told.{kind_word, notice_words, told_words}
use Rattle.face_head.specs.declared.LinkWords.{LinkWords}
use Rattle.head_calls.specs.declared.Answer.{Answer}

-- never more than a table, nor more than there are words for
few-by : (w : ℕ) (t : Bool) → leb (w / 5) 64 ≡ t → (links_in w ≤ 64) × (5 * links_in w ≤ w)
unfolding links_in
few-by w true e = let h : w / 5 ≤ 64 = leb-true (w / 5) 64 e in (rw e h, rw e (omega arith))
few-by w false e = (rw e (omega arith), rw e (omega arith))

pub links-few : (w : ℕ) → (links_in w ≤ 64) × (5 * links_in w ≤ w)
links-few w = few-by w (leb (w / 5) 64) refl

-- the five words at a place
pub words-there : (ws : List ℕ) (k : ℕ)
    → words_at (drop k ws)
    ≡ record { address = get_or ws k 0; state = get_or ws (k + 1) 0; wait = get_or ws (k + 2) 0; watchdog = get_or ws (k + 3) 0; periodic = get_or ws (k + 4) 0 }
words-there ws k = rw (get_or-drop k ws 0 0, get_or-drop k ws 1 0, get_or-drop k ws 2 0, get_or-drop k ws 3 0, get_or-drop k ws 4 0, add-zero k)

-- those of a chunk of five
chunk-at : (m n : ℕ) (ws : List ℕ) → m < n → get_or (first_chunks 5 n ws) m [] ≡ take 5 (drop (5 * m) ws)
chunk-at m zero ws l = absurd (omega (arith, l))
chunk-at zero (suc n) ws l = refl
chunk-at (suc m) (suc n) ws l =
    let further : 5 + 5 * m ≡ 5 * suc m = omega arith in
    chunk-at m n (drop 5 ws) (omega (arith, l)) ∙ ap (take 5) (drop-drop (5 * m) 5 ws ∙ ap (λ (k : ℕ). drop k ws) further)

words-front : (ws : List ℕ) → words_at (take 5 ws) ≡ words_at ws
words-front ws =
    rw (
      get_or-take 5 ws 0 0 (omega arith),
      get_or-take 5 ws 1 0 (omega arith),
      get_or-take 5 ws 2 0 (omega arith),
      get_or-take 5 ws 3 0 (omega arith),
      get_or-take 5 ws 4 0 (omega arith),
    )

pub chunk-words : (m n : ℕ) (ws : List ℕ) → m < n → words_at (get_or (first_chunks 5 n ws) m []) ≡ words_at (drop (5 * m) ws)
chunk-words m n ws l = ap words_at (chunk-at m n ws l) ∙ words-front (drop (5 * m) ws)

-- stored there one after the other
pub stored_there : (ws : List ℕ) (k : ℕ) (w : LinkWords) → k + 5 ≤ length ws
    → set (set (set (set (set ws k w.address) (k + 1) w.state) (k + 2) w.wait) (k + 3) w.watchdog) (k + 4) w.periodic
    ≡ take k ws ++ five w ++ drop (k + 5) ws
stored_there ws k w h =
    let e₁ : k + 1 ≡ suc k = omega arith in
    let e₂ : k + 2 ≡ suc (suc k) = omega arith in
    let e₃ : k + 3 ≡ suc (suc (suc k)) = omega arith in
    let e₄ : k + 4 ≡ suc (suc (suc (suc k))) = omega arith in
    rw (e₁, e₂, e₃, e₄) (sets-eq (five w) ws k h)

pub length-links : (n : ℕ) (ws : List ℕ) → length (links_of n ws) ≡ n
unfolding links_of
length-links zero ws = refl
length-links (suc n) ws = ap suc (length-links n (drop 5 ws))

-- the next link stands behind the five words of each before it
pub links-more : (n : ℕ) (ws : List ℕ) → links_of (suc n) ws ≡ links_of n ws ++ (link_in (words_at (drop (5 * n) ws)) ∷ [])
unfolding links_of
links-more zero ws = refl
links-more (suc n) ws =
    let further : 5 + 5 * n ≡ 5 * suc n = omega arith in
    ap (λ (ls : List Link). link_in (words_at ws) ∷ ls)
    (links-more n (drop 5 ws)
    ∙ ap (λ (u : List ℕ). links_of n (drop 5 ws) ++ (link_in (words_at u) ∷ [])) (drop-drop (5 * n) 5 ws ∙ ap (λ (k : ℕ). drop k ws) further))

-- a turn of the loop that loads them
pub load-turn : (ws : List ℕ) (xs out : List Link) (i : ℕ) (v d : Link) → i < length xs → v ≡ link_in (words_at (drop (5 * i) ws))
    → out ≡ links_of i ws ++ drop i xs → set out i v ≡ links_of (suc i) ws ++ drop (suc i) xs
load-turn ws xs out i v d h e p =
    ap (λ (ls : List Link). set ls i v) (p ∙ ap (λ (ls : List Link). links_of i ws ++ ls) (drop-cons xs i d h))
    ∙ set_at (links_of i ws) (get_or xs i d) (drop (suc i) xs) v i (length-links i ws)
    ∙ sym (append_snoc (links_of i ws) v (drop (suc i) xs))
    ∙ ap (λ (ls : List Link). ls ++ drop (suc i) xs) (ap (λ (l : Link). links_of i ws ++ (l ∷ [])) e ∙ sym (links-more i ws))

pub length-table : (ls : List Link) → length (table_words ls) ≡ 5 * length ls
unfolding table_words
length-table [] = refl
length-table (l ∷ ls) = let again : length (table_words ls) ≡ 5 * length ls = length-table ls in omega (arith, again)

table-append : (xs ys : List Link) → table_words (xs ++ ys) ≡ table_words xs ++ table_words ys
unfolding table_words
table-append [] ys = refl
table-append (x ∷ xs) ys = ap (λ (us : List ℕ). five (link_words x) ++ us) (table-append xs ys)

-- one link more
pub table_more : (ls : List Link) (i : ℕ) (d : Link) → i < length ls
    → table_words (take (suc i) ls) ≡ table_words (take i ls) ++ five (link_words (get_or ls i d))
unfolding table_words
table_more ls i d h = ap table_words (take-suc ls i d h) ∙ table-append (take i ls) (get_or ls i d ∷ [])

-- a turn of the loop that stores them
pub store-turn : (ls : List Link) (ws now : List ℕ) (i : ℕ) (d : Link) → i < length ls → now ≡ table_words (take i ls) ++ drop (5 * i) ws
    → take (5 * i) now ++ five (link_words (get_or ls i d)) ++ drop (5 * i + 5) now ≡ table_words (take (suc i) ls) ++ drop (5 * suc i) ws
store-turn ls ws now i d h p =
    let few : i ≤ length ls = omega arith in
    let size : length (table_words (take i ls)) ≡ 5 * i = length-table (take i ls) ∙ ap (λ (k : ℕ). 5 * k) (length-take-le i ls few) in
    let front : take (5 * i) now ≡ table_words (take i ls) =
    ap (take (5 * i)) p ∙ take_at (table_words (take i ls)) (drop (5 * i) ws) (5 * i) size in
    let behind : drop (5 * i) now ≡ drop (5 * i) ws =
    ap (drop (5 * i)) p ∙ drop_at (table_words (take i ls)) (drop (5 * i) ws) (5 * i) size in
    let further : 5 * i + 5 ≡ 5 * suc i = omega arith in
    let rest : drop (5 * i + 5) now ≡ drop (5 * suc i) ws =
    sym (drop-drop 5 (5 * i) now) ∙ ap (drop 5) behind ∙ drop-drop 5 (5 * i) ws ∙ ap (λ (k : ℕ). drop k ws) further in
    ap (λ (us : List ℕ). us ++ five (link_words (get_or ls i d)) ++ drop (5 * i + 5) now) front
    ∙ ap (λ (us : List ℕ). us ++ drop (5 * i + 5) now) (sym (table_more ls i d h))
    ∙ ap (λ (us : List ℕ). table_words (take (suc i) ls) ++ us) rest

-- what is told has at most ten words
pub told-few : (a : Answer) → length (told_words a) ≤ 10
unfolding told_words notice_words
told-few a = either (λ (us : List ℕ). suc (length us) ≤ 10) (eqb (kind_word a.notice.kind) 0) _ _ (λ _. omega arith) (λ _. omega arith)
