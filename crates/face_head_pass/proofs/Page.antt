-- What the loops find is what `Quiet` says of the links that the words tell.
-- Assumes nothing.
use Prim.Native.Nat.{ℕ, zero, suc, ◌-◌, ◌≤◌, ◌<◌, min}
use mathlib.Core.Path.{◌≡◌, refl, sym, ap, ◌∙◌}
use mathlib.Core.Bool.{Bool, true, false, cond, not, ◌&&◌, ◌||◌, and-true, and-false, or-false, and_assoc, or_assoc, and-or_distrib_left, and-eq-true_iff, false≢true}
use mathlib.Core.List.{List, [], ◌∷◌, ◌++◌}
use mathlib.Core.Logic.{⊎_elim}
use native.Mathlib.Omega.{arith}
use native.Mathlib.Numerals.{add-one}
use borrow.Author.Tests.{eq-eqb, ne_eqb, eqb-true, eqb-false, ltb-true, lt-ltb, le-ltb, le-leb, lt-leb, leb-true, leb-false}
use lib.Dec.{eqb, leb, ltb}
use lib.ListN.{length, take, drop, length-append}
use lib.Seq.{take_all}
use Rattle.std.specs.List.{list_all}
use Rattle.std.specs.Simd.{first_chunks}
use Rattle.std.proofs.lemmas.List.Folds.{list_all_more}
use Rattle.laws.specs.Cases.{cut}
use Rattle.clock.specs.Numbers.{furthest_advance, watchdog, periodic, wait}
use Rattle.frame.specs.declared.Address.{Address}
use Rattle.face_head.proofs.Laws.{links-few, links-more, chunk-words}
use Rattle.face_head.specs.Table.{link_in, words_at, links_of, links_in, links_at}
use Rattle.face_head.specs.declared.LinkWords.{LinkWords}
use Rattle.head_links.specs.Link.{is_held}
use Rattle.head_links.specs.Pass.{quiet_of}
use Rattle.head_links.specs.Sound.{sound_of}
use Rattle.head_links.specs.declared.Link.{Link}
use Rattle.head_survey.specs.Facts.{is_few, holds, any_holds, are_all_sound, different, sound_table, quiet_all}
use Rattle.frame_range.specs.Fits.{is_individual}
use Rattle.face_head_pass.specs.Judge.{fits, near, still, behind, link_words_at, address_at, table_of, nearest_to, holds_to, differ_to, quiet_links}
use Rattle.face_head_pass.proofs.Links.{Sounds, sounds, sound-fits}

-- ---- one link more at the end of a table
sound_more : (xs : List Link) (x : Link) → are_all_sound (xs ++ (x ∷ [])) ≡ (are_all_sound xs && sound_of x)
sound_more [] x = and-true (sound_of x)
sound_more (y ∷ xs) x = rw (sound_more xs x) (sym (and_assoc (sound_of y) (are_all_sound xs) (sound_of x)))

quiet-more : (xs : List Link) (x : Link) → quiet_all (xs ++ (x ∷ [])) ≡ min (quiet_all xs) (quiet_of x)
quiet-more [] x = omega arith
quiet-more (y ∷ xs) x = rw (quiet-more xs x) (omega arith)

any-more : (a : Address) (xs : List Link) (x : Link) → any_holds a (xs ++ (x ∷ [])) ≡ (any_holds a xs || holds a x)
any-more a [] x = or-false (holds a x)
any-more a (y ∷ xs) x = rw (any-more a xs x) (sym (or_assoc (holds a y) (any_holds a xs) (holds a x)))

quiet-le : (xs : List Link) → quiet_all xs ≤ furthest_advance
quiet-le [] = omega arith
quiet-le (x ∷ xs) = let h : quiet_all xs ≤ furthest_advance = quiet-le xs in omega arith

eqb_swap : (a b : ℕ) → eqb a b ≡ eqb b a
eqb_swap a b = by-test (eqb a b) refl
  where
    by-test : (t : Bool) → eqb a b ≡ t → t ≡ eqb b a
    by-test true e = sym (eq-eqb b a (sym (eqb-true a b e)))
    by-test false e = sym (ne_eqb b a (λ p. eqb-false a b e (sym p)))

meet-swap : (x y : Link) → (is_held y.state && holds y.address x) ≡ (is_held x.state && holds x.address y)
unfolding holds
meet-swap x y = rw (eqb_swap x.address.0 y.address.0) (by-held (is_held y.state) (is_held x.state) (eqb y.address.0 x.address.0))
  where
    by-held : (a b t : Bool) → (a && (b && t)) ≡ (b && (a && t))
    by-held true true t = refl
    by-held true false t = refl
    by-held false true t = refl
    by-held false false t = refl

regroup : (h p v d c : Bool) → (not (h && (p || v)) && (d && not c)) ≡ ((not (h && p) && d) && not ((h && v) || c))
regroup true true v d c = refl
regroup true false true true true = refl
regroup true false true true false = refl
regroup true false true false c = refl
regroup true false false true c = refl
regroup true false false false c = refl
regroup false p v true c = refl
regroup false p v false c = refl

different-more : (xs : List Link) (x : Link) → different (xs ++ (x ∷ [])) ≡ (different xs && not (is_held x.state && any_holds x.address xs))
different-more [] x = rw (and-false (is_held x.state))
different-more (y ∷ xs) x =
    rw (any-more y.address xs x, different-more xs x)
    (regroup (is_held y.state) (any_holds y.address xs) (holds y.address x) (different xs) (is_held x.state && any_holds x.address xs)
    ∙ rw (meet-swap x y, and-or_distrib_left (is_held x.state) (holds x.address y) (any_holds x.address xs)))

-- the first n links of a table
abbrev pub links_to : ℕ → List (List ℕ) → List Link
links_to zero ls = []
links_to (suc n) ls = links_to n ls ++ (link_in (link_words_at n ls) ∷ [])

length-to : (n : ℕ) (ls : List (List ℕ)) → length (links_to n ls) ≡ n
length-to zero ls = refl
length-to (suc n) ls = rw (length-append, length-to n ls) (omega arith)

-- ---- the tick at which the first link rings
near-min : (w : LinkWords) (m : ℕ) → m ≤ behind → near w m ≡ min m (near w behind)
unfolding near
near-min w m l = by_state (eqb w.state 2) (eqb w.state 1)
  where
    two : min (min m w.watchdog) w.periodic ≡ min m (min (min behind w.watchdog) w.periodic)
    two = omega (arith, l)

    one : min m w.wait ≡ min m (min behind w.wait)
    one = omega (arith, l)

    by_state : (s t : Bool) → cond s (min (min m w.watchdog) w.periodic) (cond t (min m w.wait) m)
        ≡ min m (cond s (min (min behind w.watchdog) w.periodic) (cond t (min behind w.wait) behind))
    by_state true t = two
    by_state false true = one
    by_state false false = omega (arith, l)

abbrev found : Bool → ℕ → ℕ
found s q = cond s (suc q) 0

-- a link more
turn : (w : LinkWords) (s : Bool) (q : ℕ) → q ≤ furthest_advance
    → cond (fits w) (near w (found s q)) 0 ≡ found (s && sound_of (link_in w)) (min q (quiet_of (link_in w)))
turn w s q l = by-sound (sound_of (link_in w)) refl
  where
    by_all : (t : Bool) → min (found t q) (suc (quiet_of (link_in w))) ≡ found (t && true) (min q (quiet_of (link_in w)))
    by_all true = omega arith
    by_all false = omega arith

    few : (t : Bool) → found t q ≤ behind
    few true = omega (arith, l)
    few false = omega arith

    none : (f : Bool) → fits w ≡ f → sound_of (link_in w) ≡ false → cond f (near w (found s q)) 0 ≡ 0
    none true e h =
        ⊎_elim
        (λ (k : near w behind < 1). near-min w (found s q) (few s) ∙ omega (arith, k))
        (λ (k : 1 ≤ near w behind). absurd (false≢true (sym h ∙ (sounds w e k).sound)))
        (cut (near w behind) 1)
    none false e h = refl

    by-sound : (t : Bool) → sound_of (link_in w) ≡ t → cond (fits w) (near w (found s q)) 0 ≡ found (s && t) (min q (quiet_of (link_in w)))
    by-sound true h =
        let p = sound-fits w h in
        rw p.0 ((sounds w p.0 p.1).rings (found s q) (few s) ∙ by_all s)
    by-sound false h = rw (and-false s) (none (fits w) refl h)

pub nearest-is : (n : ℕ) (ls : List (List ℕ)) → nearest_to n ls ≡ found (are_all_sound (links_to n ls)) (quiet_all (links_to n ls))
unfolding nearest_to
nearest-is zero ls = refl
nearest-is (suc n) ls =
    let w : LinkWords = link_words_at n ls in
    let xs : List Link = links_to n ls in
    ap (λ (m : ℕ). cond (fits w) (near w m) 0) (nearest-is n ls)
    ∙ turn w (are_all_sound xs) (quiet_all xs) (quiet-le xs)
    ∙ sym (rw (sound_more xs (link_in w), quiet-more xs (link_in w)))

pub nearest-le : (n : ℕ) (ls : List (List ℕ)) → nearest_to n ls ≤ behind
nearest-le n ls = rw (nearest-is n ls) (by-sound (are_all_sound (links_to n ls)) (quiet-le (links_to n ls)))
  where
    by-sound : (s : Bool) → quiet_all (links_to n ls) ≤ furthest_advance → found s (quiet_all (links_to n ls)) ≤ behind
    by-sound true l = omega (arith, l)
    by-sound false l = omega arith

-- ---- addresses
-- what is known of the last of sound links, and that those before it are sound
pub snoc-sound : (xs : List Link) (w : LinkWords) → are_all_sound (xs ++ (link_in w ∷ [])) ≡ true → (are_all_sound xs ≡ true) × Sounds w
snoc-sound xs w h =
    let p = (and-eq-true_iff (are_all_sound xs) (sound_of (link_in w))).0 (sym (sound_more xs (link_in w)) ∙ h) in
    let f = sound-fits w p.1 in
    (p.0, sounds w f.0 f.1)

any-is : (n : ℕ) (ls : List (List ℕ)) (a : ℕ) → are_all_sound (links_to n ls) ≡ true → 0 < a → any_holds (record { 0 = a }) (links_to n ls) ≡ holds_to n ls a
unfolding holds_to holds
any-is zero ls a h l = refl
any-is (suc n) ls a h l =
    let w : LinkWords = link_words_at n ls in
    let p = snoc-sound (links_to n ls) w h in
    any-more (record { 0 = a }) (links_to n ls) (link_in w)
    ∙ rw (any-is n ls a p.0 l, p.1.held, p.1.address)
    (ap (λ (t : Bool). holds_to n ls a || t) (by-test (eqb (address_at n ls) a) refl))
  where
    by-test : (t : Bool) → eqb (address_at n ls) a ≡ t → (ltb 0 (address_at n ls) && t) ≡ t
    by-test true e = let k : address_at n ls ≡ a = eqb-true (address_at n ls) a e in rw (lt-ltb 0 (address_at n ls) (omega (arith, k, l)))
    by-test false e = and-false (ltb 0 (address_at n ls))

pub differ-is : (n : ℕ) (ls : List (List ℕ)) → are_all_sound (links_to n ls) ≡ true → differ_to n ls ≡ different (links_to n ls)
unfolding differ_to
differ-is zero ls h = refl
differ-is (suc n) ls h =
    let w : LinkWords = link_words_at n ls in
    let p = snoc-sound (links_to n ls) w h in
    let a : (link_in w).address ≡ record { 0 = address_at n ls } = ap (λ (x : ℕ). record { 0 = x }) p.1.address in
    rw (differ-is n ls p.0)
    (ap (λ (t : Bool). different (links_to n ls) && not t) (by-held p.0 (ltb 0 (address_at n ls)) refl)
    ∙ sym (different-more (links_to n ls) (link_in w) ∙ rw (p.1.held, a)))
  where
    by-held : are_all_sound (links_to n ls) ≡ true → (t : Bool) → ltb 0 (address_at n ls) ≡ t
        → (holds_to n ls (address_at n ls) && t) ≡ (t && any_holds (record { 0 = address_at n ls }) (links_to n ls))
    by-held s true e = rw (any-is n ls (address_at n ls) s (ltb-true 0 (address_at n ls) e)) (and-true (holds_to n ls (address_at n ls)))
    by-held s false e = and-false (holds_to n ls (address_at n ls))

-- ---- the whole table
abbrev quiet_table : List Link → ℕ
quiet_table xs = cond (sound_table xs) (quiet_all xs) 0

few-is : (n : ℕ) → n ≤ 64 → is_few n ≡ not (eqb n 0)
unfolding is_few
few-is n h =
    ⊎_elim
    (λ (k : n < 1). rw (lt-leb 1 n k, eq-eqb n 0 (omega (arith, k))))
    (λ (k : 1 ≤ n). rw (le-leb 1 n k, le-leb n 64 h, ne_eqb n 0 (λ e. omega (arith, k, e))))
    (cut n 1)

quiet_by : (n : ℕ) (ls : List (List ℕ)) → n ≤ 64 → cond (eqb n 0) 0 (cond (ltb (nearest_to n ls) 2) 0 (cond (differ_to n ls) (nearest_to n ls - 1) 0)) ≡ quiet_table (links_to n ls)
unfolding sound_table
quiet_by n ls h = rw (length-to n ls, few-is n h, nearest-is n ls) (by-none (eqb n 0) (are_all_sound (links_to n ls)) refl)
  where
    by_near : (t d : Bool) (k : ℕ) → ltb (suc k) 2 ≡ t → cond t 0 (cond d (suc k - 1) 0) ≡ cond d k 0
    by_near true true k e = let l : suc k < 2 = ltb-true (suc k) 2 e in omega (arith, l)
    by_near true false k e = refl
    by_near false true k e = omega arith
    by_near false false k e = refl

    by-none : (z s : Bool) → are_all_sound (links_to n ls) ≡ s
        → cond z 0 (cond (ltb (found s (quiet_all (links_to n ls))) 2) 0 (cond (differ_to n ls) (found s (quiet_all (links_to n ls)) - 1) 0))
        ≡ cond (not z && s && different (links_to n ls)) (quiet_all (links_to n ls)) 0
    by-none true s e = refl
    by-none false true e = rw (differ-is n ls e) (by_near (ltb (suc (quiet_all (links_to n ls))) 2) (different (links_to n ls)) (quiet_all (links_to n ls)) refl)
    by-none false false e = refl

-- the links of a table are those that the words tell
to-of : (m n : ℕ) (ws : List ℕ) → m ≤ n → links_to m (first_chunks 5 n ws) ≡ links_of m ws
unfolding links_of
to-of zero n ws h = refl
to-of (suc m) n ws h =
    ap (λ (xs : List Link). xs ++ (link_in (link_words_at m (first_chunks 5 n ws)) ∷ [])) (to-of m n ws (omega (arith, h)))
    ∙ ap (λ (w : LinkWords). links_of m ws ++ (link_in w ∷ [])) (chunk-words m n ws h)
    ∙ sym (links-more m ws)

length-chunks : (n : ℕ) (ws : List ℕ) → length (first_chunks 5 n ws) ≡ n
length-chunks zero ws = refl
length-chunks (suc n) ws = ap suc (length-chunks n (drop 5 ws))

pub quiet-links-is : (ws : List ℕ) → quiet_links (table_of ws) ≡ quiet_table (links_at ws)
unfolding quiet_links
quiet-links-is ws =
    let n = links_in (length ws) in
    let size : length (table_of ws) ≡ n = length-chunks n ws in
    rw size (quiet_by n (table_of ws) (links-few (length ws)).0) ∙ ap quiet_table (to-of n n ws (omega arith))

-- ---- the next tick alone
least-two : (a b : ℕ) → leb 2 (min a b) ≡ (leb 2 a && leb 2 b)
least-two a b =
    ⊎_elim
    (λ (h : a < 2). rw (lt-leb 2 a h, lt-leb 2 (min a b) (omega (arith, h))))
    (λ (h : 2 ≤ a).
    rw (le-leb 2 a h)
    (⊎_elim (λ (k : b < 2). rw (lt-leb 2 b k, lt-leb 2 (min a b) (omega (arith, k)))) (λ (k : 2 ≤ b). rw (le-leb 2 b k, le-leb 2 (min a b) (omega (arith, h, k)))) (cut b 2)))
    (cut a 2)

-- none of the timers that must run rings at the next tick
unfoldable later : LinkWords → Bool
later w = cond (eqb w.state 2) (leb 2 w.watchdog && leb 2 w.periodic) (cond (eqb w.state 1) (leb 2 w.wait) true)

six : (a b c d e f : Bool) → (a && b && c && d && e && f) ≡ ((a && b && d && f) && (c && e))
six false b c d e f = refl
six true false c d e f = refl
six true true false false e f = refl
six true true false true e f = sym (and-false f)
six true true true false e f = refl
six true true true true false f = sym (and-false f)
six true true true true true f = sym (and-true f)

five : (a b c d e : Bool) → (a && b && c && d && e) ≡ ((a && c && d && e) && b)
five false b c d e = refl
five true false c d e = sym (and-false (c && d && e))
five true true c d e = sym (and-true (c && d && e))

-- a still link is one that fits, and later
still-is : (w : LinkWords) → still w ≡ (fits w && later w)
unfolding still fits later
still-is w = by_state (eqb w.state 2) (eqb w.state 1)
  where
    one : Bool
    one = is_individual (record { 0 = w.address })

    none : Bool
    none = eqb w.state 0 && eqb w.address 0 && eqb w.wait 0 && eqb w.watchdog 0 && eqb w.periodic 0

    by_state : (s t : Bool)
        → cond s (one && eqb w.wait 0 && leb 2 w.watchdog && leb w.watchdog watchdog && leb 2 w.periodic && leb w.periodic periodic)
        (cond t (one && leb 2 w.wait && leb w.wait wait && eqb w.watchdog 0 && eqb w.periodic 0) none)
        ≡ (cond s (one && eqb w.wait 0 && leb w.watchdog watchdog && leb w.periodic periodic)
        (cond t (one && leb w.wait wait && eqb w.watchdog 0 && eqb w.periodic 0) none)
        && cond s (leb 2 w.watchdog && leb 2 w.periodic) (cond t (leb 2 w.wait) true))
    by_state true t = six one (eqb w.wait 0) (leb 2 w.watchdog) (leb w.watchdog watchdog) (leb 2 w.periodic) (leb w.periodic periodic)
    by_state false true = five one (leb 2 w.wait) (leb w.wait wait) (eqb w.watchdog 0) (eqb w.periodic 0)
    by_state false false = sym (and-true none)

later-near : (w : LinkWords) (m : ℕ) → leb 2 (near w m) ≡ (leb 2 m && later w)
unfolding near later
later-near w m = by_state (eqb w.state 2) (eqb w.state 1)
  where
    by_state : (s t : Bool) → leb 2 (cond s (min (min m w.watchdog) w.periodic) (cond t (min m w.wait) m))
        ≡ (leb 2 m && cond s (leb 2 w.watchdog && leb 2 w.periodic) (cond t (leb 2 w.wait) true))
    by_state true t =
        least-two (min m w.watchdog) w.periodic
        ∙ rw (least-two m w.watchdog) (and_assoc (leb 2 m) (leb 2 w.watchdog) (leb 2 w.periodic))
    by_state false true = least-two m w.wait
    by_state false false = sym (and-true (leb 2 m))

abbrev is_still : List ℕ → Bool
is_still w = still (words_at w)

still-to : (n : ℕ) (ls : List (List ℕ)) → n ≤ length ls → list_all is_still (take n ls) ≡ leb 2 (nearest_to n ls)
unfolding nearest_to
still-to zero ls h = refl
still-to (suc n) ls h =
    ap (λ (k : ℕ). list_all is_still (take k ls)) (sym (add-one n))
    ∙ list_all_more is_still ls n [] h
    ∙ rw (still-to n ls (omega (arith, h)), still-is (link_words_at n ls)) (by-fit (fits (link_words_at n ls)))
  where
    by-fit : (t : Bool) → (leb 2 (nearest_to n ls) && (t && later (link_words_at n ls))) ≡ leb 2 (cond t (near (link_words_at n ls) (nearest_to n ls)) 0)
    by-fit true = sym (later-near (link_words_at n ls) (nearest_to n ls))
    by-fit false = rw (and-false (leb 2 (nearest_to n ls)))

module _ (ls : List (List ℕ)) where
  all-still : list_all is_still ls ≡ leb 2 (nearest_to (length ls) ls)
  all-still = ap (list_all is_still) (sym (take_all (length ls) ls (omega arith))) ∙ still-to (length ls) ls (omega arith)

  -- a table of which the next tick is quiet
  pub next-quiet : eqb (length ls) 0 ≡ false → list_all (λ w. still (words_at w)) ls ≡ true → leb 1 (quiet_links ls) ≡ differ_to (length ls) ls
  unfolding quiet_links
  next-quiet z l =
      rw z (by-differ (leb-true 2 (nearest_to (length ls) ls) (sym all-still ∙ l)))
    where
      by-test : 2 ≤ nearest_to (length ls) ls → (t : Bool) → leb 1 (cond t (nearest_to (length ls) ls - 1) 0) ≡ t
      by-test h true = le-leb 1 (nearest_to (length ls) ls - 1) (omega (arith, h))
      by-test h false = refl

      by-differ : 2 ≤ nearest_to (length ls) ls
          → leb 1 (cond (ltb (nearest_to (length ls) ls) 2) 0 (cond (differ_to (length ls) ls) (nearest_to (length ls) ls - 1) 0)) ≡ differ_to (length ls) ls
      by-differ h = rw (le-ltb (nearest_to (length ls) ls) 2 h) (by-test h (differ_to (length ls) ls))

  pub next-rings : list_all (λ w. still (words_at w)) ls ≡ false → leb 1 (quiet_links ls) ≡ false
  unfolding quiet_links
  next-rings l = by-none (eqb (length ls) 0) (leb-false 2 (nearest_to (length ls) ls) (sym all-still ∙ l))
    where
      by-none : (z : Bool) → nearest_to (length ls) ls < 2
          → leb 1 (cond z 0 (cond (ltb (nearest_to (length ls) ls) 2) 0 (cond (differ_to (length ls) ls) (nearest_to (length ls) ls - 1) 0))) ≡ false
      by-none true h = refl
      by-none false h = rw (lt-ltb (nearest_to (length ls) ls) 2 h)

  pub none-quiet : eqb (length ls) 0 ≡ true → quiet_links ls ≡ 0
  unfolding quiet_links
  none-quiet e = rw e
