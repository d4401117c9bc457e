-- The states that the statement speaks of stand in the words where the header has them.
-- Assumes nothing.
use Prim.Native.Nat.{ℕ, zero, suc, ◌+◌, ◌*◌, ◌<◌}
use mathlib.Core.Path.{◌≡◌, refl, sym, ap, subst, ◌∙◌}
use mathlib.Core.Bool.{Bool, true, false, cond, false≢true}
use mathlib.Core.List.{List, [], ◌∷◌, ◌++◌}
use mathlib.Core.Logic.{◌≢◌, ⊎_elim}
use native.Mathlib.Omega.{arith}
use borrow.Author.Tests.{eq-eqb, ne_eqb, eqb-true}
use lib.Dec.{eqb}
use lib.ListN.{length, take, get_or, replicate}
use lib.Seq.{get_or-take, get_or-append-add}
use Rattle.laws.specs.Cases.{decided}
use Rattle.frame.specs.declared.Address.{Address}
use Rattle.box_registration.specs.declared.State as box-state
use Rattle.box_registration.specs.declared.State.TheVariants as Box
use Rattle.head_links.specs.Link.{is_held}
use Rattle.head_links.specs.declared.Link.{Link}
use Rattle.head_links.specs.declared.State.{State}
use Rattle.head_links.specs.declared.State.TheVariants.{Idle, Waiting, Registered}
use Rattle.head_survey.specs.Facts.{link_from}
use Rattle.face_box.specs.Box as bw
use Rattle.face_words.specs.Laws.{laid-whole}
use Rattle.face_head.proofs.Laws.{length-links}
use Rattle.face_head.specs.Table.{state_word, link_words, five, links_in, links_at, table_words}
use Rattle.pair_box.specs.End as end
use Rattle.pair_head.specs.End.{link_at, HeadEnd}
use Rattle.face_box_calls.specs.Calls.{words_at, box_at}
use Rattle.pair_demand.specs.Faithful.{Same, Tells}
use Rattle.face_pair.specs.Box.{BoxFace}
use Rattle.face_pair.specs.Head as head
use Rattle.face_pair.specs.Head.{state_at, HeadFace, HeadWords}
use Rattle.face_pair.proofs.Box as boxes
use Rattle.face_pair.proofs.Head as heads

-- THE BOX
registered-of : (s : box-state.State) → bw.state_word s ≡ 3 → s ≡ Box.Registered
registered-of Box.Wait h = absurd (omega arith)
registered-of Box.Registering h = absurd (omega arith)
registered-of Box.RegisterReq h = absurd (omega arith)
registered-of Box.Registered h = refl

waiting-of : (s : box-state.State) → bw.state_word s ≡ 2 → s ≡ Box.RegisterReq
waiting-of Box.Wait h = absurd (omega arith)
waiting-of Box.Registering h = absurd (omega arith)
waiting-of Box.RegisterReq h = refl
waiting-of Box.Registered h = absurd (omega arith)

module _ (A : Address) (block : List ℕ) (g : boxes.Good A block) where
  abbrev at : box-state.State
  at = end.state_of (box_at block)

  there : get_or (words_at block) 2 0 ≡ bw.state_word at
  unfolding bw.box_words bw.front_words
  there = ap (λ (w : List ℕ). get_or w 2 0) g.packed

  whole : get_or (words_at block) 2 0 ≡ get_or block 2 0
  unfolding words_at
  whole = ap (λ (w : List ℕ). get_or w 2 0) (laid-whole block (replicate 29 0) g.room) ∙ get_or-take 29 block 2 0 (omega arith)

  word-is : get_or block 2 0 ≡ bw.state_word at
  word-is = sym whole ∙ there

  box-registered : Same (get_or block 2 0 ≡ 3) (at ≡ Box.Registered)
  box-registered = (
    λ (h : get_or block 2 0 ≡ 3). registered-of at (sym word-is ∙ h),
    λ (h : at ≡ Box.Registered). word-is ∙ ap bw.state_word h,
  )

  box-waiting : Same (get_or block 2 0 ≡ 2) (at ≡ Box.RegisterReq)
  box-waiting = (
    λ (h : get_or block 2 0 ≡ 2). waiting-of at (sym word-is ∙ h),
    λ (h : at ≡ Box.RegisterReq). word-is ∙ ap bw.state_word h,
  )

-- THE HEAD
registered-is : (s : State) → state_word s ≡ 2 → s ≡ Registered
registered-is Idle e = absurd (omega arith)
registered-is Waiting e = absurd (omega arith)
registered-is Registered e = refl

waiting-is : (s : State) → state_word s ≡ 1 → s ≡ Waiting
waiting-is Idle e = absurd (omega arith)
waiting-is Waiting e = refl
waiting-is Registered e = absurd (omega arith)

held-is : (s : State) → state_word s ≢ 0 → is_held s ≡ true
held-is Idle e = absurd (e refl)
held-is Waiting e = refl
held-is Registered e = refl

held_word : (s : State) → is_held s ≡ true → state_word s ≢ 0
held_word Idle e = absurd (false≢true e)
held_word Waiting e = omega arith
held_word Registered e = omega arith

-- the first two words of the link at a place
abbrev Stands : List ℕ → ℕ → Link → Type 0
Stands ws i l = (get_or ws (5 * i) 0 ≡ l.address.0) × (get_or ws (5 * i + 1) 0 ≡ state_word l.state)

further : (x : Link) (rest : List ℕ) (n : ℕ) → get_or (five (link_words x) ++ rest) (5 + n) 0 ≡ get_or rest n 0
further x rest n = get_or-append-add (five (link_words x)) rest n 0

link-stands : (xs : List Link) (i j : ℕ) → i < length xs → Stands (table_words xs) i (link_from (j + i) j xs)
unfolding table_words
link-stands [] i j h = absurd (omega arith)
link-stands (x ∷ xs) zero j h = rw (eq-eqb j (j + 0) (omega arith)) (refl, refl)
link-stands (x ∷ xs) (suc i) j h =
    let other : eqb j (j + suc i) ≡ false = ne_eqb j (j + suc i) (λ (e : j ≡ j + suc i). omega arith) in
    let on : j + suc i ≡ suc j + i = omega arith in
    let one : 5 * suc i ≡ 5 + 5 * i = omega arith in
    let two : 5 + 5 * i + 1 ≡ 5 + (5 * i + 1) = omega arith in
    let k = link-stands xs i (suc j) (omega arith) in
    let same : link_from (j + suc i) j (x ∷ xs) ≡ link_from (suc j + i) (suc j) xs =
    ap (λ (b : Bool). cond b x (link_from (j + suc i) (suc j) xs)) other ∙ ap (λ (n : ℕ). link_from n (suc j) xs) on in
    subst (λ (l : Link). Stands (table_words (x ∷ xs)) (suc i) l) (sym same) (
      ap (λ (n : ℕ). get_or (table_words (x ∷ xs)) n 0) one ∙ further x (table_words xs) (5 * i) ∙ k.0,
      ap (λ (n : ℕ). get_or (table_words (x ∷ xs)) (n + 1) 0) one ∙ ap (λ (n : ℕ). get_or (table_words (x ∷ xs)) n 0) two
          ∙ further x (table_words xs) (5 * i + 1) ∙ k.1,
    )

-- a number whose link is held is a place's
found : (xs : List Link) (n j : ℕ) → is_held (link_from n j xs).state ≡ true → (i : ℕ) × (n ≡ j + i) × (i < length xs)
found [] n j h = absurd (false≢true h)
found (x ∷ xs) n j h =
    ⊎_elim
    (λ (e : eqb j n ≡ true). (0, omega (arith, eqb-true j n e), omega arith))
    (λ (e : eqb j n ≡ false).
    let k = found xs n (suc j) (rw e at h) in
    (suc k.0, omega (arith, k.1), omega (arith, k.2)))
    (decided (eqb j n))

module _ (A : Address) (w : head.Words) (g : heads.Good w) where
  abbrev number : ℕ
  number = links_in (length w.links)

  size : length (links_at w.links) ≡ number
  size = length-links number w.links

  found_at : (n : ℕ) → is_held (link_at (state_at w) n).state ≡ true → (i : ℕ) × (n ≡ suc i) × (i < number)
  found_at n k =
      let f = found (links_at w.links) n 1 k in
      (f.0, f.1 ∙ omega arith, omega (arith, f.2, size))

  module _ (i : ℕ) (h : i < number) where
    abbrev l : Link
    l = link_at (state_at w) (suc i)

    stands : Stands w.links i l
    stands =
        let one : 1 + i ≡ suc i = omega arith in
        let k = link-stands (links_at w.links) i 1 (rw size h) in
        let first : get_or (take (5 * number) w.links) (5 * i) 0 ≡ get_or w.links (5 * i) 0 = get_or-take (5 * number) w.links (5 * i) 0 (omega arith) in
        let second : get_or (take (5 * number) w.links) (5 * i + 1) 0 ≡ get_or w.links (5 * i + 1) 0 =
        get_or-take (5 * number) w.links (5 * i + 1) 0 (omega arith) in
        let at : (n : ℕ) → get_or (take (5 * number) w.links) n 0 ≡ get_or (table_words (links_at w.links)) n 0 =
        λ n. ap (λ (u : List ℕ). get_or u n 0) g.links-packed in
        let m : Stands (table_words (links_at w.links)) i l = rw one at k in
        (sym first ∙ at (5 * i) ∙ m.0, sym second ∙ at (5 * i + 1) ∙ m.1)

    address_is : get_or w.links (5 * i) 0 ≡ A.0 → l.address ≡ A
    address_is e = ap (λ (n : ℕ). record { 0 = n }) (sym stands.0 ∙ e)

  -- what its words tell is so of the link
  head-registered : (n : ℕ) → Same ((HeadWords A).Registered w n) ((HeadEnd A).Registered (state_at w) n)
  head-registered n = (
    λ (k : (HeadWords A).Registered w n).
        let i = k.0 in
        let h = k.2 in
        subst ((HeadEnd A).Registered (state_at w)) (sym k.1)
        (registered-is (l i h).state (sym (stands i h).1 ∙ k.3.0), address_is i h k.3.1),
    λ (k : (HeadEnd A).Registered (state_at w) n).
        let f = found_at n (ap is_held k.0) in
        let i = f.0 in
        let h = f.2 in
        let m : (HeadEnd A).Registered (state_at w) (suc i) = subst ((HeadEnd A).Registered (state_at w)) f.1 k in
        (i, f.1, h, ((stands i h).1 ∙ ap state_word m.0, (stands i h).0 ∙ ap (λ (a : Address). a.0) m.1)),
  )

  head-held : (n : ℕ) → Same ((HeadWords A).Held w n) ((HeadEnd A).Held (state_at w) n)
  head-held n = (
    λ (k : (HeadWords A).Held w n).
        let i = k.0 in
        let h = k.2 in
        subst ((HeadEnd A).Held (state_at w)) (sym k.1)
        (held-is (l i h).state (λ (z : state_word (l i h).state ≡ 0). k.3.0 ((stands i h).1 ∙ z)), address_is i h k.3.1),
    λ (k : (HeadEnd A).Held (state_at w) n).
        let f = found_at n k.0 in
        let i = f.0 in
        let h = f.2 in
        let m : (HeadEnd A).Held (state_at w) (suc i) = subst ((HeadEnd A).Held (state_at w)) f.1 k in
        (i, f.1, h, (λ z. held_word (l i h).state m.0 (sym (stands i h).1 ∙ z), (stands i h).0 ∙ ap (λ (a : Address). a.0) m.1)),
  )

  head-waiting : (n : ℕ) → Same ((HeadWords A).Waiting w n) ((HeadEnd A).Waiting (state_at w) n)
  head-waiting n = (
    λ (k : (HeadWords A).Waiting w n).
        let i = k.0 in
        let h = k.2 in
        subst ((HeadEnd A).Waiting (state_at w)) (sym k.1) (waiting-is (l i h).state (sym (stands i h).1 ∙ k.3)),
    λ (k : (HeadEnd A).Waiting (state_at w) n).
        let f = found_at n (ap is_held k) in
        let i = f.0 in
        let h = f.2 in
        let m : (HeadEnd A).Waiting (state_at w) (suc i) = subst ((HeadEnd A).Waiting (state_at w)) f.1 k in
        (i, f.1, h, (stands i h).1 ∙ ap state_word m),
  )

pub box-tells : (A : Address) → Tells (BoxFace A) (boxes.Good A)
box-tells A =
    record {
      held = λ block g p. box-registered A block g;
      registered = λ block g p. box-registered A block g;
      waiting = λ block g p. box-waiting A block g;
    }

pub head-tells : (A : Address) → Tells (HeadFace A) heads.Good
head-tells A = record { held = head-held A; registered = head-registered A; waiting = head-waiting A }
