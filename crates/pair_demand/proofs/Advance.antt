-- A program that advances both ends is a run of single ticks, and demand 3 holds of what it sees.
-- Assumes nothing.
use mathlib.Core.Path.{◌≡◌, refl, sym, ap, subst, ◌∙◌}
use mathlib.Core.List.{List, [], ◌∷◌, ◌++◌, map}
use Prim.Native.Nat.{ℕ, zero, suc, ◌+◌}
use native.Mathlib.Omega.{arith}
use lib.ListN.{replicate}
use Rattle.pair_demand.specs.Run.{Answer, End, Holds, HasRegistered, Aged, stamp, olden, Moment, Event, both-tick, after, Allowed, play, Lawful, tally, ticks, Through, Start, Span, last, length-of, All-through, NoHalfOpen}
use Rattle.pair_demand.specs.Advance.{Advance, older, later, Step, event, both-advance, step, Allows, Runs, count, Seen, singles, events-of, Reads, Program, first-seen, last-seen, ticks-made, Always, NoHalfOpenSeen}
use Rattle.pair_demand.specs.Singly.{untold, Alike, Singly}

-- ages
module _ {F : Type 0} where
  older-none : (l : List (Aged F)) → map (older 0) l ≡ l
  older-none [] = refl
  older-none (x ∷ l) =
      let n : 0 + x.age ≡ x.age = omega arith in
      rw (n, older-none l)

  older-next : (k : ℕ) (l : List (Aged F)) → map (older k) (map olden l) ≡ map (older (suc k)) l
  older-next k [] = refl
  older-next k (x ∷ l) =
      let n : k + suc x.age ≡ suc k + x.age = omega arith in
      rw (n, older-next k l)

module _ {Up Down : Type 0} (Head : End Up Down) (Box : End Down Up) where
  abbrev M : Type 0
  M = Moment Head Box

  abbrev Es : Type 0
  Es = List (Event Head Box)

  -- one run after another
  lawful-join : (D : ℕ) (m : M) (es fs : Es) → Lawful Head Box D m es → Lawful Head Box D (play Head Box m es) fs → Lawful Head Box D m (es ++ fs)
  lawful-join D m [] fs l k = k
  lawful-join D m (e ∷ es) fs l k = (l.0, lawful-join D (after Head Box m e) es fs l.1 k)

  play-join : (m : M) (es fs : Es) → play Head Box m (es ++ fs) ≡ play Head Box (play Head Box m es) fs
  play-join m [] fs = refl
  play-join m (e ∷ es) fs = play-join (after Head Box m e) es fs

  ticks-first : (e : Event Head Box) (n k : ℕ) → tally Head Box e (n + k) ≡ tally Head Box e n + k
  ticks-first (Event.head-call c) n k = refl
  ticks-first (Event.head-hears v x) n k = refl
  ticks-first (Event.box-call c) n k = refl
  ticks-first (Event.box-hears v x) n k = refl
  ticks-first (both-tick h b) n k = omega arith

  ticks-join : (es fs : Es) → ticks Head Box (es ++ fs) ≡ ticks Head Box es + ticks Head Box fs
  ticks-join [] fs = omega arith
  ticks-join (e ∷ es) fs = ap (tally Head Box e) (ticks-join es fs) ∙ ticks-first e (ticks Head Box es) (ticks Head Box fs)

  module _ (P : M → Type 0) where
    -- the moment in the middle is the last of the first run
    through-join : (m : M) (es fs : Es) → Through Head Box P m es → Through Head Box P (play Head Box m es) fs → Through Head Box P m (es ++ fs)
    through-join m [] fs t u = u
    through-join m (e ∷ es) fs t u = (t.0, through-join (after Head Box m e) es fs t.1 u)

  -- both ends tick k times
  module _ (D : ℕ) (h : Head.Lent) (b : Box.Lent) (LH : Head.State → Type 0) (LB : Box.State → Type 0) where
    abbrev both : ℕ → Es
    both k = replicate k (both-tick h b)

    abbrev AH : Type 0
    AH = Answer Head.State Down

    abbrev AB : Type 0
    AB = Answer Box.State Up

    -- the moment after two answers, where this was handed out before
    abbrev from : AH → AB → List (Aged Down) → List (Aged Up) → M
    from x y d u = record { head = x.next; box = y.next; down = map stamp x.sent ++ d; up = map stamp y.sent ++ u }

    -- where nothing was handed out
    onward : (x : AH) (y : AB) (d : List (Aged Down)) (u : List (Aged Up)) → x.sent ≡ [] → y.sent ≡ []
        → after Head Box (from x y d u) (both-tick h b)
        ≡ from (Head.tick x.next h) (Box.tick y.next b) (map olden d) (map olden u)
    onward x y d u e f = rw (e, f)

    ticks-both : (k : ℕ) → ticks Head Box (both k) ≡ k
    ticks-both zero = refl
    ticks-both (suc k) = ap suc (ticks-both k)

    lawful_both : (k : ℕ) (x xs : AH) (y ys : AB) (d : List (Aged Down)) (u : List (Aged Up)) → Singly Head LH h k x xs → Singly Box LB b k y ys
        → Lawful Head Box D (from x y d u) (both k)
    lawful_both zero x xs y ys d u s t = tt
    lawful_both (suc k) x xs y ys d u s t = (
      (s.2, t.2),
      subst (λ (m : M). Lawful Head Box D m (both k)) (sym (onward x y d u s.1 t.1))
          (lawful_both k (Head.tick x.next h) xs (Box.tick y.next b) ys (map olden d) (map olden u) s.3 t.3),
    )

    play-both : (k : ℕ) (x xs : AH) (y ys : AB) (d : List (Aged Down)) (u : List (Aged Up)) → Singly Head LH h k x xs → Singly Box LB b k y ys
        → play Head Box (from x y d u) (both k) ≡ from xs ys (map (older k) d) (map (older k) u)
    play-both zero x xs y ys d u s t = rw (older-none d, older-none u, s, t)
    play-both (suc k) x xs y ys d u s t =
        ap (λ (m : M). play Head Box m (both k)) (onward x y d u s.1 t.1)
        ∙ play-both k (Head.tick x.next h) xs (Box.tick y.next b) ys (map olden d) (map olden u) s.3 t.3
        ∙ rw (older-next k d, older-next k u)

    -- the law: single ticks of both ends, as many of each, are so many ticks of a run
    pub jointly : (k : ℕ) (m : M) (xs : AH) (ys : AB) → Singly Head LH h k (untold Head m.head) xs → Singly Box LB b k (untold Box m.box) ys
        → Lawful Head Box D m (both k) × (play Head Box m (both k) ≡ later Head Box k m xs ys) × (ticks Head Box (both k) ≡ k)
    jointly k m xs ys s t = (
      lawful_both k (untold Head m.head) xs (untold Box m.box) ys m.down m.up s t,
      play-both k (untold Head m.head) xs (untold Box m.box) ys m.down m.up s t,
      ticks-both k,
    )

    -- what holds of all moments that are like the first, and at the end
    through-both : (P : M → Type 0) → ((m : M) → LH m.head → LB m.box → P m)
        → (k : ℕ) (x xs : AH) (y ys : AB) (d : List (Aged Down)) (u : List (Aged Up)) → Singly Head LH h k x xs → Singly Box LB b k y ys
        → P (play Head Box (from x y d u) (both k)) → Through Head Box P (from x y d u) (both k)
    through-both P f zero x xs y ys d u s t e = e
    through-both P f (suc k) x xs y ys d u s t e = (
      f (from x y d u) s.0 t.0,
      subst (λ (m : M). Through Head Box P m (both k)) (sym (onward x y d u s.1 t.1))
          (through-both P f k (Head.tick x.next h) xs (Box.tick y.next b) ys (map olden d) (map olden u) s.3 t.3
          (subst (λ (m : M). P (play Head Box m (both k))) (onward x y d u s.1 t.1) e)),
    )

  module _ (HA : Advance Head) (BA : Advance Box) where
    abbrev St : Type 0
    St = Step Head Box HA BA

    -- what an end owes: in a state that a run leaves, an advance that is done is the single ticks that it made
    pub record Made (Gh : Head.State → Type 0) (GB : Box.State → Type 0) (D : ℕ) : Type 0 where
      pub starts : (m : M) → Start Head Box m → Gh m.head × GB m.box
      pub stays : (m : M) (e : Event Head Box) → Gh m.head × GB m.box → Allowed Head Box D m e
          → Gh (after Head Box m e).head × GB (after Head Box m e).box
      pub head : (s : Head.State) (q : HA.Asked) → Gh s → (HA.advance s q).reply ≡ 0
          → Singly Head (Alike Head s) (HA.lent q) (HA.made s q) (untold Head s) (HA.advance s q)
      pub box : (s : Box.State) (q : BA.Asked) → GB s → (BA.advance s q).reply ≡ 0
          → Singly Box (Alike Box s) (BA.lent q) (BA.made s q) (untold Box s) (BA.advance s q)

    module _ (Gh : Head.State → Type 0) (GB : Box.State → Type 0) (D : ℕ) (o : Made Gh GB D) where
      abbrev Goods : M → Type 0
      Goods m = Gh m.head × GB m.box

      good-play : (m : M) (es : Es) → Goods m → Lawful Head Box D m es → Goods (play Head Box m es)
      good-play m [] g l = g
      good-play m (e ∷ es) g l = good-play (after Head Box m e) es (o.stays m e g l.0) l.1

      -- one step
      record One (m : M) (s : St) : Type 0 where
        lawful : Lawful Head Box D m (singles Head Box HA BA m s)
        same : play Head Box m (singles Head Box HA BA m s) ≡ step Head Box HA BA m s
        counted : (n : ℕ) → ticks Head Box (singles Head Box HA BA m s) + n ≡ count Head Box HA BA m s n

      one-event : (m : M) (e : Event Head Box) → Allowed Head Box D m e → One m (event e)
      one-event m e a =
          record { lawful = (a, tt); same = refl; counted = λ n. sym (ticks-first e 0 n) ∙ ap (tally Head Box e) (omega arith) }

      module _ (m : M) (g : Goods m) (h : HA.Asked) (b : BA.Asked) (a : Allows Head Box HA BA D m (both-advance h b)) where
        abbrev k : ℕ
        k = HA.made m.head h

        head-singly : Singly Head (Alike Head m.head) (HA.lent h) k (untold Head m.head) (HA.advance m.head h)
        head-singly = o.head m.head h g.0 a.0

        box-singly : Singly Box (Alike Box m.box) (BA.lent b) k (untold Box m.box) (BA.advance m.box b)
        box-singly =
            subst (λ (n : ℕ). Singly Box (Alike Box m.box) (BA.lent b) n (untold Box m.box) (BA.advance m.box b)) (sym a.2)
            (o.box m.box b g.1 a.1)

        one-advance : One m (both-advance h b)
        one-advance =
            let j =
            jointly D (HA.lent h) (BA.lent b) (Alike Head m.head) (Alike Box m.box) k m (HA.advance m.head h) (BA.advance m.box b)
            head-singly box-singly in
            record { lawful = j.0; same = j.1; counted = λ n. ap (λ (i : ℕ). i + n) j.2 }

      one : (m : M) (s : St) → Goods m → Allows Head Box HA BA D m s → One m s
      one m (event e) g a = one-event m e a
      one m (both-advance h b) g a = one-advance m g h b a

      -- the theorem
      pub reads : (m : M) (ss : List St) → Goods m → Runs Head Box HA BA D m ss → Reads Head Box HA BA D m ss
      reads m [] g r = record { lawful = tt; same = refl; ticked = refl }
      reads m (s ∷ ss) g r =
          let x = one m s g r.0 in
          let es = singles Head Box HA BA m s in
          let n = step Head Box HA BA m s in
          let y = reads n ss (subst Goods x.same (good-play m es g x.lawful)) r.1 in
          let fs = events-of Head Box HA BA n ss in
          record {
            lawful = lawful-join D m es fs x.lawful (subst (λ (z : M). Lawful Head Box D z fs) (sym x.same) y.lawful);
            same = play-join m es fs ∙ ap (λ (z : M). play Head Box z fs) x.same ∙ y.same;
            ticked = ticks-join es fs ∙ x.counted (ticks Head Box fs) ∙ ap (count Head Box HA BA m s) y.ticked;
          }

      -- what looks at nothing but what the states tell, and holds where the program sees it, holds all the time
      module _ (P : M → Type 0) (like : (m n : M) → Alike Head m.head n.head → Alike Box m.box n.box → P m → P n) where
        one-through : (m : M) (s : St) → Goods m → Allows Head Box HA BA D m s → P m → P (step Head Box HA BA m s)
            → Through Head Box P m (singles Head Box HA BA m s)
        one-through m (event e) g a p q = (p, q)
        one-through m (both-advance h b) g a p q =
            through-both D (HA.lent h) (BA.lent b) (Alike Head m.head) (Alike Box m.box) P (λ n x y. like m n x y p) (k m g h b a)
            (untold Head m.head) _ (untold Box m.box) _ m.down m.up (head-singly m g h b a) (box-singly m g h b a)
            (subst P (sym (one-advance m g h b a).same) q)

        first_holds : (m : M) (ss : List St) → Seen Head Box HA BA P m ss → P m
        first_holds m [] v = v
        first_holds m (s ∷ ss) v = v.0

        pub seen-through : (m : M) (ss : List St) → Goods m → Runs Head Box HA BA D m ss → Seen Head Box HA BA P m ss
            → Through Head Box P m (events-of Head Box HA BA m ss)
        seen-through m [] g r v = v
        seen-through m (s ∷ ss) g r v =
            let x = one m s g r.0 in
            let es = singles Head Box HA BA m s in
            let n = step Head Box HA BA m s in
            let t = seen-through n ss (subst Goods x.same (good-play m es g x.lawful)) r.1 v.1 in
            through-join P m es (events-of Head Box HA BA n ss) (one-through m s g r.0 v.0 (first_holds n ss v.1))
            (subst (λ (z : M). Through Head Box P z (events-of Head Box HA BA n ss)) (sym x.same) t)

      -- a program is a span of a run
      module _ (x : Program Head Box HA BA D) where
        abbrev begun : Reads Head Box HA BA D x.start x.before
        begun = reads x.start x.before (o.starts x.start x.fresh) x.lawful-before

        good-first : Goods (first-seen Head Box HA BA x)
        good-first =
            subst Goods begun.same (good-play x.start (events-of Head Box HA BA x.start x.before) (o.starts x.start x.fresh) begun.lawful)

        abbrev rest : Reads Head Box HA BA D (first-seen Head Box HA BA x) x.steps
        rest = reads (first-seen Head Box HA BA x) x.steps good-first x.lawful

        abbrev its : Es
        its = events-of Head Box HA BA (first-seen Head Box HA BA x) x.steps

        pub span : Span Head Box D
        span =
            record {
              start = x.start;
              fresh = x.fresh;
              before = events-of Head Box HA BA x.start x.before;
              events = its;
              lawful-before = begun.lawful;
              lawful = subst (λ (z : M). Lawful Head Box D z its) (sym begun.same) rest.lawful;
            }

        pub span_last : last Head Box span ≡ last-seen Head Box HA BA x
        unfolding span
        span_last = ap (λ (z : M). play Head Box z its) begun.same ∙ rest.same

        pub span-length : length-of Head Box span ≡ ticks-made Head Box HA BA x
        unfolding span
        span-length = rest.ticked

        pub span-through : (P : M → Type 0) → ((m n : M) → Alike Head m.head n.head → Alike Box m.box n.box → P m → P n)
            → Always Head Box HA BA x P → All-through Head Box span P
        unfolding span
        span-through P like a =
            subst (λ (z : M). Through Head Box P z its) (sym begun.same)
            (seen-through P like (first-seen Head Box HA BA x) x.steps good-first x.lawful a)

      pub seen-demand : (W T : ℕ) → NoHalfOpen Head Box D W T → NoHalfOpenSeen Head Box HA BA D W T
      seen-demand W T n =
          record {
            box-drops = λ x l a r.
                n.box-drops (span x) (omega (arith, l, span-length x))
                (span-through x (λ m. ¬ Holds Head m.head) (λ m z i j p y. p (y.0, (i.held y.0).1 y.1)) a)
                (subst (λ (m : M). HasRegistered Box m.box) (sym (span_last x)) r);
            head-drops = λ x l a r.
                n.head-drops (span x) (omega (arith, l, span-length x))
                (span-through x (λ m. ¬ HasRegistered Box m.box) (λ m z i j p y. p (y.0, (j.registered y.0).1 y.1)) a)
                (subst (λ (m : M). HasRegistered Head m.head) (sym (span_last x)) r);
            box-wait = λ x p a.
                omega (arith, span-length x, n.box-wait (span x) p (span-through x (λ m. Box.Waiting m.box p) (λ m z i j w. (j.waiting p).0 w) a));
            head-wait = λ x p a.
                omega (arith, span-length x, n.head-wait (span x) p (span-through x (λ m. Head.Waiting m.head p) (λ m z i j w. (i.waiting p).0 w) a));
          }
