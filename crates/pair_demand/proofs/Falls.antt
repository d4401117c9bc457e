-- What a run leaves of the box's watchdog while the head is silent, and of the box's wait: by induction over its events.
-- Assumes nothing.
use mathlib.Core.Path.{◌≡◌, refl}
use mathlib.Core.Bool.{Bool, true, false}
use mathlib.Core.List.{List, [], ◌∷◌, ◌++◌, map, Memᴰ}
use Prim.Native.Nat.{ℕ, suc, ◌+◌, ◌≤◌, ◌<◌}
use native.Mathlib.Omega.{arith}
use Rattle.pair_demand.specs.Run.{Answer, End, HasRegistered, Aged, stamp, olden, Moment, Event, head-call, head-hears, box-call, box-hears, both-tick, after, Allowed, play, Lawful, tally, ticks, Through}
use Rattle.pair_demand.specs.Laws.{All, Gauge, Step, Laws}
use Rattle.pair_demand.proofs.Small.{all-at, all_join, all_any, all_map, clash}

-- k ticks into a span in which the other end is not alive: each frame that may restart a watchdog is at least k ticks old
abbrev Old : {F : Type 0} → (F → Bool) → ℕ → Aged F → Type 0
Old keeps k x = keeps x.frame ≡ true → k ≤ x.age

module _ {F : Type 0} (keeps : F → Bool) (k : ℕ) where
  old-sent : (fs : List F) (l : List (Aged F)) → All (λ f. keeps f ≡ false) fs → All (Old keeps k) l → All (Old keeps k) (map stamp fs ++ l)
  old-sent fs l h old =
      all_join (Old keeps k) (map stamp fs) l
      (all_map (λ f. keeps f ≡ false) (Old keeps k) stamp (λ f e t. absurd (clash (keeps f) e t)) fs h) old

  old-tick : (l : List (Aged F)) → All (Old keeps k) l → All (Old keeps (suc k)) (map olden l)
  old-tick l old = all_map (Old keeps k) (Old keeps (suc k)) olden (λ x h t. omega (arith, h t)) l old

-- and each registered link has at most b - k ticks left
abbrev Low : {In Out : Type 0} (E : End In Out) → Gauge E → ℕ → ℕ → E.State → Type 0
Low E G b k s = (p : E.Place) → E.Registered s p → G.dog s p + k ≤ b

module _ {In Out : Type 0} (E : End In Out) (G : Gauge E) (Alive : E.State → Type 0) (lives : Out → Bool) (keeps : In → Bool) (W T : ℕ)
    (L : Laws E G Alive lives keeps W T) (D k : ℕ) where
  low-falls : (loss j : ℕ) (s : E.State) (a : Answer E.State Out) → Step E G Alive lives loss false s a → j ≤ loss + k
      → Low E G (D + W) k s → Low E G (D + W) j a.next
  low-falls loss j s a st le low p r =
      let f = st.dog-falls refl p r in
      omega (arith, le, f.1, low p f.0)

  low-hear : (s : E.State) (a : Answer E.State Out) (l : List (Aged In)) (x : Aged In) → Step E G Alive lives 0 (keeps x.frame) s a
      → Memᴰ x l → x.age ≤ D → All (Old keeps k) l → Low E G (D + W) k s → Low E G (D + W) k a.next
  low-hear s a l x st m le old low = go (keeps x.frame) refl
    where
      go : (b : Bool) → keeps x.frame ≡ b → Low E G (D + W) k a.next
      go true e p r = omega (arith, all-at (Old keeps k) m old e, (L.dog-range a.next st.ok p r).1)
      go false e p r =
          let f = st.dog-falls e p r in
          omega (arith, f.1, low p f.0)

module _ {Up Down : Type 0} (Head : End Up Down) (Box : End Down Up) (D : ℕ) where
  through-first : (P : Moment Head Box → Type 0) (m : Moment Head Box) (es : List (Event Head Box)) → Through Head Box P m es → P m
  through-first P m [] t = t
  through-first P m (e ∷ es) t = t.0

  through-last : (P : Moment Head Box → Type 0) (m : Moment Head Box) (es : List (Event Head Box)) → Through Head Box P m es
      → P (play Head Box m es)
  through-last P m [] t = t
  through-last P m (e ∷ es) t = through-last P (after Head Box m e) es t.1

  tally-add : (e : Event Head Box) (k n : ℕ) → tally Head Box e k + n ≡ k + tally Head Box e n
  tally-add (head-call c) k n = refl
  tally-add (head-hears v x) k n = refl
  tally-add (box-call c) k n = refl
  tally-add (box-hears v x) k n = refl
  tally-add (both-tick h b) k n = omega arith

  -- what an event keeps while P holds, counting ticks, holds at the end of a run
  pub climb : (I : ℕ → Moment Head Box → Type 0) (P : Moment Head Box → Type 0)
      → ((k : ℕ) (m : Moment Head Box) (e : Event Head Box) → Allowed Head Box D m e → P m → P (after Head Box m e) → I k m
      → I (tally Head Box e k) (after Head Box m e))
      → (es : List (Event Head Box)) (k : ℕ) (m : Moment Head Box) → I k m → Lawful Head Box D m es → Through Head Box P m es
      → (n : ℕ) × (n ≡ k + ticks Head Box es) × I n (play Head Box m es)
  climb I P step [] k m i l t = (k, omega arith, i)
  climb I P step (e ∷ es) k m i l t =
      let j = step k m e l.0 t.0 (through-first P (after Head Box m e) es t.1) i in
      let up = climb I P step es (tally Head Box e k) (after Head Box m e) j l.1 t.1 in
      (up.0, omega (arith, up.1, tally-add e k (ticks Head Box es)), up.2)

  module _ (Gh : Gauge Head) (GB : Gauge Box) (HeadLives : Head.State → Type 0) (BoxLives : Box.State → Type 0)
      (down : Down → Bool) (up : Up → Bool) (W T : ℕ) (LH : Laws Head Gh HeadLives down up W T) (LB : Laws Box GB BoxLives up down W T) where
    abbrev pub Oks : Moment Head Box → Type 0
    Oks m = Gh.Ok m.head × GB.Ok m.box

    pub ok_step : (m : Moment Head Box) (e : Event Head Box) → Allowed Head Box D m e → Oks m → Oks (after Head Box m e)
    ok_step m (head-call c) a o = ((LH.of-call m.head c o.0 a).ok, o.1)
    ok_step m (head-hears v x) a o = ((LH.of-hear m.head v x.frame o.0).ok, o.1)
    ok_step m (box-call c) a o = (o.0, (LB.of-call m.box c o.1 a).ok)
    ok_step m (box-hears v x) a o = (o.0, (LB.of-hear m.box v x.frame o.1).ok)
    ok_step m (both-tick h b) a o = ((LH.of-tick m.head h o.0 a.0).ok, (LB.of-tick m.box b o.1 a.1).ok)

    -- the box's watchdog, while the head does not live
    abbrev Lowers : ℕ → Moment Head Box → Type 0
    Lowers k m = Oks m × Low Box GB (D + W) k m.box × All (Old down k) m.down

    lowers : (k : ℕ) (m : Moment Head Box) (e : Event Head Box) → Allowed Head Box D m e → ¬ HeadLives m.head
        → ¬ HeadLives (after Head Box m e).head → Lowers k m → Lowers (tally Head Box e k) (after Head Box m e)
    lowers k m (head-call c) a p q i =
        let st = LH.of-call m.head c i.0.0 a in
        (ok_step m (head-call c) a i.0, i.1, old-sent down k (Head.call m.head c).sent m.down (st.silent p q) i.2)
    lowers k m (head-hears v x) a p q i =
        let st = LH.of-hear m.head v x.frame i.0.0 in
        (ok_step m (head-hears v x) a i.0, i.1, old-sent down k (Head.hear m.head v x.frame).sent m.down (st.silent p q) i.2)
    lowers k m (box-call c) a p q i =
        let st = LB.of-call m.box c i.0.1 a in
        (ok_step m (box-call c) a i.0, low-falls Box GB BoxLives up down W T LB D k 0 k m.box (Box.call m.box c) st (omega arith) i.1, i.2)
    lowers k m (box-hears v x) a p q i =
        let st = LB.of-hear m.box v x.frame i.0.1 in
        let low = low-hear Box GB BoxLives up down W T LB D k m.box (Box.hear m.box v x.frame) m.down x st a.0 a.1 i.2 i.1 in
        (ok_step m (box-hears v x) a i.0, low, i.2)
    lowers k m (both-tick h b) a p q i =
        let sh = LH.of-tick m.head h i.0.0 a.0 in
        let sb = LB.of-tick m.box b i.0.1 a.1 in (
          ok_step m (both-tick h b) a i.0,
          low-falls Box GB BoxLives up down W T LB D k 1 (suc k) m.box (Box.tick m.box b) sb (omega arith) i.1,
          old-sent down (suc k) (Head.tick m.head h).sent (map olden m.down) (sh.silent p q) (old-tick down k m.down i.2),
        )

    pub drops : (m : Moment Head Box) (es : List (Event Head Box)) → Oks m → Lawful Head Box D m es → D + W ≤ ticks Head Box es
        → Through Head Box (λ y. ¬ HeadLives y.head) m es → ¬ HasRegistered Box (play Head Box m es).box
    drops m es o l long off r =
        let low : Low Box GB (D + W) 0 m.box = λ p h. omega (arith, (LB.dog-range m.box o.1 p h).1) in
        let i = climb Lowers (λ y. ¬ HeadLives y.head) lowers es 0 m (o, low, all_any (Old down 0) (λ y t. omega arith) m.down) l off in
        omega (arith, long, i.1, i.2.1 r.0 r.1, (LB.dog-range (play Head Box m es).box i.2.0.1 r.0 r.1).0)

    -- the box's wait
    module _ (p : Box.Place) where
      abbrev Waits : ℕ → Moment Head Box → Type 0
      Waits k m = Oks m × (GB.wait m.box p + k ≤ T)

      waits : (k : ℕ) (m : Moment Head Box) (e : Event Head Box) → Allowed Head Box D m e → Box.Waiting m.box p
          → Box.Waiting (after Head Box m e).box p → Waits k m → Waits (tally Head Box e k) (after Head Box m e)
      waits k m (head-call c) a w w' i = (ok_step m (head-call c) a i.0, i.1)
      waits k m (head-hears v x) a w w' i = (ok_step m (head-hears v x) a i.0, i.1)
      waits k m (box-call c) a w w' i =
          (ok_step m (box-call c) a i.0, omega (arith, i.1, (LB.of-call m.box c i.0.1 a).wait-falls p w w'))
      waits k m (box-hears v x) a w w' i =
          (ok_step m (box-hears v x) a i.0, omega (arith, i.1, (LB.of-hear m.box v x.frame i.0.1).wait-falls p w w'))
      waits k m (both-tick h b) a w w' i =
          (ok_step m (both-tick h b) a i.0, omega (arith, i.1, (LB.of-tick m.box b i.0.1 a.1).wait-falls p w w'))

      pub ends : (m : Moment Head Box) (es : List (Event Head Box)) → Oks m → Lawful Head Box D m es
          → Through Head Box (λ y. Box.Waiting y.box p) m es → ticks Head Box es < T
      ends m es o l all =
          let w = through-first (λ y. Box.Waiting y.box p) m es all in
          let z = through-last (λ y. Box.Waiting y.box p) m es all in
          let i = climb Waits (λ y. Box.Waiting y.box p) waits es 0 m (o, omega (arith, (LB.wait-range m.box o.1 p w).1)) l all in
          omega (arith, i.1, i.2.1, (LB.wait-range (play Head Box m es).box i.2.0.1 p z).0)
