-- Faces that can do whatever the ends do that they show: every run of the ends is one of the faces. So a claim that holds of the faces
-- holds of the ends, and one that fails of the ends fails of the faces.
-- Assumes nothing.
use mathlib.Core.Path.{◌≡◌, refl, sym, ap, subst, ◌∙◌}
use mathlib.Core.List.{List, [], ◌∷◌}
use Prim.Native.Nat.{ℕ}
use native.Mathlib.Omega.{arith}
use Rattle.pair_demand.specs.Run.{Answer, End, Holds, HasRegistered, Moment, Event, head-call, head-hears, box-call, box-hears, both-tick, after, Allowed, play, Lawful, tally, ticks, Through, Span, first, last, length-of, All-through, BoxDrops, HeadDrops, BoxWaits, HeadWaits}
use Rattle.pair_demand.specs.Face.{Face, through}
use Rattle.pair_demand.specs.Faithful.{Tells}

module _ {In Out : Type 0} {E : End In Out} (F : Face E) (Good : F.State → Type 0) where
  -- it comes to the same
  pub record Comes (a : Answer F.State Out) (b : Answer E.State Out) : Type 0 where
    pub good : Good a.next
    pub next : F.stands a.next ≡ b.next
    pub sent : a.sent ≡ b.sent

  pub record Able : Type 0 where
    pub starts : (e : E.State) → E.Fresh e → (s : F.State) × F.Fresh s × Good s × (F.stands s ≡ e)
    pub calls : (s : F.State) → Good s → (c : E.Call) → E.Fair c → (d : F.Call) × F.Fair d × Comes (F.call s d) (E.call (F.stands s) c)
    pub hears : (s : F.State) → Good s → (v : E.Via) (f : In) → (u : F.Via) × Comes (F.hear s u f) (E.hear (F.stands s) v f)
    pub ticks : (s : F.State) → Good s → (x : E.Lent) → (E.tick (F.stands s) x).reply ≡ 0
        → (l : F.Lent) × ((F.tick s l).reply ≡ 0) × Comes (F.tick s l) (E.tick (F.stands s) x)

module _ {Up Down : Type 0} {H : End Up Down} {B : End Down Up} (FH : Face H) (FB : Face B) (Gh : FH.State → Type 0) (GB : FB.State → Type 0)
    (ah : Able FH Gh) (ab : Able FB GB) (D : ℕ) where
  abbrev HF : End Up Down
  HF = through FH

  abbrev BF : End Down Up
  BF = through FB

  abbrev W : Type 0
  W = Moment HF BF

  abbrev M : Type 0
  M = Moment H B

  -- the moment that one shows
  abbrev shown : W → M
  shown w = record { head = FH.stands w.head; box = FB.stands w.box; down = w.down; up = w.up }

  abbrev Goods : W → Type 0
  Goods w = Gh w.head × GB w.box

  -- an event of the faces that comes to the same
  record Does (w : W) (m : M) (e : Event H B) : Type 0 where
    event : Event HF BF
    allowed : Allowed HF BF D w event
    good : Goods (after HF BF w event)
    same : shown (after HF BF w event) ≡ after H B m e
    counts : (n : ℕ) → tally HF BF event n ≡ tally H B e n

  does-shown : (w : W) → Goods w → (e : Event H B) → Allowed H B D (shown w) e → Does w (shown w) e
  does-shown w g (head-call c) f =
      let k = ah.calls w.head g.0 c f in
      record { event = head-call k.0; allowed = k.1; good = (k.2.good, g.1); same = rw (k.2.next, k.2.sent); counts = λ n. refl }
  does-shown w g (head-hears v x) f =
      let k = ah.hears w.head g.0 v x.frame in
      record { event = head-hears k.0 x; allowed = f; good = (k.1.good, g.1); same = rw (k.1.next, k.1.sent); counts = λ n. refl }
  does-shown w g (box-call c) f =
      let k = ab.calls w.box g.1 c f in
      record { event = box-call k.0; allowed = k.1; good = (g.0, k.2.good); same = rw (k.2.next, k.2.sent); counts = λ n. refl }
  does-shown w g (box-hears v x) f =
      let k = ab.hears w.box g.1 v x.frame in
      record { event = box-hears k.0 x; allowed = f; good = (g.0, k.1.good); same = rw (k.1.next, k.1.sent); counts = λ n. refl }
  does-shown w g (both-tick h b) f =
      let k = ah.ticks w.head g.0 h f.0 in
      let j = ab.ticks w.box g.1 b f.1 in
      record {
        event = both-tick k.0 j.0;
        allowed = (k.1, j.1);
        good = (k.2.good, j.2.good);
        same = rw (k.2.next, j.2.next, k.2.sent, j.2.sent);
        counts = λ n. refl;
      }

  -- P of a moment is Q of what shows it
  module _ (P : M → Type 0) (Q : W → Type 0) (carry : (w : W) → Goods w → P (shown w) → Q w) where
    record Plays (w : W) (m : M) (es : List (Event H B)) : Type 0 where
      events : List (Event HF BF)
      lawful : Lawful HF BF D w events
      good : Goods (play HF BF w events)
      same : shown (play HF BF w events) ≡ play H B m es
      counts : ticks HF BF events ≡ ticks H B es
      always : Through H B P m es → Through HF BF Q w events

    plays : (w : W) → Goods w → (m : M) → shown w ≡ m → (es : List (Event H B)) → Lawful H B D m es → Plays w m es
    plays w g m at [] l =
        record { events = []; lawful = tt; good = g; same = at; counts = refl; always = λ t. carry w g (subst P (sym at) t) }
    plays w g m at (e ∷ es) l =
        let d = subst (λ (n : M). Allowed H B D n e → Does w n e) at (does-shown w g e) l.0 in
        let r = plays (after HF BF w d.event) d.good (after H B m e) d.same es l.1 in
        record {
          events = d.event ∷ r.events;
          lawful = (d.allowed, r.lawful);
          good = r.good;
          same = r.same;
          counts = d.counts (ticks HF BF r.events) ∙ ap (tally H B e) r.counts;
          always = λ t. (carry w g (subst P (sym at) t.0), r.always t.1);
        }

  -- a span of the faces for a span of the ends
  module _ (P : M → Type 0) (Q : W → Type 0) (carry : (w : W) → Goods w → P (shown w) → Q w) where
    record Spans (x : Span H B D) : Type 0 where
      span : Span HF BF D
      good : Goods (last HF BF span)
      same : shown (last HF BF span) ≡ last H B x
      counts : length-of HF BF span ≡ length-of H B x
      always : All-through H B x P → All-through HF BF span Q

    spans : (x : Span H B D) → Spans x
    spans x =
        let h = ah.starts x.start.head x.fresh.0 in
        let b = ab.starts x.start.box x.fresh.1 in
        let w : W = record { head = h.0; box = b.0; down = []; up = [] } in
        let at : shown w ≡ x.start = rw (h.3, b.3, x.fresh.2, x.fresh.3) in
        let one = plays (λ m. Unit {0}) (λ v. Unit {0}) (λ v g u. u) w (h.2, b.2) x.start at x.before x.lawful-before in
        let two = plays P Q carry (play HF BF w one.events) one.good (first H B x) one.same x.events x.lawful in
        record {
          span = record {
            start = w;
            fresh = (h.1, b.1, refl, refl);
            before = one.events;
            events = two.events;
            lawful-before = one.lawful;
            lawful = two.lawful;
          };
          good = two.good;
          same = two.same;
          counts = two.counts;
          always = two.always;
        }

  -- what is claimed of the faces holds of the ends
  pub record Claims (n : ℕ) : Type 0 where
    pub box-drops : BoxDrops HF BF D n → BoxDrops H B D n
    pub head-drops : HeadDrops HF BF D n → HeadDrops H B D n
    pub box-wait : BoxWaits HF BF D n → BoxWaits H B D n
    pub head-wait : HeadWaits HF BF D n → HeadWaits H B D n

  module _ (th : Tells FH Gh) (tb : Tells FB GB) (n : ℕ) where
    box-drops-shown : BoxDrops HF BF D n → BoxDrops H B D n
    box-drops-shown f x l t r =
        let s = spans (λ m. ¬ Holds H m.head) (λ w. ¬ Holds HF w.head)
        (λ w g k y. k (y.0, (th.held w.head g.0 y.0).0 y.1)) x in
        let q = subst (λ (m : M). HasRegistered B m.box) (sym s.same) r in
        f s.span (omega (arith, l, s.counts)) (s.always t)
        (q.0, (tb.registered (last HF BF s.span).box s.good.1 q.0).1 q.1)

    head-drops-shown : HeadDrops HF BF D n → HeadDrops H B D n
    head-drops-shown f x l t r =
        let s = spans (λ m. ¬ HasRegistered B m.box) (λ w. ¬ HasRegistered BF w.box)
        (λ w g k y. k (y.0, (tb.registered w.box g.1 y.0).0 y.1)) x in
        let q = subst (λ (m : M). HasRegistered H m.head) (sym s.same) r in
        f s.span (omega (arith, l, s.counts)) (s.always t)
        (q.0, (th.registered (last HF BF s.span).head s.good.0 q.0).1 q.1)

    box-waits-shown : BoxWaits HF BF D n → BoxWaits H B D n
    box-waits-shown f x p t =
        let s = spans (λ m. B.Waiting m.box p) (λ w. FB.Waiting w.box p) (λ w g k. (tb.waiting w.box g.1 p).1 k) x in
        omega (arith, f s.span p (s.always t), s.counts)

    head-waits-shown : HeadWaits HF BF D n → HeadWaits H B D n
    head-waits-shown f x p t =
        let s = spans (λ m. H.Waiting m.head p) (λ w. FH.Waiting w.head p) (λ w g k. (th.waiting w.head g.0 p).1 k) x in
        omega (arith, f s.span p (s.always t), s.counts)

    pub claims : Claims n
    claims = record { box-drops = box-drops-shown; head-drops = head-drops-shown; box-wait = box-waits-shown; head-wait = head-waits-shown }
