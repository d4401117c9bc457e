-- Runs put together: a lawful run from a moment to one of which Q holds, so many ticks later, with P at every moment on the way.
-- Assumes nothing.
use Prim.Native.Nat.{ℕ, zero, suc, ◌+◌}
use mathlib.Core.Path.{◌≡◌, refl, sym, ap, subst}
use mathlib.Core.List.{List, [], ◌∷◌}
use native.Mathlib.Omega.{arith}
use Rattle.pair_demand.specs.Run.{End, Moment, Event, head-call, head-hears, box-call, box-hears, both-tick, after, Allowed, play, Lawful, tally, ticks, Through, Start, Span, last, length-of, All-through}

module _ {Up Down : Type 0} (Head : End Up Down) (Box : End Down Up) (D : ℕ) where
  pub record Reach (P : Moment Head Box → Type 0) (m : Moment Head Box) (n : ℕ) (Q : Moment Head Box → Type 0) : Type 0 where
    pub events : List (Event Head Box)
    pub lawful : Lawful Head Box D m events
    pub through : Through Head Box P m events
    pub length : ticks Head Box events ≡ n
    pub ends : Q (play Head Box m events)

  module _ (P : Moment Head Box → Type 0) where
    -- here already
    pub here : {m : Moment Head Box} (Q : Moment Head Box → Type 0) → P m → Q m → Reach P m 0 Q
    here Q p q = record { events = []; lawful = tt; through = p; length = refl; ends = q }

    -- one event, and then on
    pub by : {m : Moment Head Box} (n : ℕ) (Q : Moment Head Box → Type 0) (e : Event Head Box) → Allowed Head Box D m e → P m
        → Reach P (after Head Box m e) n Q → Reach P m (tally Head Box e n) Q
    by n Q e a p r =
        record {
          events = e ∷ r.events;
          lawful = (a, r.lawful);
          through = (p, r.through);
          length = ap (tally Head Box e) r.length;
          ends = r.ends;
        }

    pub one : (m : Moment Head Box) (Q : Moment Head Box → Type 0) (e : Event Head Box) → Allowed Head Box D m e → P m → P (after Head Box m e)
        → Q (after Head Box m e) → Reach P m (tally Head Box e 0) Q
    one m Q e a p o q = by 0 Q e a p (here Q o q)

    -- and what follows from what holds at its end
    pub so : {m : Moment Head Box} {n : ℕ} (Q R : Moment Head Box → Type 0) → Reach P m n Q → ((y : Moment Head Box) → Q y → R y)
        → Reach P m n R
    so {m} {n} Q R r f =
        record {
          events = r.events;
          lawful = r.lawful;
          through = r.through;
          length = r.length;
          ends = f (play Head Box m r.events) r.ends;
        }

    tally-plus : (e : Event Head Box) (n k : ℕ) → tally Head Box e n + k ≡ tally Head Box e (n + k)
    tally-plus (head-call c) n k = refl
    tally-plus (head-hears v x) n k = refl
    tally-plus (box-call c) n k = refl
    tally-plus (box-hears v x) n k = refl
    tally-plus (both-tick h b) n k = omega arith

    from : (m : Moment Head Box) (es : List (Event Head Box)) (k : ℕ) (Q : Moment Head Box → Type 0) → Lawful Head Box D m es
        → Through Head Box P m es → Reach P (play Head Box m es) k Q → Reach P m (ticks Head Box es + k) Q
    from m [] k Q l t r = subst (λ (n : ℕ). Reach P m n Q) (omega arith) r
    from m (e ∷ es) k Q l t r =
        subst (λ (n : ℕ). Reach P m n Q) (sym (tally-plus e (ticks Head Box es) k))
        (by (ticks Head Box es + k) Q e l.0 t.0 (from (after Head Box m e) es k Q l.1 t.1 r))

    -- one run, and then another from wherever it ends
    pub next : {m : Moment Head Box} (n k : ℕ) (Q R : Moment Head Box → Type 0) → Reach P m n Q
        → ((y : Moment Head Box) → Q y → Reach P y k R) → Reach P m (n + k) R
    next {m} n k Q R r f =
        subst (λ (j : ℕ). Reach P m (j + k) R) r.length
        (from m r.events k R r.lawful r.through (f (play Head Box m r.events) r.ends))

    -- what takes one tick, again and again
    pub again : (I : ℕ → Moment Head Box → Type 0) → ((k : ℕ) (m : Moment Head Box) → I k m → P m)
        → ((k : ℕ) (m : Moment Head Box) → I (suc k) m → Reach P m 1 (I k))
        → (n : ℕ) (m : Moment Head Box) → I n m → Reach P m n (I 0)
    again I p step zero m i = here (I 0) (p 0 m i) i
    again I p step (suc n) m i =
        subst (λ (k : ℕ). Reach P m k (I 0)) (omega arith) (next 1 n (I n) (I 0) (step n m i) (again I p step n))

  -- wherever P doesn't matter
  abbrev pub Any : Moment Head Box → Type 0
  Any m = Unit {0}

  abbrev pub Way : Moment Head Box → ℕ → (Moment Head Box → Type 0) → Type 0
  Way = Reach Any

  pub then : (m : Moment Head Box) (Q : Moment Head Box → Type 0) (e : Event Head Box) → Allowed Head Box D m e → Q (after Head Box m e)
      → Way m (tally Head Box e 0) Q
  then m Q e a q = one Any m Q e a tt tt q

  -- a span of k ticks with P at every moment and R at the end
  pub record Shown (k : ℕ) (P R : Moment Head Box → Type 0) : Type 0 where
    pub span : Span Head Box D
    pub length : length-of Head Box span ≡ k
    pub through : All-through Head Box span P
    pub ends : R (last Head Box span)

  -- a run from a fresh start, and one that goes on from there, show one
  pub shown : {start : Moment Head Box} → Start Head Box start → (n k : ℕ) (P Q R : Moment Head Box → Type 0) → Way start n Q
      → ((m : Moment Head Box) → Q m → Reach P m k R) → Shown k P R
  shown {start} fresh n k P Q R way on =
      let goes = on (play Head Box start way.events) way.ends in
      record {
        span =
            record {
              start = start;
              fresh = fresh;
              before = way.events;
              events = goes.events;
              lawful-before = way.lawful;
              lawful = goes.lawful;
            };
        length = goes.length;
        through = goes.through;
        ends = goes.ends;
      }
