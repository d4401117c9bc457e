-- The pair theorem, proved once from the laws of the two ends; what falls at the box falls at the head, seen from the other end.
-- Assumes nothing.
use mathlib.Core.Bool.{Bool}
use mathlib.Core.List.{List, [], ◌∷◌, map}
use Prim.Native.Nat.{ℕ, zero, suc, ◌+◌, ◌≤◌, ◌<◌}
use native.Mathlib.Omega.{arith}
use lib.ListN.{take, drop}
use Rattle.pair_demand.specs.Run.{End, Holds, HasRegistered, Moment, Event, after, play, Lawful, Through, Start, Span, first, last, length-of, All-through, NoHalfOpen}
use Rattle.pair_demand.specs.Laws.{Gauge, Laws}
use Rattle.pair_demand.proofs.Falls.{climb, Oks, ok_step, drops, ends}
use Rattle.pair_demand.proofs.Turned.{turn, turned, lawful-turned, through-turned, play-turned, ticks-turned}

module _ {Up Down : Type 0} (Head : End Up Down) (Box : End Down Up) (D : ℕ) where
  through-all : (P : Moment Head Box → Type 0) → ((m : Moment Head Box) → P m) → (m : Moment Head Box) (es : List (Event Head Box))
      → Through Head Box P m es
  through-all P h m [] = h m
  through-all P h m (e ∷ es) = (h m, through-all P h (after Head Box m e) es)

  cut : (i : ℕ) (m : Moment Head Box) (es : List (Event Head Box)) → Lawful Head Box D m es
      → Lawful Head Box D m (take i es) × Lawful Head Box D (play Head Box m (take i es)) (drop i es)
  cut zero m es l = (tt, l)
  cut (suc i) m [] l = (tt, tt)
  cut (suc i) m (e ∷ es) l =
      let c = cut i (after Head Box m e) es l.1 in
      ((l.0, c.0), c.1)

  -- every moment of a lawful run from a fresh start begins a span: i events before it, the others in it
  pub span-at : (m : Moment Head Box) → Start Head Box m → (es : List (Event Head Box)) → Lawful Head Box D m es → ℕ → Span Head Box D
  span-at m f es l i =
      record {
        start = m;
        fresh = f;
        before = take i es;
        events = drop i es;
        lawful-before = (cut i m es l).0;
        lawful = (cut i m es l).1;
      }

  module _ (Gh : Gauge Head) (GB : Gauge Box) (down : Down → Bool) (up : Up → Bool) (W T : ℕ)
      (LH : Laws Head Gh (Holds Head) down up W T) (LB : Laws Box GB (HasRegistered Box) up down W T) where
    abbrev Fine : Moment Head Box → Type 0
    Fine = Oks Head Box D Gh GB (Holds Head) (HasRegistered Box) down up W T LH LB

    fine-first : (x : Span Head Box D) → Fine (first Head Box x)
    fine-first x =
        (climb Head Box D (λ k. Fine) (λ m. Unit {0})
        (λ k m e a p q o. ok_step Head Box D Gh GB (Holds Head) (HasRegistered Box) down up W T LH LB m e a o)
        x.before 0 x.start
        (LH.fresh_ok x.start.head x.fresh.0, LB.fresh_ok x.start.box x.fresh.1)
        x.lawful-before
        (through-all (λ m. Unit {0}) (λ m. tt) x.start x.before)
        ).2

    module _ (x : Span Head Box D) where
      abbrev from : Moment Head Box
      from = first Head Box x

      -- the span, seen from the other end
      abbrev seen : List (Event Box Head)
      seen = map (turned Head Box) x.events

      box-drops : D + W ≤ length-of Head Box x → All-through Head Box x (λ m. ¬ Holds Head m.head) → ¬ HasRegistered Box (last Head Box x).box
      box-drops =
          drops Head Box D Gh GB (Holds Head) (HasRegistered Box) down up W T LH LB from x.events (fine-first x) x.lawful

      head-drops : D + W ≤ length-of Head Box x → All-through Head Box x (λ m. ¬ HasRegistered Box m.box) → ¬ HasRegistered Head (last Head Box x).head
      head-drops long off r =
          let o = fine-first x in
          let still = through-turned Head Box (λ m. ¬ HasRegistered Box m.box) (λ m. ¬ HasRegistered Box m.head) (λ m h. h) from x.events off in
          drops Box Head D GB Gh (HasRegistered Box) (Holds Head) up down W T LB LH (turn Head Box from) seen (o.1, o.0)
          (lawful-turned Head Box D from x.events x.lawful)
          (omega (arith, long, ticks-turned Head Box x.events))
          still
          (rw (play-turned Head Box from x.events) r)

      box-wait : (p : Box.Place) → All-through Head Box x (λ m. Box.Waiting m.box p) → length-of Head Box x < T
      box-wait p = ends Head Box D Gh GB (Holds Head) (HasRegistered Box) down up W T LH LB p from x.events (fine-first x) x.lawful

      head-wait : (p : Head.Place) → All-through Head Box x (λ m. Head.Waiting m.head p) → length-of Head Box x < T
      head-wait p all =
          let o = fine-first x in
          let still = through-turned Head Box (λ m. Head.Waiting m.head p) (λ m. Head.Waiting m.box p) (λ m h. h) from x.events all in
          let l = lawful-turned Head Box D from x.events x.lawful in
          omega (
            arith,
            ticks-turned Head Box x.events,
            ends Box Head D GB Gh (HasRegistered Box) (Holds Head) up down W T LB LH p (turn Head Box from) seen (o.1, o.0) l still,
          )

    pub pair : NoHalfOpen Head Box D W T
    pair = record { box-drops = box-drops; head-drops = head-drops; box-wait = box-wait; head-wait = head-wait }
