-- Every run is a program, one that advances nowhere: so a claim that holds of programs holds of runs, and one that fails of runs fails of
-- programs.
-- Assumes nothing.
use mathlib.Core.Path.{◌≡◌, refl, sym, ap, subst, ◌∙◌}
use mathlib.Core.List.{List, [], ◌∷◌, map}
use Prim.Native.Nat.{ℕ}
use native.Mathlib.Omega.{arith}
use Rattle.pair_demand.specs.Run.{End, Holds, HasRegistered, Moment, Event, after, play, Lawful, tally, ticks, Through, Span, first, last, length-of, All-through, BoxDrops, HeadDrops, BoxWaits, HeadWaits}
use Rattle.pair_demand.specs.Advance.{Advance, Step, event, run, Runs, counts, Seen, Program, last-seen, ticks-made, Always, BoxDropsSeen, HeadDropsSeen, BoxWaitsSeen, HeadWaitsSeen}

module _ {Up Down : Type 0} (Head : End Up Down) (Box : End Down Up) (HA : Advance Head) (BA : Advance Box) where
  abbrev M : Type 0
  M = Moment Head Box

  abbrev Es : Type 0
  Es = List (Event Head Box)

  abbrev steps_of : Es → List (Step Head Box HA BA)
  steps_of es = map event es

  run-events : (m : M) (es : Es) → run Head Box HA BA m (steps_of es) ≡ play Head Box m es
  run-events m [] = refl
  run-events m (e ∷ es) = run-events (after Head Box m e) es

  runs-events : (D : ℕ) (m : M) (es : Es) → Lawful Head Box D m es → Runs Head Box HA BA D m (steps_of es)
  runs-events D m [] l = tt
  runs-events D m (e ∷ es) l = (l.0, runs-events D (after Head Box m e) es l.1)

  counts-events : (m : M) (es : Es) → counts Head Box HA BA m (steps_of es) ≡ ticks Head Box es
  counts-events m [] = refl
  counts-events m (e ∷ es) = ap (tally Head Box e) (counts-events (after Head Box m e) es)

  seen-events : (P : M → Type 0) (m : M) (es : Es) → Through Head Box P m es → Seen Head Box HA BA P m (steps_of es)
  seen-events P m [] t = t
  seen-events P m (e ∷ es) t = (t.0, seen-events P (after Head Box m e) es t.1)

  module _ {D : ℕ} (x : Span Head Box D) where
    first-is : run Head Box HA BA x.start (steps_of x.before) ≡ first Head Box x
    first-is = run-events x.start x.before

    program : Program Head Box HA BA D
    program =
        record {
          start = x.start;
          fresh = x.fresh;
          before = steps_of x.before;
          steps = steps_of x.events;
          lawful-before = runs-events D x.start x.before x.lawful-before;
          lawful =
              subst (λ (m : M). Runs Head Box HA BA D m (steps_of x.events)) (sym first-is) (runs-events D (first Head Box x) x.events x.lawful);
        }

    last-is : last-seen Head Box HA BA program ≡ last Head Box x
    unfolding program
    last-is = ap (λ (m : M). run Head Box HA BA m (steps_of x.events)) first-is ∙ run-events (first Head Box x) x.events

    length-is : ticks-made Head Box HA BA program ≡ length-of Head Box x
    unfolding program
    length-is = counts-events (run Head Box HA BA x.start (steps_of x.before)) x.events

    always : (P : M → Type 0) → All-through Head Box x P → Always Head Box HA BA program P
    unfolding program
    always P t = subst (λ (m : M). Seen Head Box HA BA P m (steps_of x.events)) (sym first-is) (seen-events P (first Head Box x) x.events t)

  module _ (D n : ℕ) where
    pub box-drops-runs : BoxDropsSeen Head Box HA BA D n → BoxDrops Head Box D n
    box-drops-runs f x l t r =
        f (program x) (omega (arith, l, length-is x)) (always x (λ m. ¬ Holds Head m.head) t) (subst (λ (m : M). HasRegistered Box m.box) (sym (last-is x)) r)

    pub head-drops-runs : HeadDropsSeen Head Box HA BA D n → HeadDrops Head Box D n
    head-drops-runs f x l t r =
        f (program x) (omega (arith, l, length-is x)) (always x (λ m. ¬ HasRegistered Box m.box) t) (subst (λ (m : M). HasRegistered Head m.head) (sym (last-is x)) r)

    pub box-waits-runs : BoxWaitsSeen Head Box HA BA D n → BoxWaits Head Box D n
    box-waits-runs f x p t = omega (arith, length-is x, f (program x) p (always x (λ m. Box.Waiting m.box p) t))

    pub head-waits-runs : HeadWaitsSeen Head Box HA BA D n → HeadWaits Head Box D n
    head-waits-runs f x p t = omega (arith, length-is x, f (program x) p (always x (λ m. Head.Waiting m.head p) t))
