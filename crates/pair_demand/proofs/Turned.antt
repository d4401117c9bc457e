-- The same run, seen from the other end: head and box change places.
-- Assumes nothing.
use mathlib.Core.Path.{◌≡◌, refl, ap}
use mathlib.Core.List.{List, [], ◌∷◌, map}
use Prim.Native.Nat.{ℕ, suc}
use Rattle.pair_demand.specs.Run.{End, Moment, Event, head-call, head-hears, box-call, box-hears, both-tick, after, play, Lawful, ticks, Through}

module _ {Up Down : Type 0} (Head : End Up Down) (Box : End Down Up) where
  abbrev pub turn : Moment Head Box → Moment Box Head
  turn m = record { head = m.box; box = m.head; down = m.up; up = m.down }

  abbrev pub turned : Event Head Box → Event Box Head
  turned (head-call c) = box-call c
  turned (head-hears v x) = box-hears v x
  turned (box-call c) = head-call c
  turned (box-hears v x) = head-hears v x
  turned (both-tick h b) = both-tick b h

  pub lawful-turned : (D : ℕ) (m : Moment Head Box) (es : List (Event Head Box)) → Lawful Head Box D m es
      → Lawful Box Head D (turn m) (map turned es)
  lawful-turned D m [] l = tt
  lawful-turned D m (head-call c ∷ es) l = (l.0, lawful-turned D (after Head Box m (head-call c)) es l.1)
  lawful-turned D m (head-hears v x ∷ es) l = (l.0, lawful-turned D (after Head Box m (head-hears v x)) es l.1)
  lawful-turned D m (box-call c ∷ es) l = (l.0, lawful-turned D (after Head Box m (box-call c)) es l.1)
  lawful-turned D m (box-hears v x ∷ es) l = (l.0, lawful-turned D (after Head Box m (box-hears v x)) es l.1)
  lawful-turned D m (both-tick h b ∷ es) l = ((l.0.1, l.0.0), lawful-turned D (after Head Box m (both-tick h b)) es l.1)

  -- P of a moment is Q of it turned
  pub through-turned : (P : Moment Head Box → Type 0) (Q : Moment Box Head → Type 0) → ((m : Moment Head Box) → P m → Q (turn m))
      → (m : Moment Head Box) (es : List (Event Head Box)) → Through Head Box P m es → Through Box Head Q (turn m) (map turned es)
  through-turned P Q f m [] t = f m t
  through-turned P Q f m (head-call c ∷ es) t = (f m t.0, through-turned P Q f (after Head Box m (head-call c)) es t.1)
  through-turned P Q f m (head-hears v x ∷ es) t = (f m t.0, through-turned P Q f (after Head Box m (head-hears v x)) es t.1)
  through-turned P Q f m (box-call c ∷ es) t = (f m t.0, through-turned P Q f (after Head Box m (box-call c)) es t.1)
  through-turned P Q f m (box-hears v x ∷ es) t = (f m t.0, through-turned P Q f (after Head Box m (box-hears v x)) es t.1)
  through-turned P Q f m (both-tick h b ∷ es) t = (f m t.0, through-turned P Q f (after Head Box m (both-tick h b)) es t.1)

  pub play-turned : (m : Moment Head Box) (es : List (Event Head Box)) → play Box Head (turn m) (map turned es) ≡ turn (play Head Box m es)
  play-turned m [] = refl
  play-turned m (head-call c ∷ es) = play-turned (after Head Box m (head-call c)) es
  play-turned m (head-hears v x ∷ es) = play-turned (after Head Box m (head-hears v x)) es
  play-turned m (box-call c ∷ es) = play-turned (after Head Box m (box-call c)) es
  play-turned m (box-hears v x ∷ es) = play-turned (after Head Box m (box-hears v x)) es
  play-turned m (both-tick h b ∷ es) = play-turned (after Head Box m (both-tick h b)) es

  pub ticks-turned : (es : List (Event Head Box)) → ticks Box Head (map turned es) ≡ ticks Head Box es
  ticks-turned [] = refl
  ticks-turned (head-call c ∷ es) = ticks-turned es
  ticks-turned (head-hears v x ∷ es) = ticks-turned es
  ticks-turned (box-call c ∷ es) = ticks-turned es
  ticks-turned (box-hears v x ∷ es) = ticks-turned es
  ticks-turned (both-tick h b ∷ es) = ap suc (ticks-turned es)
