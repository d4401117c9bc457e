-- Statement: a program that advances both ends by several ticks in one call each, and how it is read as a run (R204): tick by tick, each tick
-- of one end together with one of the other.
-- Assumes nothing.
use Rattle.std.specs.Prelude.{◌≡◌, List, [], ◌∷◌, ◌++◌, map, ℕ, ◌+◌, ◌≤◌, ◌<◌, replicate}
use Rattle.pair_demand.specs.Run.{Answer, End, Holds, HasRegistered, Aged, stamp, Moment, Event, both-tick, after, Allowed, play, Lawful, tally, ticks, Start}

-- An end's advance: its answer, how many ticks it says it made, and what each of these is lent if it is made by itself.
pub record Advance {In Out : Type 0} (E : End In Out) : Type 1 where
  pub Asked : Type 0
  pub advance : E.State → Asked → Answer E.State Out
  pub made : E.State → Asked → ℕ
  pub lent : Asked → E.Lent

-- the same frame, k ticks later
abbrev pub older : {F : Type 0} → ℕ → Aged F → Aged F
older k x = record { frame = x.frame; age = k + x.age }

module _ {Up Down : Type 0} (Head : End Up Down) (Box : End Down Up) where
  -- k ticks later, after these answers
  abbrev pub later : ℕ → Moment Head Box → Answer Head.State Down → Answer Box.State Up → Moment Head Box
  later k m a b =
      record {
        head = a.next;
        box = b.next;
        down = map stamp a.sent ++ map (older k) m.down;
        up = map stamp b.sent ++ map (older k) m.up;
      }

  module _ (HA : Advance Head) (BA : Advance Box) where
    -- what a program does: an event of a run, or one advance of each end
    pub data Step : Type 0 where
      event : Event Head Box → Step
      both-advance : HA.Asked → BA.Asked → Step

    abbrev pub step : Moment Head Box → Step → Moment Head Box
    step m (event e) = after Head Box m e
    step m (both-advance h b) = later (HA.made m.head h) m (HA.advance m.head h) (BA.advance m.box b)

    -- an advance is allowed where both are done, and both made as many ticks
    abbrev pub Allows : ℕ → Moment Head Box → Step → Type 0
    Allows D m (event e) = Allowed Head Box D m e
    Allows D m (both-advance h b) =
        ((HA.advance m.head h).reply ≡ 0) × ((BA.advance m.box b).reply ≡ 0) × (HA.made m.head h ≡ BA.made m.box b)

    abbrev pub run : Moment Head Box → List Step → Moment Head Box
    run m [] = m
    run m (s ∷ ss) = run (step m s) ss

    abbrev pub Runs : ℕ → Moment Head Box → List Step → Type 0
    Runs D m [] = Unit {0}
    Runs D m (s ∷ ss) = Allows D m s × Runs D (step m s) ss

    abbrev pub count : Moment Head Box → Step → ℕ → ℕ
    count m (event e) n = tally Head Box e n
    count m (both-advance h b) n = HA.made m.head h + n

    -- how many ticks they are
    abbrev pub counts : Moment Head Box → List Step → ℕ
    counts m [] = 0
    counts m (s ∷ ss) = count m s (counts (step m s) ss)

    -- P at every moment that the program sees: before its first step, and after each
    abbrev pub Seen : (Moment Head Box → Type 0) → Moment Head Box → List Step → Type 0
    Seen P m [] = P m
    Seen P m (s ∷ ss) = P m × Seen P (step m s) ss

    -- the events that they are: for an advance as many ticks of both as were made
    abbrev pub singles : Moment Head Box → Step → List (Event Head Box)
    singles m (event e) = e ∷ []
    singles m (both-advance h b) = replicate (HA.made m.head h) (both-tick (HA.lent h) (BA.lent b))

    abbrev pub events-of : Moment Head Box → List Step → List (Event Head Box)
    events-of m [] = []
    events-of m (s ∷ ss) = singles m s ++ events-of (step m s) ss

    -- so they are a run: every event is allowed, the same moment is reached, after as many ticks
    pub record Reads (D : ℕ) (m : Moment Head Box) (ss : List Step) : Type 0 where
      pub lawful : Lawful Head Box D m (events-of m ss)
      pub same : play Head Box m (events-of m ss) ≡ run m ss
      pub ticked : ticks Head Box (events-of m ss) ≡ counts m ss

    -- A span of a program from a fresh start: what it did before, what it does.
    pub record Program (D : ℕ) : Type 0 where
      pub start : Moment Head Box
      pub fresh : Start Head Box start
      pub before : List Step
      pub steps : List Step
      pub lawful-before : Runs D start before
      pub lawful : Runs D (run start before) steps

    module _ {D : ℕ} (x : Program D) where
      abbrev pub first-seen : Moment Head Box
      first-seen = run x.start x.before

      abbrev pub last-seen : Moment Head Box
      last-seen = run first-seen x.steps

      abbrev pub ticks-made : ℕ
      ticks-made = counts first-seen x.steps

      abbrev pub Always : (Moment Head Box → Type 0) → Type 0
      Always P = Seen P first-seen x.steps

    -- The claims of Run.antt, of programs: what must hold all the time need only hold where the program sees it.
    module _ (D n : ℕ) where
      abbrev pub BoxDropsSeen : Type 0
      BoxDropsSeen = (x : Program D) → n ≤ ticks-made x → Always x (λ m. ¬ Holds Head m.head) → ¬ HasRegistered Box (last-seen x).box

      abbrev pub HeadDropsSeen : Type 0
      HeadDropsSeen = (x : Program D) → n ≤ ticks-made x → Always x (λ m. ¬ HasRegistered Box m.box) → ¬ HasRegistered Head (last-seen x).head

      abbrev pub BoxWaitsSeen : Type 0
      BoxWaitsSeen = (x : Program D) (p : Box.Place) → Always x (λ m. Box.Waiting m.box p) → ticks-made x < n

      abbrev pub HeadWaitsSeen : Type 0
      HeadWaitsSeen = (x : Program D) (p : Head.Place) → Always x (λ m. Head.Waiting m.head p) → ticks-made x < n

    -- DEMAND 3 of programs
    pub record NoHalfOpenSeen (D W T : ℕ) : Type 0 where
      pub box-drops : BoxDropsSeen D (D + W)
      pub head-drops : HeadDropsSeen D (D + W)
      pub box-wait : BoxWaitsSeen D T
      pub head-wait : HeadWaitsSeen D T
