-- Lemmas: what a face must have so that the laws of the given end are its own.
-- Assumes nothing.
use Rattle.std.specs.Prelude.{◌≡◌, Bool, false, []}
use Rattle.pair_demand.specs.Face.{Face}
use Rattle.pair_demand.specs.Run.{Answer, End}

abbrev pub Same : Type 0 → Type 0 → Type 0
Same P Q = (P → Q) × (Q → P)

-- Good: what a run leaves
module _ {In Out : Type 0} {E : End In Out} (F : Face E) (Good : F.State → Type 0) where
  -- what it answers is what the given end answers
  pub record As (a : Answer F.State Out) (b : Answer E.State Out) : Type 0 where
    pub good : Good a.next
    pub reply : a.reply ≡ b.reply
    pub next : F.stands a.next ≡ b.next
    pub sent : a.sent ≡ b.sent

  -- the given end had no say: its state is what it was, in the same form or in another
  pub record Untouched (s : F.State) (a : Answer F.State Out) : Type 0 where
    pub good : Good a.next
    pub next : F.stands a.next ≡ F.stands s
    pub sent : a.sent ≡ []

  -- a call is one of the given end, or leaves it as it is, or makes it fresh
  pub data Does (s : F.State) (a : Answer F.State Out) : Type 0 where
    does : (c : E.Call) → E.Fair c → As a (E.call (F.stands s) c) → Does s a
    spares : Untouched s a → Does s a
    begins : Good a.next → E.Fresh (F.stands a.next) → a.sent ≡ [] → Does s a

  -- a frame is heard as the given end hears one that restarts no more than it may
  pub data Hears (keeps : In → Bool) (s : F.State) (f : In) (a : Answer F.State Out) : Type 0 where
    hears : (v : E.Via) (g : In) → (keeps f ≡ false → keeps g ≡ false) → As a (E.hear (F.stands s) v g) → Hears keeps s f a
    misses : Untouched s a → Hears keeps s f a

  pub record Faithful (keeps : In → Bool) : Type 0 where
    pub fresh : (s : F.State) → F.Fresh s → Good s × E.Fresh (F.stands s)
    pub of-call : (s : F.State) (c : F.Call) → Good s → F.Fair c → Does s (F.call s c)
    pub of-hear : (s : F.State) (v : F.Via) (f : In) → Good s → Hears keeps s f (F.hear s v f)
    pub of-tick : (s : F.State) (l : F.Lent) → Good s → (F.tick s l).reply ≡ 0 → (x : E.Lent) × As (F.tick s l) (E.tick (F.stands s) x)

  -- what a state that a run leaves tells is so of the state that it stands for, and nothing else is
  pub record Tells : Type 0 where
    pub held : (s : F.State) → Good s → (p : E.Place) → Same (F.Held s p) (E.Held (F.stands s) p)
    pub registered : (s : F.State) → Good s → (p : E.Place) → Same (F.Registered s p) (E.Registered (F.stands s) p)
    pub waiting : (s : F.State) → Good s → (p : E.Place) → Same (F.Waiting s p) (E.Waiting (F.stands s) p)
