-- Demand 3 at the head, of a table: where every link behaves, the link of each number falls, and a table that holds no link for A sends it
-- nothing that restarts its watchdog.
-- Assumes nothing.
use Rattle.std.proofs.Common.{Option, None, Some}
use Prim.Native.Nat.{ℕ, suc}
use mathlib.Core.Path.{◌≡◌, refl, sym, ap}
use mathlib.Core.Bool.{Bool, true, false, cond, ◌&&◌}
use mathlib.Core.List.{List, [], ◌∷◌}
use mathlib.Core.Logic.{◌≢◌}
use native.Mathlib.Omega.{arith}
use borrow.Author.Tests.{eqb-true, eq-eqb, ne_eqb}
use lib.Dec.{eqb}
use Rattle.laws.specs.Cases.{either}
use Rattle.frame.specs.declared.Address.{Address}
use Rattle.frame.specs.declared.Body.{Body}
use Rattle.lent.specs.Folds.{places}
use Rattle.head_links.specs.Link.{idle}
use Rattle.head_links.specs.declared.Change.{Change}
use Rattle.head_links.specs.declared.Link.{Link}
use Rattle.head_survey.specs.Facts.{are_all_sound, link_from}
use Rattle.head_table.specs.Events.{port_of, react_of, reacted}
use Rattle.head_table.specs.declared.Event.{Event}
use Rattle.head_table.specs.declared.Sender.{Sender}
use Rattle.head_laws.specs.Stated.{sent_by, link_frames}
use Rattle.head_laws.specs.Numbered.{Has, held-has}
use Rattle.head_laws.specs.Table.{sound-first}
use Rattle.pair_wire.specs.Restarts.{restarts_box, calls_box}
use Rattle.pair_demand.specs.Laws.{All}
use Rattle.pair_demand.proofs.Small.{all_join}
use Rattle.pair_head.specs.End.{HeldLink}
use Rattle.pair_head.proofs.Links.{Quiet, Falls, Behaves, falls-idle, still-behaves, May, change-behaves, tick-behaves}

module _ (A : Address) where
  -- every link behaves at an event, where the first has the number k
  abbrev pub AllBehave : ℕ → Bool → Event → ℕ → List Link → Type 0
  AllBehave loss kept e k [] = Unit {0}
  AllBehave loss kept e k (l ∷ ls) = Behaves A loss kept l (react_of e l k) × AllBehave loss kept e (suc k) ls

  pub nothing-behaves : (kept : Bool) (k : ℕ) (xs : List Link) → AllBehave 0 kept Event.Nothing k xs
  nothing-behaves kept k [] = tt
  nothing-behaves kept k (x ∷ xs) = (still-behaves A x, nothing-behaves kept (suc k) xs)

  pub ticks-behave : (k : ℕ) (xs : List Link) → are_all_sound xs ≡ true → AllBehave 1 false Event.Tick k xs
  ticks-behave k [] h = tt
  ticks-behave k (x ∷ xs) h =
      let p = sound-first x xs h in
      (tick-behaves A x (port_of k) p.0, ticks-behave (suc k) xs p.1)

  -- a change of the link of the number j
  module _ (kept : Bool) (j : ℕ) (c : Change) where
    one-behaves : (k : ℕ) (x : Link) → (j ≡ k → May A kept c x) → Behaves A 0 kept x (react_of (Event.At j c) x k)
    one-behaves k x m =
        either (Behaves A 0 kept x) (eqb j k) _ _ (λ t. change-behaves A c x (port_of k) (m (eqb-true j k t))) (λ _. still-behaves A x)

    changes-from : (k : ℕ) (xs : List Link) → (Has k xs j → May A kept c (link_from j k xs)) → AllBehave 0 kept (Event.At j c) k xs
    changes-from k [] m = tt
    changes-from k (x ∷ xs) m = (
      one-behaves k x (λ e. rw (eq-eqb k j (sym e)) at (m (omega arith, omega arith))),
      changes-from (suc k) xs
          (λ h.
          let n : k ≢ j = omega arith in
          rw (ne_eqb k j n) at (m (omega arith, omega arith))),
    )

    pub changes-behave : (xs : List Link) → May A kept c (link_from j 1 xs) → AllBehave 0 kept (Event.At j c) 1 xs
    changes-behave xs m = changes-from 1 xs (λ has. m)

  -- one link or another
  chosen : {loss : ℕ} {kept : Bool} {l l' m m' : Link} (t : Bool) → Falls A loss kept l l' → Falls A loss kept m m'
      → Falls A loss kept (cond t l m) (cond t l' m')
  chosen true f g = f
  chosen false f g = g

  -- the link of each number falls
  pub each-falls : {loss : ℕ} {kept : Bool} (e : Event) (n k : ℕ) (xs : List Link) → AllBehave loss kept e k xs
      → Falls A loss kept (link_from n k xs) (link_from n k (places (reacted e) k xs))
  unfolding places
  each-falls e n k [] b = falls-idle A idle
  each-falls e n k (x ∷ xs) b = chosen (eqb k n) b.0.falls (each-falls e n (suc k) xs b.1)

  -- a frame that is not for A, or that restarts no watchdog
  calls-not : (a : Address) (body : Body) → (a ≡ A → restarts_box body ≡ false) → (eqb a.0 A.0 && restarts_box body) ≡ false
  calls-not a body q =
      go (eqb a.0 A.0) (λ t. q (ap (λ (n : ℕ). record { 0 = n }) (eqb-true a.0 A.0 t)))
    where
      go : (t : Bool) → (t ≡ true → restarts_box body ≡ false) → (t && restarts_box body) ≡ false
      go true r = r refl
      go false r = refl

  pub sent-quiet : (s : Sender) (x : Option (Address × Body)) → Quiet A x → All (λ m. calls_box A m ≡ false) (sent_by s x)
  sent-quiet s None q = tt
  sent-quiet s (Some (a, body)) q = (calls-not a body q, tt)

  -- where no link is held for A
  abbrev pub NoneHeld : ℕ → List Link → Type 0
  NoneHeld k xs = (n : ℕ) → ¬ HeldLink A (link_from n k xs)

  none_first : (k : ℕ) (x : Link) (xs : List Link) → NoneHeld k (x ∷ xs) → ¬ HeldLink A x
  none_first k x xs off = rw (eq-eqb k k refl) at (off k)

  none_rest : (k : ℕ) (x : Link) (xs : List Link) → NoneHeld k (x ∷ xs) → NoneHeld (suc k) xs
  none_rest k x xs off n h =
      let has = held-has n (suc k) xs h.0 in
      let later : k ≢ n = omega arith in
      (rw (ne_eqb k n later) at (off n)) h

  -- no frame restarts a watchdog there
  pub frames-quiet : (loss : ℕ) (kept : Bool) (e : Event) (s : Sender) (k : ℕ) (xs : List Link) → AllBehave loss kept e k xs
      → NoneHeld k (places (reacted e) k xs) → All (λ m. calls_box A m ≡ false) (link_frames e s k xs)
  unfolding places
  frames-quiet loss kept e s k [] b off = tt
  frames-quiet loss kept e s k (x ∷ xs) b off =
      let y = reacted e k x in
      let ys = places (reacted e) (suc k) xs in
      all_join (λ m. calls_box A m ≡ false) (sent_by s (react_of e x k).sent) (link_frames e s (suc k) xs)
      (sent-quiet s (react_of e x k).sent (b.0.quiet (none_first k y ys off)))
      (frames-quiet loss kept e s (suc k) xs b.1 (none_rest k y ys off))
