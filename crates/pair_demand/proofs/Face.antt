-- A faithful face has the laws of the end that it shows: so what the pair theorem says of the one it says of the other.
-- Assumes nothing.
use mathlib.Core.Path.{◌≡◌, sym, ap, subst, ◌∙◌}
use mathlib.Core.Bool.{Bool, false}
use mathlib.Core.List.{List, []}
use Prim.Native.Nat.{ℕ, ◌+◌, ◌≤◌}
use native.Mathlib.Omega.{arith}
use Rattle.pair_demand.specs.Run.{Answer, End}
use Rattle.pair_demand.specs.Laws.{All, Gauge, Step, Laws}
use Rattle.pair_demand.specs.Face.{Face, through}
use Rattle.pair_demand.specs.Faithful.{As, Untouched, Does, does, spares, begins, Hears, hears, misses, Faithful, Tells}

-- what changes nothing at all
pub unchanged : {In Out : Type 0} {E : End In Out} (F : Face E) (Good : F.State → Type 0) {s : F.State} {a : Answer F.State Out}
    → Good s → a.next ≡ s → a.sent ≡ [] → Untouched F Good s a
unchanged F Good o e n = record { good = subst Good (sym e) o; next = ap F.stands e; sent = n }

module _ {In Out : Type 0} {E : End In Out} (F : Face E) (Good : F.State → Type 0) (G : Gauge E) (Alive : E.State → Type 0)
    (lives : Out → Bool) (keeps : In → Bool) where
  -- the given end's, of the state that one stands for
  abbrev pub gauge : Gauge (through F)
  gauge = record { Ok = Good; dog = λ s p. G.dog (F.stands s) p; wait = λ s p. G.wait (F.stands s) p }

  abbrev Given : ℕ → Bool → E.State → Answer E.State Out → Type 0
  Given = Step E G Alive lives

  -- a step of the given end, by the state after it and the frames
  record Moved (loss : ℕ) (kept : Bool) (s t : E.State) (sent : List Out) : Type 0 where
    dog : kept ≡ false → (p : E.Place) → E.Registered t p → E.Registered s p × (loss + G.dog t p ≤ G.dog s p)
    wait : (p : E.Place) → E.Waiting s p → E.Waiting t p → loss + G.wait t p ≤ G.wait s p
    silent : ¬ Alive s → ¬ Alive t → All (λ f. lives f ≡ false) sent

  moved : {loss : ℕ} {kept : Bool} {s : E.State} {b : Answer E.State Out} → Given loss kept s b → Moved loss kept s b.next b.sent
  moved g = record { dog = g.dog-falls; wait = g.wait-falls; silent = g.silent }

  module _ (AliveAt : F.State → Type 0) (alive : (s : F.State) → Good s → Alive (F.stands s) → AliveAt s) (t : Tells F Good) where
    abbrev Shown : ℕ → Bool → F.State → Answer F.State Out → Type 0
    Shown = Step (through F) gauge AliveAt lives

    -- the same of the states that stand for them
    shown_by : {loss : ℕ} {kept : Bool} {s : F.State} {a : Answer F.State Out} → Good s → Good a.next
        → Moved loss kept (F.stands s) (F.stands a.next) a.sent → Shown loss kept s a
    shown_by {loss} {kept} {s} {a} o n m =
        record {
          ok = n;
          dog-falls = λ e p r.
              let k = m.dog e p ((t.registered a.next n p).0 r) in
              ((t.registered s o p).1 k.0, k.1);
          wait-falls = λ p v w. m.wait p ((t.waiting s o p).0 v) ((t.waiting a.next n p).0 w);
          silent = λ q r. m.silent (λ x. q (alive s o x)) (λ x. r (alive a.next n x));
        }

    shown : {loss : ℕ} {kept : Bool} {s : F.State} {a : Answer F.State Out} {b : Answer E.State Out} → Good s
        → Given loss kept (F.stands s) b → As F Good a b → Shown loss kept s a
    shown {loss} {kept} {s} {a} {b} o g x =
        shown_by o x.good
        (subst (λ (l : List Out). Moved loss kept (F.stands s) (F.stands a.next) l) (sym x.sent)
        (subst (λ (u : E.State). Moved loss kept (F.stands s) u b.sent) (sym x.next) (moved g)))

    still : {kept : Bool} {s : F.State} {a : Answer F.State Out} → Good s → Untouched F Good s a → Shown 0 kept s a
    still {kept} {s} {a} o u =
        shown_by o u.good
        (subst (λ (l : List Out). Moved 0 kept (F.stands s) (F.stands a.next) l) (sym u.sent)
        (subst (λ (v : E.State). Moved 0 kept (F.stands s) v []) (sym u.next)
        (record { dog = λ e p r. (r, omega arith); wait = λ p v w. omega arith; silent = λ q r. tt })))

    module _ {W T : ℕ} (L : Laws E G Alive lives keeps W T) (good-ok : (s : F.State) → Good s → G.Ok (F.stands s))
        (off : (s : E.State) → E.Fresh s → (p : E.Place) → (¬ E.Registered s p) × (¬ E.Waiting s p)) (f : Faithful F Good keeps) where
      -- a fresh state has no link, and hands out nothing
      begun : {s : F.State} {a : Answer F.State Out} → Good s → Good a.next → E.Fresh (F.stands a.next) → a.sent ≡ [] → Shown 0 false s a
      begun {s} {a} o g n e =
          shown_by o g
          (record {
            dog = λ k p r. absurd ((off (F.stands a.next) n p).0 r);
            wait = λ p v w. absurd ((off (F.stands a.next) n p).1 w);
            silent = λ q r. subst (λ (l : List Out). All (λ x. lives x ≡ false) l) (sym e) tt;
          })

      call-shown : (s : F.State) (a : Answer F.State Out) → Good s → Does F Good s a → Shown 0 false s a
      call-shown s a o (does c k x) = shown o (L.of-call (F.stands s) c (good-ok s o) k) x
      call-shown s a o (spares u) = still o u
      call-shown s a o (begins g n e) = begun o g n e

      -- a step that may restart less may restart more
      loosen : {s : E.State} {b : Answer E.State Out} (k l : Bool) → (k ≡ false → l ≡ false) → Given 0 l s b → Given 0 k s b
      loosen k l h g = record { ok = g.ok; dog-falls = λ e. g.dog-falls (h e); wait-falls = g.wait-falls; silent = g.silent }

      hear-shown : (s : F.State) (x : In) (a : Answer F.State Out) → Good s → Hears F Good keeps s x a → Shown 0 (keeps x) s a
      hear-shown s x a o (hears v g h y) = shown o (loosen (keeps x) (keeps g) h (L.of-hear (F.stands s) v g (good-ok s o))) y
      hear-shown s x a o (misses u) = still o u

      tick-shown : (s : F.State) (l : F.Lent) → Good s → (F.tick s l).reply ≡ 0 → Shown 1 false s (F.tick s l)
      tick-shown s l o z =
          let k = f.of-tick s l o z in
          shown o (L.of-tick (F.stands s) k.0 (good-ok s o) (sym k.1.reply ∙ z)) k.1

      -- the theorem
      pub laws-through : Laws (through F) gauge AliveAt lives keeps W T
      laws-through =
          record {
            fresh_ok = λ s n. (f.fresh s n).0;
            dog-range = λ s o p r. L.dog-range (F.stands s) (good-ok s o) p ((t.registered s o p).0 r);
            wait-range = λ s o p w. L.wait-range (F.stands s) (good-ok s o) p ((t.waiting s o p).0 w);
            of-call = λ s c o k. call-shown s (F.call s c) o (f.of-call s c o k);
            of-hear = λ s v x o. hear-shown s x (F.hear s v x) o (f.of-hear s v x o);
            of-tick = tick-shown;
          }
