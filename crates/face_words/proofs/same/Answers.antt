-- `face_words::same` meets its promise: after i turns the first i words agree.
-- Assumes nothing.
use Prim.Native.Nat.{ℕ, ◌+◌, ◌<◌}
use mathlib.Core.Bool.{Bool, true, false, ◌&&◌, and-true, and_assoc}
use mathlib.Core.List.{List}
use mathlib.Core.Path.{◌≡◌, refl, sym, ◌∙◌, ap}
use lib.Dec.{eqb}
use lib.ListN.{length, drop, get_or}
use lib.Seq.{drop-cons, drop-length}
use native.Mathlib.Numerals.{add-one}
use native.Mathlib.Omega.{arith}
use Rattle.face_words.specs.Laws.{same-is}
use Rattle.face_words.specs.Words.{same}
use Rattle.face_words.proofs.same.Goals as goal

-- lists of two lengths are never the same
unlike : (a b : List ℕ) → (length a ≡ length b → ⊥) → false ≡ same a b
unlike a b h = split (same a b) refl
  where
    split : (t : Bool) → same a b ≡ t → false ≡ t
    split true e = absurd (h (ap length (same-is a b e)))
    split false e = refl

-- what is left to compare: a word of each, and the rest
left : (a b : List ℕ) (i : ℕ) → i < length a → i < length b
    → same (drop i a) (drop i b) ≡ (eqb (get_or a i 0) (get_or b i 0) && same (drop (i + 1) a) (drop (i + 1) b))
left a b i ha hb = rw (drop-cons a i 0 ha, drop-cons b i 0 hb, add-one)

turn : (a b : List ℕ) (i : ℕ) (met t : Bool) → i < length a → i < length b → (met && same (drop i a) (drop i b)) ≡ t
    → ((met && eqb (get_or a i 0) (get_or b i 0)) && same (drop (i + 1) a) (drop (i + 1) b)) ≡ t
turn a b i met t ha hb e =
    and_assoc met (eqb (get_or a i 0) (get_or b i 0)) (same (drop (i + 1) a) (drop (i + 1) b))
    ∙ ap (λ (x : Bool). met && x) (sym (left a b i ha hb))
    ∙ e

end : (a b : List ℕ) (i : ℕ) (met t : Bool) → length a ≡ i → length b ≡ i → (met && same (drop i a) (drop i b)) ≡ t → met ≡ t
end a b i met t ha hb e = sym (and-true met) ∙ (rw (← ha, drop-length a, ha, ← hb, drop-length b) at e)

pub returns-then-a-b : goal.returns-then-a-b
returns-then-a-b c = unlike c.args.a.now c.args.b.now c.if-a-b.true

pub loop-i-preserved : goal.loop-i-preserved
loop-i-preserved c =
    turn c.args.a.now c.args.b.now c.loop-i.i c.loop-i.met _ (omega arith) (omega arith) c.loop-i.invariant

pub returns : goal.returns
returns c =
    end c.args.a.now c.args.b.now c.loop-i.i c.loop-i.met _ (omega arith) (omega arith) c.loop-i.invariant
