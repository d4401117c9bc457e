-- Lemmas: what a client asks for: five numbers of 64 bits; sets that fit can be asked for, and others are not told apart.
-- Assumes nothing.
use Rattle.std.specs.Prelude.{ℕ, suc, ◌+◌, ◌-◌, ◌≤◌, ◌<◌, ◌≡◌, refl, false, List, [], ◌∷◌, eqb, leb, length, take, drop, get_or, replicate}
use Rattle.std.proofs.Common.{sym, ap, subst, ◌∙◌, arith, eq-eqb, leb-false, length-append, length-take, drop-cons}
use Rattle.std.proofs.lemmas.Bool.{lt-leb}
use Rattle.std.specs.Int.Count.{ones, ones_in}
use Rattle.std.proofs.lemmas.List.{length-replicate}
use Rattle.laws.specs.Cases.{either}
use Rattle.octets.specs.Octets.{onto, Octets}
use Rattle.octets.specs.Laws.{octets-take, octets-append, octets-zeros}
use Rattle.frame_queues.specs.Asked.{padded, unfit, asked_of}
use Rattle.frame_queues.specs.Laws.{used-some, cut-is, forty-length, forty-octets, sets-forty, sets-typed, fit_cut}
use Rattle.frame_queues.specs.Queues.{ending, used_of, forty_of, sets_of, SetsTyped, SetsFit, ends_at, fits_sets}
use Rattle.frame_queues.specs.declared.Sets.{Sets}

-- what is asked for is five numbers of 64 bits
asked-body : (n : ℕ) (os : List ℕ) → Octets (n ∷ os) → length os < 40 → SetsTyped (sets_of (padded (n ∷ os)))
asked-body n os h k =
    let zeros : List ℕ = replicate (40 - length (n ∷ os)) 0 in
    let forty : length (padded (n ∷ os)) ≡ 40 = simp (length-append, length-replicate) (omega arith) in
    sets-typed (padded (n ∷ os)) (octets-append (n ∷ os) zeros h (octets-zeros (40 - length (n ∷ os)))) forty

unfit-typed : SetsTyped unfit
unfit-typed = (omega arith, omega arith, omega arith, omega arith, omega arith)

pub asked-typed : (n : ℕ) (os : List ℕ) → Octets (n ∷ os) → SetsTyped (asked_of n os)
unfolding asked_of
asked-typed n os h =
    either SetsTyped (leb 40 (length os)) _ _ (λ _. unfit-typed)
    (λ k.
    either SetsTyped (eqb (used_of (padded (n ∷ os))) (1 + length os)) _ _
    (λ _. asked-body n os h (leb-false 40 (length os) k))
    (λ _. unfit-typed))

-- sets that fit can be asked for: by their number, and by the octets that they take behind it
pub record Asks (s : Sets) : Type 0 where
  pub number : ℕ
  pub octets : List ℕ
  pub are : Octets (number ∷ octets)
  pub same : asked_of number octets ≡ s

asked-as : (n : ℕ) (os body : List ℕ) → length os < 40 → padded (n ∷ os) ≡ body → used_of body ≡ 1 + length os → asked_of n os ≡ sets_of body
unfolding asked_of
asked-as n os body k e u =
    rw (lt-leb 40 (length os) k, eq-eqb (used_of (padded (n ∷ os))) (1 + length os) (ap used_of e ∙ u)) (ap sets_of e)

pub fit-asked : (s : Sets) → SetsFit s → Asks s
fit-asked s f =
    let o = forty_of s in
    let u = used_of o in
    let n = get_or o 0 0 in
    let os = take (u - 1) (drop 1 o) in
    let some : 1 ≤ u = used-some o in
    let first : o ≡ n ∷ drop 1 o = drop-cons o 0 0 (omega (arith, forty-length s)) in
    let width : u ≡ suc (u - 1) = omega arith in
    let taken : take u o ≡ n ∷ os = ap (λ (k : ℕ). take k o) width ∙ ap (take (suc (u - 1))) first in
    let many : length (take u o) ≡ u = simp length-take (omega (arith, forty-length s, f.room)) in
    let whole : suc (length os) ≡ u = sym (ap length taken) ∙ many in
    let size : 1 + length os ≡ u = omega arith in
    let body : padded (n ∷ os) ≡ o = ap padded (sym taken) ∙ sym (cut-is o (forty-length s)) ∙ fit_cut s f in
    record {
      number = n;
      octets = os;
      are = subst Octets taken (octets-take u o (forty-octets s));
      same = asked-as n os o (omega (arith, f.room)) body (sym size) ∙ sets-forty s f.typed;
    }

-- sets that don't are not told from others that don't
pub unfit-fits : fits_sets unfit ≡ false
unfolding fits_sets ends_at forty_of onto used_of ending ones ones_in
unfit-fits = refl

pub unfit-asked : asked_of 255 [] ≡ unfit
unfolding asked_of used_of ending ones ones_in
unfit-asked = refl
