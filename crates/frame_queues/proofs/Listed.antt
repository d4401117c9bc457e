-- The sets of a body one by one: statements of the page Listed.
-- Assumes nothing.
use Prim.Native.Nat.{ℕ, zero, suc, ◌+◌, ◌-◌, ◌*◌, ◌≤◌, ◌<◌}
use mathlib.Core.Path.{◌≡◌, refl, sym, ap, ◌∙◌}
use mathlib.Core.List.{List, [], ◌∷◌, ◌++◌, append_assoc}
use native.Mathlib.Omega.{arith}
use lib.Count.{ones}
use lib.ListN.{length, take, drop, get_or, length-append}
use lib.Seq.{drop-cons, get_or-append_seam}
use Rattle.octets.specs.Laws.{length_part, join}
use Rattle.frame_queues.specs.Laws.{ending-from}
use Rattle.frame_queues.specs.Listed.{Set, octets_of, ListedUsed, Stand, UsedListed}
use Rattle.frame_queues.specs.Queues.{past_of, ending, used_of}

-- sets behind any octets end where their octets do
listed-ending : (ss : List Set) (p t : List ℕ) → ending (p ++ (octets_of ss ++ t)) (length ss) (length p) ≡ length p + length (octets_of ss)
unfolding ending
listed-ending [] p t = omega arith
listed-ending (s ∷ ss) p t =
    let here = s.bitmap ∷ s.lengths in
    let rest = octets_of ss ++ t in
    let o = p ++ ((here ++ octets_of ss) ++ t) in
    let parts : o ≡ (p ++ here) ++ rest = rw (append_assoc here (octets_of ss) t) (sym (append_assoc p here rest)) in
    let bitmap : get_or o (length p) 0 ≡ s.bitmap = get_or-append_seam p s.bitmap ((s.lengths ++ octets_of ss) ++ t) 0 in
    let next : length p + 1 + 2 * ones s.bitmap ≡ length (p ++ here) = rw (length-append p here, s.each) (omega arith) in
    let place : past_of o (length p) ≡ length (p ++ here) = ap (λ (b : ℕ). length p + 1 + 2 * ones b) bitmap ∙ next in
    let all : length (p ++ here) + length (octets_of ss) ≡ length p + length (here ++ octets_of ss) =
    omega (arith, length-append p here, length-append here (octets_of ss)) in
    ap (λ (m : ℕ). ending o (length ss) m) place
    ∙ ap (λ (l : List ℕ). ending l (length ss) (length (p ++ here))) parts
    ∙ listed-ending ss (p ++ here) t
    ∙ all

pub listed-used : ListedUsed
unfolding used_of
listed-used ss t = listed-ending ss (length ss ∷ []) t

stand : (o : List ℕ) (n at : ℕ) → ending o n at ≤ length o → Stand o n at (ending o n at)
unfolding ending
stand o zero at h =
    let none : at - at ≡ 0 = omega arith in
    record { sets = []; number = refl; octets = rw none }
stand o (suc n) at h =
    let b = get_or o at 0 in
    let k = 2 * ones b in
    let q = past_of o at in
    let e = ending o n q in
    let later : q ≤ e = ending-from o n q in
    let rest = stand o n q h in
    let less : at < length o = omega arith in
    let width : e - at ≡ suc k + (e - q) = omega arith in
    let place : at + suc k ≡ q = omega arith in
    let first : take (suc k) (drop at o) ≡ b ∷ take k (drop (suc at) o) = rw (drop-cons o at 0 less) in
    record {
      sets = record { bitmap = b; lengths = take k (drop (suc at) o); each = length_part o (suc at) k (omega arith) } ∷ rest.sets;
      number = ap suc rest.number;
      octets = rw (width, ← join o at (suc k) (e - q), first, place, rest.octets);
    }

pub used-listed : UsedListed
unfolding used_of
used-listed o h = stand o (get_or o 0 0) 1 h
