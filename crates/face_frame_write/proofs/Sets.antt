-- The octets of a REPORT as they are laid: its body behind the header, and nothing but zeros where it has no sets.
-- Assumes nothing.
use Prim.Native.Nat.{ℕ}
use mathlib.Core.Path.{◌≡◌, refl, ap, ◌∙◌}
use mathlib.Core.Bool.{Bool, true, ◌&&◌, and-eq-true_iff}
use mathlib.Core.List.{List, []}
use borrow.Author.Tests.{eqb-true}
use borrow.Rule.Slice.PartMut.{mid_of}
use lib.Dec.{eqb}
use Rattle.octets.specs.Octets.{onto}
use Rattle.frame_queues.specs.Queues.{used_of, forty_of, no_sets, ends_at, fits_sets}
use Rattle.frame_queues.specs.declared.Sets.{Sets}
use Rattle.face_frame_write.specs.declared.Header.{Header}
use Rattle.face_frame_write.specs.Steps.{sets_over, framed}

pub no-words : (a b c d e : ℕ) → (eqb a 0 && (eqb b 0 && (eqb c 0 && (eqb d 0 && eqb e 0)))) ≡ true
    → record { first = a; second = b; third = c; fourth = d; fifth = e } ≡ no_sets
no-words a b c d e h =
    let p = (and-eq-true_iff (eqb a 0) _).0 h in
    let q = (and-eq-true_iff (eqb b 0) _).0 p.1 in
    let r = (and-eq-true_iff (eqb c 0) _).0 q.1 in
    let s = (and-eq-true_iff (eqb d 0) (eqb e 0)).0 r.1 in
    rw (eqb-true a 0 p.0, eqb-true b 0 q.0, eqb-true c 0 r.0, eqb-true d 0 s.0, eqb-true e 0 s.1)

module _ (h : Header) where
  laid : (sets : Sets) → sets_over (framed h 3 []) sets ≡ framed h 3 (forty_of sets)
  unfolding onto forty_of
  laid sets = refl

  body : (sets : Sets) → mid_of 20 40 (framed h 3 (forty_of sets)) ≡ forty_of sets
  unfolding onto forty_of
  body sets = refl

  pub empty : framed h 3 [] ≡ framed h 3 (forty_of no_sets)
  unfolding onto forty_of
  empty = refl

  -- what is laid, and that the test of it is the test of the sets
  pub laid-tested : (sets : Sets) (x : List ℕ) (n : ℕ) (r : Bool)
      → x ≡ sets_over (framed h 3 []) sets → n ≡ used_of (mid_of 20 40 x) → r ≡ ends_at n sets
      → (x ≡ framed h 3 (forty_of sets)) × (r ≡ fits_sets sets)
  unfolding fits_sets ends_at
  laid-tested sets x n r e u t =
      let is = e ∙ laid sets in
      let used : n ≡ used_of (forty_of sets) = u ∙ ap (λ (l : List ℕ). used_of (mid_of 20 40 l)) is ∙ ap used_of (body sets) in
      (is, t ∙ ap (λ (k : ℕ). ends_at k sets) used)
