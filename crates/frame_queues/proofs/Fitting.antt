-- What the test of queue sets says: a body in range, and back.
-- Assumes nothing.
use Rattle.std.specs.Prelude.{◌≤◌, ◌≡◌, true, leb, length}
use Rattle.std.proofs.Common.{sym, ap, ◌∙◌, leb-true, le-leb}
use Rattle.std.proofs.Math.Bool.{and-eq-true_iff}
use Rattle.frame_queues.specs.Laws.{cleared-length, forty-length, forty-sets, cleared-octets, forty-octets, same-sets, sets_same, same-zeros, fit_cut, sets-forty}
use Rattle.frame_queues.specs.Queues.{used_of, cut_of, forty_of, sets_of, SetsTyped, SetsFit, same_sets, ends_at, fits_sets}
use Rattle.frame_queues.specs.declared.Sets.{Sets}

-- what is tested of sets
fits-parts : (s : Sets) → fits_sets s ≡ true → (used_of (forty_of s) ≤ 40) × (cut_of (forty_of s) ≡ forty_of s)
unfolding fits_sets ends_at
fits-parts s e =
    let o = forty_of s in
    let size : length (cut_of o) ≡ 40 = cleared-length (used_of o) o ∙ forty-length s in
    let both = (and-eq-true_iff (leb (used_of o) 40) _).0 e in (
      leb-true (used_of o) 40 both.0,
      sym (forty-sets (cut_of o) (cleared-octets (used_of o) o (forty-octets s)) size) ∙ ap forty_of (same-sets _ s both.1),
    )

pub fits_cut : (s : Sets) → fits_sets s ≡ true → cut_of (forty_of s) ≡ forty_of s
fits_cut s e = (fits-parts s e).1

-- the test is the range
pub sets-fit : (s : Sets) → SetsTyped s → fits_sets s ≡ true → SetsFit s
sets-fit s h e =
    let p = fits-parts s e in
    record { typed = h; room = p.0; zeros = same-zeros (forty_of s) (forty-length s) p.0 p.1 }

pub fit-sets : (s : Sets) → SetsFit s → fits_sets s ≡ true
unfolding fits_sets ends_at
fit-sets s f =
    let is : sets_of (cut_of (forty_of s)) ≡ s = ap sets_of (fit_cut s f) ∙ sets-forty s f.typed in
    (and-eq-true_iff _ _).1 (le-leb (used_of (forty_of s)) 40 f.room, ap (λ (t : Sets). same_sets t s) is ∙ sets_same s)
