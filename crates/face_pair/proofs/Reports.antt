-- Every REPORT that the client of a box may ask for can be asked for in words: by the octets of its sets, or, where they don't fit, by others
-- that don't.
-- Assumes nothing.
use Prim.Native.Nat.{ℕ}
use mathlib.Core.Path.{◌≡◌, refl, sym, ap, ◌∙◌}
use mathlib.Core.Bool.{true, false}
use mathlib.Core.List.{List, [], ◌∷◌}
use mathlib.Core.Logic.{⊎_elim}
use Rattle.laws.specs.Cases.{decided}
use Rattle.frame_queues.specs.Asked.{asked_of}
use Rattle.frame_queues.specs.Asking.{fit-asked, unfit-fits, unfit-asked}
use Rattle.frame_queues.proofs.Fitting.{sets-fit}
use Rattle.frame_queues.specs.Queues.{SetsTyped, fits_sets}
use Rattle.frame_queues.specs.declared.Sets.{Sets}
use Rattle.box_calls.specs.Box.{report_of}
use Rattle.box_calls.specs.declared.FloorBox.{FloorBox}
use Rattle.pair_wire.specs.Carried.{are-octets}
use Rattle.pair_wire.specs.Message.{are_octets}

pub record Worded (b : FloorBox) (s : Sets) : Type 0 where
  pub number : ℕ
  pub sets : List ℕ
  pub octets : are_octets (number ∷ sets) ≡ true
  pub same : report_of s b ≡ report_of (asked_of number sets) b

unfits : (b : FloorBox) (s t : Sets) → fits_sets s ≡ false → fits_sets t ≡ false → report_of s b ≡ report_of t b
unfolding report_of
unfits b s t e f = rw (e, f)

pub worded : (b : FloorBox) (s : Sets) → SetsTyped s → Worded b s
worded b s t =
    ⊎_elim
    (λ (e : fits_sets s ≡ true).
    let a = fit-asked s (sets-fit s t e) in
    record {
      number = a.number;
      sets = a.octets;
      octets = are-octets (a.number ∷ a.octets) a.are;
      same = ap (λ (x : Sets). report_of x b) (sym a.same);
    })
    (λ (e : fits_sets s ≡ false).
    record { number = 255; sets = []; octets = refl; same = unfits b s (asked_of 255 []) e (ap fits_sets unfit-asked ∙ unfit-fits) })
    (decided (fits_sets s))
