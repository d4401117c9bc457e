-- `box_calls::FloorBox::fits` meets its promise.
-- Assumes nothing.
use Rattle.std.proofs.Common.{◌≡◌, ℕ, ◌-◌, ◌*◌, ◌∙◌, arith, rules, tests}
use Rattle.std.proofs.lemmas.Bool.Decides.{nat_tests}
use mathlib.Core.Bool.{◌&&◌}
use lib.Dec.{leb}
use Rattle.clock.specs.Numbers.{quanta_of}
use Rattle.box_calls.specs.Send.{fits_in}
use Rattle.box_calls.proofs.FloorBox.fits.Goals as goal

-- (n + 24) / 2, rounded up, is at most the ticks exactly when n + 24 is at most twice as much
enough : (ticks n : ℕ) → (leb 24 (2 * ticks) && leb n (2 * ticks - 24)) ≡ leb (quanta_of n) ticks
enough ticks n = grind (arith, nat_tests)

pub returns : goal.returns
unfolding fits_in
returns c =
    let ticks = c.remaining.result in
    let h : c.is_some_and.result ≡ (leb 24 (2 * ticks) && leb c.args.n (2 * ticks - 24)) = search (rules, tests) in
    rw (← c.remaining.ensures) (h ∙ enough ticks c.args.n)
