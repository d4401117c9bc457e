-- `box_light::Light::open_for` meets its promise.
-- Assumes nothing.
use Rattle.std.proofs.Common.{◌≡◌, ℕ, ◌+◌, ◌-◌, ap, arith}
use Rattle.box_light.specs.Light.{open_for}
use Rattle.box_light.proofs.Light.open_for.Goals as goal

pub returns : goal.returns
unfolding open_for
returns c =
    let a = c.args in
    let left : c.saturating_sub-left.result ≡ a.length.0 - (32 + a.sync.0 + 32) = omega arith in
    rw c.start.ensures (ap (λ (n : ℕ). record { left = n }) left)
