-- Statement: when the laser is on, and when there is light (R84, R135, R143, R245).
-- Assumes nothing.
use Rattle.std.specs.Prelude.{◌≤◌, ◌≡◌, true, false}
use Rattle.box_light.specs.Light.{is_on, is_lit, remaining}
use Rattle.box_light.specs.declared.Light.{Light}
use Rattle.box_registration.specs.declared.State.TheVariants.{Wait}
use Rattle.box_calls.specs.Box.{sound_of}
use Rattle.box_calls.specs.declared.FloorBox.{FloorBox}

-- transmission is enabled only while it is on
unfoldable pub SendsLit : Type 0
SendsLit = (l : Light) → 1 ≤ remaining l → is_on l ≡ true

-- what is on gives light
unfoldable pub OnLit : Type 0
OnLit = (l : Light) → is_on l ≡ true → is_lit l ≡ true

-- a sound box in WAIT is dark
unfoldable pub WaitDark : Type 0
WaitDark = (b : FloorBox) → sound_of b ≡ true → b.processes.registration.state ≡ Wait → is_lit b.processes.light ≡ false
