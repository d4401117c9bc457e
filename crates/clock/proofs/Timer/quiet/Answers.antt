-- `clock::Timer::quiet` meets its promise: its test picks the definition's arm.
-- Assumes nothing.
use Rattle.std.proofs.Common.{eq-eqb, ne_eqb}
use Rattle.clock.specs.Timers.{quiet_of}
use Rattle.clock.proofs.Timer.quiet.Goals as goal

pub returns-then-self-eq0 : goal.returns-then-self-eq0
unfolding quiet_of
returns-then-self-eq0 c = rw (eq-eqb _ _ c.if-self-eq0.true)

pub returns : goal.returns
unfolding quiet_of
returns c = rw (ne_eqb _ _ c.if-self-eq0.false)
