-- `box_grants::Sieve::sift` meets its promise.
-- Assumes nothing.
use Rattle.box_grants.specs.Sifting.{sifted}
use Rattle.box_grants.proofs.Sieve.sift.Goals as goal

pub returns-then-self : goal.returns-then-self
unfolding sifted
returns-then-self c = rw (c.push.ensures, c.if-self.true)

pub returns-then-eq : goal.returns-then-eq
unfolding sifted
returns-then-eq c = rw (c.if-self.false, ← c.eq.ensures, c.if-eq.true)

pub returns : goal.returns
unfolding sifted
returns c = rw (c.push-2.ensures, c.if-self.false, ← c.eq.ensures, c.if-eq.false)
