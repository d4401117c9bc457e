-- Each promise of the crate settles the whole answer: any two results that it allows are equal.
-- Assumes nothing.
use Rattle.std.proofs.Common.{sym, ◌∙◌}
use Rattle.laws.specs.Settles.{Settles}
use Rattle.clock.proofs.Quanta.needed.Kinds as needed-kinds
use Rattle.clock.proofs.Quanta.needed.Reads as needed-reads
use Rattle.clock.proofs.Quanta.fits.Kinds as fits-kinds
use Rattle.clock.proofs.Quanta.fits.Reads as fits-reads
use Rattle.clock.proofs.Count.next.Kinds as next-kinds
use Rattle.clock.proofs.Count.next.Reads as next-reads
use Rattle.clock.proofs.Count.distance.Kinds as distance-kinds
use Rattle.clock.proofs.Count.distance.Reads as distance-reads
use Rattle.clock.proofs.Count.is_past.Kinds as is-past-kinds
use Rattle.clock.proofs.Count.is_past.Reads as is-past-reads
use Rattle.clock.proofs.Count.nearer.Kinds as nearer-kinds
use Rattle.clock.proofs.Count.nearer.Reads as nearer-reads
use Rattle.clock.proofs.Count.reach.Kinds as reach-kinds
use Rattle.clock.proofs.Count.reach.Reads as reach-reads
use Rattle.clock.proofs.Count.drift.Kinds as drift-kinds
use Rattle.clock.proofs.Count.drift.Reads as drift-reads
use Rattle.clock.proofs.Count.round_trip.Kinds as round-trip-kinds
use Rattle.clock.proofs.Count.round_trip.Reads as round-trip-reads
use Rattle.clock.proofs.Span.none.Kinds as span-none-kinds
use Rattle.clock.proofs.Span.none.Reads as span-none-reads
use Rattle.clock.proofs.Span.same.Kinds as span-same-kinds
use Rattle.clock.proofs.Span.same.Reads as span-same-reads
use Rattle.clock.proofs.Span.nearer.Kinds as span-nearer-kinds
use Rattle.clock.proofs.Span.nearer.Reads as span-nearer-reads
use Rattle.clock.proofs.Timer.stopped.Kinds as stopped-kinds
use Rattle.clock.proofs.Timer.stopped.Reads as stopped-reads
use Rattle.clock.proofs.Timer.start.Kinds as start-kinds
use Rattle.clock.proofs.Timer.start.Reads as start-reads
use Rattle.clock.proofs.Timer.stop.Kinds as stop-kinds
use Rattle.clock.proofs.Timer.stop.Reads as stop-reads
use Rattle.clock.proofs.Timer.tick.Kinds as tick-kinds
use Rattle.clock.proofs.Timer.tick.Reads as tick-reads
use Rattle.clock.proofs.Timer.off.Kinds as off-kinds
use Rattle.clock.proofs.Timer.off.Reads as off-reads
use Rattle.clock.proofs.Timer.runs.Kinds as runs-kinds
use Rattle.clock.proofs.Timer.runs.Reads as runs-reads
use Rattle.clock.proofs.Count.start_in_range.Kinds as start-in-range-kinds
use Rattle.clock.proofs.Count.start_in_range.Reads as start-in-range
use Rattle.clock.proofs.in_reach.Kinds as in-reach-kinds
use Rattle.clock.proofs.in_reach.Reads as in-reach-reads
use Rattle.clock.proofs.passing.Kinds as passing-kinds
use Rattle.clock.proofs.passing.Reads as passing-reads
use Rattle.clock.proofs.Count.later.Kinds as later-kinds
use Rattle.clock.proofs.Count.later.Reads as later-reads
use Rattle.clock.proofs.Timer.passed.Kinds as passed-kinds
use Rattle.clock.proofs.Timer.passed.Reads as Passed-reads
use Rattle.clock.proofs.Timer.quiet.Kinds as quiet-kinds
use Rattle.clock.proofs.Timer.quiet.Reads as quiet-reads

pub needed-settles : Settles 0 needed-kinds.ps needed-kinds.r needed-reads.Post
needed-settles κs a e x y p q = p ∙ sym q

pub fits-settles : Settles 0 fits-kinds.ps fits-kinds.r fits-reads.Post
fits-settles κs a e x y p q = p ∙ sym q

pub next-settles : Settles 0 next-kinds.ps next-kinds.r next-reads.Post
next-settles κs a e x y p q = p ∙ sym q

pub distance-settles : Settles 0 distance-kinds.ps distance-kinds.r distance-reads.Post
distance-settles κs a e x y p q = p ∙ sym q

pub is-past-settles : Settles 0 is-past-kinds.ps is-past-kinds.r is-past-reads.Post
is-past-settles κs a e x y p q = p ∙ sym q

pub nearer-settles : Settles 0 nearer-kinds.ps nearer-kinds.r nearer-reads.Post
nearer-settles κs a e x y p q = p ∙ sym q

pub reach-settles : Settles 0 reach-kinds.ps reach-kinds.r reach-reads.Post
reach-settles κs a e x y p q = p ∙ sym q

pub drift-settles : Settles 0 drift-kinds.ps drift-kinds.r drift-reads.Post
drift-settles κs a e x y p q = p ∙ sym q

pub round-trip-settles : Settles 0 round-trip-kinds.ps round-trip-kinds.r round-trip-reads.Post
round-trip-settles κs a e x y p q = p ∙ sym q

pub span-none-settles : Settles 0 span-none-kinds.ps span-none-kinds.r span-none-reads.Post
span-none-settles κs a e x y p q = p ∙ sym q

pub span-same-settles : Settles 0 span-same-kinds.ps span-same-kinds.r span-same-reads.Post
span-same-settles κs a e x y p q = p ∙ sym q

pub span-nearer-settles : Settles 0 span-nearer-kinds.ps span-nearer-kinds.r span-nearer-reads.Post
span-nearer-settles κs a e x y p q = p ∙ sym q

pub stopped-settles : Settles 0 stopped-kinds.ps stopped-kinds.r stopped-reads.Post
stopped-settles κs a e x y p q = p ∙ sym q

pub start-settles : Settles 0 start-kinds.ps start-kinds.r start-reads.Post
start-settles κs a e x y p q = p ∙ sym q

pub stop-settles : Settles 0 stop-kinds.ps stop-kinds.r stop-reads.Post
stop-settles κs a e x y p q = p ∙ sym q

pub tick-settles : Settles 0 tick-kinds.ps tick-kinds.r tick-reads.Post
tick-settles κs a e x y p q = p ∙ sym q

pub off-settles : Settles 0 off-kinds.ps off-kinds.r off-reads.Post
off-settles κs a e x y p q = p ∙ sym q

pub runs-settles : Settles 0 runs-kinds.ps runs-kinds.r runs-reads.Post
runs-settles κs a e x y p q = p ∙ sym q

pub start-in-range-settles : Settles 0 start-in-range-kinds.ps start-in-range-kinds.r start-in-range.Post
start-in-range-settles κs a e x y p q = p ∙ sym q

pub in-reach-settles : Settles 0 in-reach-kinds.ps in-reach-kinds.r in-reach-reads.Post
in-reach-settles κs a e x y p q = p ∙ sym q

pub passing-settles : Settles 0 passing-kinds.ps passing-kinds.r passing-reads.Post
passing-settles κs a e x y p q = p ∙ sym q

pub later-settles : Settles 0 later-kinds.ps later-kinds.r later-reads.Post
later-settles κs a e x y p q = p ∙ sym q

pub passed-settles : Settles 0 passed-kinds.ps passed-kinds.r Passed-reads.Post
passed-settles κs a e x y p q = p ∙ sym q

pub quiet-settles : Settles 0 quiet-kinds.ps quiet-kinds.r quiet-reads.Post
quiet-settles κs a e x y p q = p ∙ sym q
