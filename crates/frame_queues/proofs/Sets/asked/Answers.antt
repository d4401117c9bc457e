-- `frame_queues::Sets::asked` meets its promise.
-- Assumes nothing.
use mathlib.Core.Path.{ap, ◌∙◌}
use borrow.Author.Tests.{le-leb, lt-leb, eq-eqb, ne_eqb}
use lib.ListN.{length}
use Rattle.frame_queues.specs.Asked.{asked_of}
use Rattle.frame_queues.specs.Queues.{sets_of}
use Rattle.frame_queues.proofs.Sets.asked.Goals as goal

pub returns-then-octets-ge-BODY : goal.returns-then-octets-ge-BODY
unfolding asked_of
returns-then-octets-ge-BODY c = rw (le-leb 40 (length c.args.octets.now) c.if-octets-ge-BODY.true)

pub returns-then-used-octets : goal.returns-then-used-octets
unfolding asked_of
returns-then-used-octets c =
    let l = c.args.octets.now in
    rw (lt-leb 40 (length l) c.if-octets-ge-BODY.false, ← c.begun-body.ensures, ← c.used.ensures, eq-eqb _ _ c.if-used-octets.true)
    (c.of.ensures ∙ ap sets_of c.begun-body.ensures)

pub returns : goal.returns
unfolding asked_of
returns c =
    let l = c.args.octets.now in
    rw (lt-leb 40 (length l) c.if-octets-ge-BODY.false, ← c.begun-body.ensures, ← c.used.ensures, ne_eqb _ _ c.if-used-octets.false)
