-- `box_grants::GrantList::sound` meets its promise.
-- Assumes nothing.
use Rattle.std.proofs.Common.{rules, ◌∙◌}
use Rattle.std.proofs.lemmas.Iterator.{YieldsList-from_slice}
use Rattle.std.proofs.lemmas.Iterator.Search.{all_from_yields_List}
use borrow.Author.Tests.{tests, le-leb, lt-leb}
use lib.Dec.{leb}
use Rattle.clock.specs.declared.Span.{Span}
use Rattle.box_grants.specs.Listed.{list_of}
use Rattle.box_grants.specs.Laws.{range-all}
use Rattle.box_grants.specs.Sound.{sound_of}
use Rattle.box_grants.proofs.GrantList.sound.Goals as goal

pub returns-then-self-le-ROOM : goal.returns-then-self-le-ROOM
unfolding sound_of
returns-then-self-le-ROOM c =
    rw (le-leb _ _ c.if-self-le-ROOM.true)
    (all_from_yields_List (λ (e : Span). leb e.length.0 65535) _ _ _ c.all.ensures.ran (YieldsList-from_slice (list_of c.args.self) cc) (λ x b q k. search (rules, tests))
    ∙ range-all (list_of c.args.self))

pub returns-else-self-le-ROOM : goal.returns-else-self-le-ROOM
unfolding sound_of
returns-else-self-le-ROOM c = rw (lt-leb _ _ c.if-self-le-ROOM.false)
