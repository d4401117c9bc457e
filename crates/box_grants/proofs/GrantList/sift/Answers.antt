-- `box_grants::GrantList::sift` meets its promise.
-- Assumes nothing.
use Rattle.std.proofs.Common.{◌≡◌, ◌+◌, ◌<◌, false, [], get_or, take, refl, sym, ap, ◌∙◌, arith, add-one, length-take, drop-cons, drop_of_length-le}
use lib.Dec.{ltb}
use Rattle.clock.specs.Spans.{none}
use Rattle.box_grants.specs.Listed.{list_of}
use Rattle.box_grants.specs.Walk.{Walked, walked}
use Rattle.box_grants.specs.Laws.{walked-list, sift-stays, sift-leaves}
use Rattle.box_grants.proofs.GrantList.sift.Goals as goal
use Rattle.box_grants.proofs.GrantList.sift.Goals.{Then-not-takes, Joined-not-takes, then-not-takes, else-not-takes}

-- a turn stores what stays behind what stayed before it, and passes over what leaves
turn : (c : Joined-not-takes) →
    record { list = record { entries = c.if-not-takes.stay; number = c.if-not-takes.k }; gone = ltb c.if-not-takes.k (c.loop-i.i + 1) }
    ≡ walked c.args.leaving (record { list = record { entries = c.loop-i.stay; number = c.loop-i.k }; gone = ltb c.loop-i.k c.loop-i.i })
    (get_or (take c.held.result c.args.self.entries) c.loop-i.i none)
turn c =
    elim c.if-not-takes.branch [
      | then-not-takes w ↦ rw (w.stay-is, w.k-is) (sift-stays _ _ _ _ _ (omega (arith, length-take c.held.result c.args.self.entries)) (sym c.takes.ensures ∙ w.if-not-takes.true))
      | else-not-takes w ↦ rw (w.stay-is, w.k-is) (sift-leaves _ _ _ _ _ c.loop-i.invariant.0 (sym c.takes.ensures ∙ w.if-not-takes.false))
    ]

-- there is room for what stays
below : (c : Then-not-takes) → c.loop-i.k < 16
below c = omega (arith, length-take c.held.result c.args.self.entries)

pub offset_bounds-stay-k : goal.offset_bounds-stay-k
offset_bounds-stay-k c = let h = below c in omega arith

pub bounds-stay-k : goal.bounds-stay-k
bounds-stay-k c = below c

pub loop-i-init : goal.loop-i-init
loop-i-init c = (omega arith, refl)

pub loop-i-preserved : goal.loop-i-preserved
loop-i-preserved c =
    let l = take c.held.result c.args.self.entries in
    let step = drop-cons l c.loop-i.i none c.loop-i-test.true in (
      elim c.if-not-takes.branch [ then-not-takes w ↦ omega arith | else-not-takes w ↦ omega arith ],
      rw (turn c, add-one) (rw step at c.loop-i.invariant.1),
    )

pub returns : goal.returns
returns c =
    let a = c.args in
    let l = take c.held.result a.self.entries in
    ap (λ (s : Walked). s.list) (rw (drop_of_length-le l {i = c.loop-i.i} c.loop-i-test.false) at c.loop-i.invariant.1)
    ∙ rw (c.held.ensures, c.none-stay.ensures) (walked-list a.leaving [] (list_of a.self) false (simp length-take (omega arith)))
