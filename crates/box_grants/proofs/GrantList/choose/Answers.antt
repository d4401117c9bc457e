-- `box_grants::GrantList::choose` meets its promise.
-- Assumes nothing.
use Rattle.std.proofs.Common.{None, Some}
use Prim.Native.Nat.{ℕ, suc, ◌<◌, min}
use mathlib.Core.Path.{◌≡◌, sym, ap, ◌∙◌}
use mathlib.Core.List.{List}
use lib.ListN.{length, length-take}
use native.Mathlib.Omega.{arith}
use Rattle.clock.specs.declared.Span.{Span}
use Rattle.box_grants.specs.Activation.{ahead, remove, settle}
use Rattle.box_grants.specs.Listed.{list_of, packed, choice_of, choose_of}
use Rattle.box_grants.specs.Laws.{ahead-shorter, Packs, packs-number, packs-without, nearest-packed, choice-of, choice-found, choice-next, choice-none}
use Rattle.box_grants.specs.declared.GrantList.{GrantList}
use Rattle.box_grants.proofs.GrantList.choose.Goals as goal
use Rattle.box_grants.proofs.GrantList.choose.Goals.{After-without-list}

-- what the walk past the past grants leaves
abbrev packs : (now : ℕ) (s left : GrantList) → left ≡ packed (ahead now (list_of s)) → Packs left
packs now s left h = record { list = ahead now (list_of s); is = h; room = omega (arith, ahead-shorter now (list_of s), length-take (min s.number 16) s.entries) }

-- what is left at the loop's head is the whole choice
module _ (now need : ℕ) (s left : GrantList) where
  whole : (l : List Span) → settle (length l) now need l ≡ settle (length (list_of left)) now need (list_of left)
      → left ≡ packed (ahead now (list_of s)) → choice_of (settle (length l) now need l) ≡ choose_of now need s
  unfolding choose_of
  whole l is h = ap choice_of (is ∙ sym (choice-of _ _ _ (packs now s left h)))

-- a list that is not empty
some : (s : GrantList) (p : Packs s) → 0 < s.number → 0 < length p.list
some s p h = rw (packs-number s p) at h

-- a turn takes the nearest, which is too short, out of the list
module _ (c : After-without-list) where
  next :
      let l = c.loop-list.invariant.0.list in
      let e = c.nearest-e.result in
      (suc (length (remove e l)) ≡ length l)
      × (settle (length (remove e l)) c.args.now.0 c.args.need (remove e l)
      ≡ settle (length l) c.args.now.0 c.args.need l)
  next =
      let p = c.loop-list.invariant.0 in
      choice-next _ _ p.list _ (some _ p c.loop-list-test.true) (nearest-packed _ _ p _ c.nearest-e.ensures) (rw c.from.ensures at c.if-need-from.false)

  abbrev left : Packs c.without-list.result
  left =
      let p = c.loop-list.invariant.0 in
      record {
        list = remove c.nearest-e.result p.list;
        is = packs-without _ p _ _ c.without-list.ensures;
        room = omega (arith, next.0, p.room);
      }

pub loop-list-init : goal.loop-list-init
loop-list-init c =
    let p = packs c.args.now.0 c.args.self _ c.ahead-list.ensures in
    (p, choice-of _ _ _ p)

pub returns-then-need-from : goal.returns-then-need-from
returns-then-need-from c =
    let p = c.loop-list.invariant.0 in
    ap (λ (s : GrantList). record { list = s; chosen = Some c.nearest-e.result }) p.is
    ∙ choice-found _ _ p.list _ (some _ p c.loop-list-test.true) (nearest-packed _ _ p _ c.nearest-e.ensures) (rw c.from.ensures at c.if-need-from.true)
    ∙ whole _ _ _ _ p.list c.loop-list.invariant.1 c.ahead-list.ensures

pub loop-list-smaller : goal.loop-list-smaller
loop-list-smaller c = omega (arith, (next c).0, packs-number _ (left c), packs-number _ c.loop-list.invariant.0)

pub loop-list-preserved : goal.loop-list-preserved
loop-list-preserved c = (left c, (next c).1 ∙ c.loop-list.invariant.1)

pub returns : goal.returns
returns c =
    let p = c.loop-list.invariant.0 in
    ap (λ (s : GrantList). record { list = s; chosen = None }) p.is
    ∙ choice-none _ _ p.list (rw (packs-number _ p) at c.loop-list-test.false)
    ∙ whole _ _ _ _ p.list c.loop-list.invariant.1 c.ahead-list.ensures
