-- `face_box_calls::advance` meets its promise.
-- Assumes nothing.
use Rattle.std.proofs.Common.{◌≡◌, ◌∙◌, length, sym, arith, eqb-true}
use Rattle.std.proofs.lemmas.Bool.Decides.{nat_tests}
use Rattle.clock.specs.Laws.{reach-parts}
use Rattle.face_box_calls.proofs.Lent.{room, place}
use Rattle.face_box_calls.proofs.Passing.{quiet-parts, advance-left, none_made, too-little, enough}
use Rattle.face_box_calls.proofs.advance.Goals as goal

pub returns-then-is_empty : goal.returns-then-is_empty
returns-then-is_empty c = none_made _ _ _ _ _ (eqb-true _ _ (sym c.if-is_empty.ensures))

pub overflow_cast-n : goal.overflow_cast-n
overflow_cast-n c = omega (arith, (reach-parts _ (quiet-parts _ _ _ c.are_quiet.ensures c.if-are_quiet.true).0).1)

pub returns-then-are_quiet : goal.returns-then-are_quiet
returns-then-are_quiet c =
    let some : length c.args.made.now ≡ 0 → ⊥ = grind (arith, nat_tests, c.if-is_empty.ensures) in
    let lent = c.is_lent.ensures in
    let taken = c.if-is_lent.true in
    let quiet = quiet-parts _ _ _ c.are_quiet.ensures c.if-are_quiet.true in
    rw (c.lay_word.ensures, c.tell_nothing.ensures, c.pass.ensures)
    (advance-left _ _ _ _ _ (place _ _ _ _ lent taken) quiet.0 quiet.1
    ∙ enough _ _ _ _ _ _ lent taken some)

pub count_ticks-requires : goal.count_ticks-requires
count_ticks-requires c = room _ _ _ _ c.is_lent.ensures c.if-is_lent.true

pub returns-then-is_lent : goal.returns-then-is_lent
returns-then-is_lent c =
    let some : length c.args.made.now ≡ 0 → ⊥ = grind (arith, nat_tests, c.if-is_empty.ensures) in
    c.count_ticks.ensures ∙ enough _ _ _ _ _ _ c.is_lent.ensures c.if-is_lent.true some

pub returns : goal.returns
returns c = too-little _ _ _ _ _ _ c.is_lent.ensures c.if-is_lent.false
