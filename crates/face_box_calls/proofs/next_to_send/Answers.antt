-- `face_box_calls::next_to_send` meets its promise.
-- Assumes nothing.
use Rattle.std.proofs.Common.{arith}
use Rattle.std.proofs.lemmas.Bool.Decides.{nat_tests}
use Rattle.std.proofs.lemmas.Grind.{common_steps}
use Rattle.face_box_calls.specs.Calls.{next_call}
use Rattle.face_box_calls.proofs.next_to_send.Goals as goal

pub returns-then-block-lt-BOX : goal.returns-then-block-lt-BOX
unfolding next_call
returns-then-block-lt-BOX c = grind (arith, nat_tests, common_steps)

pub returns-then-is_empty : goal.returns-then-is_empty
unfolding next_call
returns-then-is_empty c =
    let sent = c.next_to_send.ensures.1 in
    rw (← c.load.ensures, ← sent) (grind (arith, nat_tests, common_steps, c.if-is_empty.ensures))

pub returns-then-not-is_empty : goal.returns-then-not-is_empty
unfolding next_call
returns-then-not-is_empty c =
    let sent = c.next_to_send.ensures.1 in
    rw (← c.load.ensures, ← sent) (grind (arith, nat_tests, common_steps, c.if-is_empty.ensures, c.if-not-is_empty.ensures))

pub returns : goal.returns
unfolding next_call
returns c =
    let sent = c.next_to_send.ensures.1 in
    rw (← c.load.ensures, ← sent) (grind (arith, nat_tests, common_steps, c.if-is_empty.ensures, c.if-not-is_empty.ensures))
