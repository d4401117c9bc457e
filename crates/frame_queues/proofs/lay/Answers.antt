-- `frame_queues::lay` meets its promise.
-- Assumes nothing.
use Rattle.std.proofs.Common.{◌≡◌, ◌∙◌, ◌+◌, ◌-◌, [], length, take, drop, add-zero, drop-drop, arith}
use Rattle.octets.specs.Laws.{length_part, length-onto, over-is}
use Rattle.octets.specs.Octets.{bytes}
use Rattle.frame_queues.proofs.lay.Goals as goal

pub returns : goal.returns
returns c =
    let a = c.args in
    let l = a.out in
    let width : a.at + 8 - a.at ≡ 8 = omega arith in
    let whole : length (take 8 (drop a.at l)) ≡ 8 = length_part l a.at 8 (omega arith) in
    let wide : length (bytes 8 a.x) ≡ 8 = length-onto 8 a.x [] ∙ add-zero 8 in
    rw (c.put.ensures, over-is a.at l (bytes 8 a.x) (omega arith), width, whole, wide, drop-drop)
