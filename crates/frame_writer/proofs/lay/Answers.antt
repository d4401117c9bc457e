-- `frame_writer::lay` meets its promise.
-- Assumes nothing.
use Prim.Native.Nat.{◌+◌, ◌-◌}
use mathlib.Core.Path.{◌≡◌, ◌∙◌}
use mathlib.Core.List.{[]}
use native.Mathlib.Omega.{arith}
use native.Mathlib.Nat.{add-zero}
use lib.ListN.{length, take, drop}
use lib.Seq.{drop-drop}
use Rattle.octets.specs.Octets.{bytes}
use Rattle.octets.specs.Laws.{length_part, length-onto, over-is}
use Rattle.frame_writer.proofs.lay.Goals as goal

pub returns : goal.returns
returns c =
    let a = c.args in
    let width : a.at + a.n - a.at ≡ a.n = omega arith in
    let sixty : length a.o.now ≡ 60 = omega arith in
    let whole : length (take a.n (drop a.at a.o.now)) ≡ a.n =
    length_part a.o.now a.at a.n (omega arith) in
    let wide : length (bytes a.n a.x) ≡ a.n = length-onto a.n a.x [] ∙ add-zero a.n in
    rw (c.put.ensures, over-is a.at a.o.now (bytes a.n a.x) (omega arith), width, whole, wide, drop-drop)
