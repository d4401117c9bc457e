-- `face_frame_read::read_report` meets its promise.
-- Assumes nothing.
use mathlib.Core.Path.{◌≡◌, ap, ◌∙◌}
use mathlib.Core.Bool.{true}
use native.Mathlib.Omega.{arith}
use borrow.Author.Tests.{le-leb, lt-leb}
use lib.Dec.{leb}
use Prim.Native.Nat.{ℕ}
use mathlib.Core.List.{List}
use borrow.Rule.Slice.PartMut.{mid_of}
use lib.ListN.{length, take, drop, length-drop}
use lib.Seq.{take_all}
use Rattle.std.proofs.Common.{rules}
use Rattle.octets.specs.Laws.{octets-drop}
use Rattle.frame_queues.specs.Laws.{forty-sets}
use Rattle.frame_queues.specs.Queues.{used_of, cut_of, forty_of, sets_of}
use Rattle.frame_reader.specs.Decode.{report_at}
use Rattle.face_frame_read.proofs.read_report.Goals as goal

body-part : (l : List ℕ) → length l ≡ 60 → mid_of 20 40 l ≡ drop 20 l
body-part l h =
    let mid : mid_of 20 40 l ≡ take 40 (drop 20 l) = search rules in
    mid ∙ take_all 40 (drop 20 l) (simp length-drop (omega arith))

pub returns-then-used-le-BODY : goal.returns-then-used-le-BODY
unfolding report_at
returns-then-used-le-BODY c =
    let l = c.args.s.now in
    let part : mid_of 20 40 l ≡ drop 20 l = body-part l c.told-s in
    let back : forty_of (sets_of (drop 20 l)) ≡ drop 20 l = forty-sets (drop 20 l) (octets-drop 20 l c.fits-s) (simp length-drop (omega arith)) in
    let used : c.used-used.result ≡ used_of (drop 20 l) = c.used-used.ensures ∙ ap used_of part in
    let cut : c.cut-t.result ≡ sets_of (cut_of (drop 20 l)) = c.cut-t.ensures ∙ rw (used, c.of.ensures, part, back) in
    let room : leb (used_of (drop 20 l)) 40 ≡ true = le-leb (used_of (drop 20 l)) 40 (rw used at c.if-used-le-BODY.true) in
    rw (c.take.ensures, room, cut)

pub returns : goal.returns
returns c =
    let l = c.args.s.now in
    let part : mid_of 20 40 l ≡ drop 20 l = body-part l c.told-s in
    let used : c.used-used.result ≡ used_of (drop 20 l) = c.used-used.ensures ∙ ap used_of part in
    rw (lt-leb (used_of (drop 20 l)) 40 (rw used at c.if-used-le-BODY.false))
