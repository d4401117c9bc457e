-- `head_table::paste` meets its promise.
-- Assumes nothing.
use Rattle.std.proofs.Common.{◌≡◌, ◌+◌, ◌-◌, ◌*◌, length, refl, arith}
use Rattle.octets.specs.Laws.{over-is}
use lib.Seq.{drop-drop}
use borrow.Author.Tests.{lt-ltb, le-ltb}
use Rattle.head_table.specs.Output.{pasted}
use Rattle.head_table.proofs.paste.Goals as goal

pub returns-then-n-out : goal.returns-then-n-out
unfolding pasted
returns-then-n-out c = let sixty : length c.args.frame ≡ 60 = omega arith in
    let width : c.args.n * 60 + 60 - c.args.n * 60 ≡ 60 = omega arith in
    let e = c.copy_from_slice.ensures in
    rw (lt-ltb _ _ c.if-n-out.true) (refl, rw (e.after, over-is (c.args.n * 60) c.args.out.now c.args.frame (omega arith), sixty, width, drop-drop))

pub returns : goal.returns
unfolding pasted
returns c = rw (le-ltb _ _ c.if-n-out.false) (refl, refl)
