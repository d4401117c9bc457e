-- `face_head_pass::quiet_links` meets its promise.
-- Assumes nothing.
use Rattle.std.proofs.Common.{length, sym, ◌∙◌, arith}
use borrow.Author.Tests.{lt-ltb, le-ltb}
use Rattle.face_head_pass.specs.Judge.{quiet_links}
use Rattle.face_head_pass.proofs.Page.{nearest-le, none-quiet}
use Rattle.face_head_pass.proofs.quiet_links.Goals as goal

pub returns-then-is_empty : goal.returns-then-is_empty
returns-then-is_empty c = sym (none-quiet c.args.links.now (sym c.is_empty.ensures ∙ c.if-is_empty.true))

pub returns-then-m-lt2 : goal.returns-then-m-lt2
unfolding quiet_links
returns-then-m-lt2 c =
    rw (sym c.is_empty.ensures ∙ c.if-is_empty.false, ← c.nearest-m.ensures, lt-ltb _ _ c.if-m-lt2.true)

pub overflow_cast-result : goal.overflow_cast-result
overflow_cast-result c = omega (arith, c.nearest-m.ensures, nearest-le (length c.args.links.now) c.args.links.now)

pub returns-then-all_differ : goal.returns-then-all_differ
unfolding quiet_links
returns-then-all_differ c =
    rw (sym c.is_empty.ensures ∙ c.if-is_empty.false, ← c.nearest-m.ensures, le-ltb _ _ c.if-m-lt2.false, ← c.all_differ.ensures, c.if-all_differ.true)

pub returns : goal.returns
unfolding quiet_links
returns c =
    rw (sym c.is_empty.ensures ∙ c.if-is_empty.false, ← c.nearest-m.ensures, le-ltb _ _ c.if-m-lt2.false, ← c.all_differ.ensures, c.if-all_differ.false)
