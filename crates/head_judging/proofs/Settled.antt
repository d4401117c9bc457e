-- Every promise of this crate settles the whole answer.
-- Assumes nothing.
use mathlib.Core.Path.{sym, ◌∙◌}
use Rattle.laws.specs.Settles.{Settles}
use Rattle.head_judging.proofs.look.Kinds as look-kinds
use Rattle.head_judging.proofs.look.Reads as look
use Rattle.head_judging.proofs.judge.Kinds as judge-kinds
use Rattle.head_judging.proofs.judge.Reads as judge

pub look-settles : Settles 0 look-kinds.ps look-kinds.r look.Post
look-settles κs a e x y p q = p ∙ sym q

pub judge-settles : Settles 0 judge-kinds.ps judge-kinds.r judge.Post
judge-settles κs a e x y p q = p ∙ sym q
