-- `face_head_pass::pass_at` meets its promise.
-- Assumes nothing.
use Rattle.face_head_pass.proofs.Turns.{pass-there}
use lib.ListN.{length-set}
use native.Mathlib.Omega.{arith}
use Rattle.face_head_pass.proofs.pass_at.Goals as goal

pub bounds-links-at-4 : goal.bounds-links-at-4
bounds-links-at-4 c = simp length-set (omega arith)

pub bounds-links-at-6 : goal.bounds-links-at-6
bounds-links-at-6 c = simp length-set (omega arith)

pub returns : goal.returns
returns c =
    pass-there c.args.links.now c.args.at c.args.k _ _ _ c.requires c.saturating_sub.ensures c.saturating_sub-2.ensures c.saturating_sub-3.ensures
