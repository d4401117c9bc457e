-- Every promise of this crate settles the whole answer, and what then stands in the caller's memory.
-- Assumes nothing.
use mathlib.Core.Path.{refl, sym, ◌∙◌}
use Rattle.laws.specs.Settles.{Settles, SettlesLent}
use Rattle.face_box_pass.proofs.quiet.Kinds as quiet-kinds
use Rattle.face_box_pass.proofs.quiet.Reads as quiet
use Rattle.face_box_pass.proofs.pass.Kinds as pass-kinds
use Rattle.face_box_pass.proofs.pass.Reads as pass

pub quiet-settles : Settles 1 quiet-kinds.ps quiet-kinds.r quiet.Post
quiet-settles κs a e x y p q = p ∙ sym q

pub pass-settles : SettlesLent 1 pass-kinds.ps pass-kinds.r (λ κs e. e.0.now) pass.Post
pass-settles κs a e f x y p q = (refl, p ∙ sym q)
