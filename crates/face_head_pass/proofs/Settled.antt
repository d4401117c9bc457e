-- Every promise of this crate settles the whole answer, and what then stands in the caller's memory.
-- Assumes nothing.
use mathlib.Core.Path.{refl, sym, ◌∙◌}
use Rattle.laws.specs.Settles.{Settles, SettlesLent}
use Rattle.face_head_pass.proofs.is_quiet.Kinds as is-quiet-kinds
use Rattle.face_head_pass.proofs.is_quiet.Reads as is-quiet
use Rattle.face_head_pass.proofs.load_head.Kinds as load-head-kinds
use Rattle.face_head_pass.proofs.load_head.Reads as load-head
use Rattle.face_head_pass.proofs.pass_head.Kinds as pass-head-kinds
use Rattle.face_head_pass.proofs.pass_head.Reads as pass-head
use Rattle.face_head_pass.proofs.pass_links.Kinds as pass-links-kinds
use Rattle.face_head_pass.proofs.pass_links.Reads as pass-links
use Rattle.face_head_pass.proofs.quiet.Kinds as quiet-kinds
use Rattle.face_head_pass.proofs.quiet.Reads as quiet

pub quiet-settles : Settles 2 quiet-kinds.ps quiet-kinds.r quiet.Post
quiet-settles κs a e x y p q = p ∙ sym q

pub is-quiet-settles : Settles 2 is-quiet-kinds.ps is-quiet-kinds.r is-quiet.Post
is-quiet-settles κs a e x y p q = p ∙ sym q

pub load-head-settles : Settles 1 load-head-kinds.ps load-head-kinds.r load-head.Post
load-head-settles κs a e x y p q = p ∙ sym q

pub pass-head-settles : SettlesLent 1 pass-head-kinds.ps pass-head-kinds.r (λ κs e. e.0.now) pass-head.Post
pass-head-settles κs a e f x y p q = (refl, p ∙ sym q)

pub pass-links-settles : SettlesLent 1 pass-links-kinds.ps pass-links-kinds.r (λ κs e. e.0.now) pass-links.Post
pass-links-settles κs a e f x y p q = (refl, p ∙ sym q)
