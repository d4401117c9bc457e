-- Every promise of this crate settles the whole answer.
-- Assumes nothing.
use mathlib.Core.Path.{sym, ◌∙◌}
use Rattle.laws.specs.Settles.{Settles}
use Rattle.head_plans.proofs.Notice.quiet.Kinds as quiet-kinds
use Rattle.head_plans.proofs.Notice.quiet.Reads as quiet
use Rattle.head_plans.proofs.Plan.refused.Kinds as refused-kinds
use Rattle.head_plans.proofs.Plan.refused.Reads as refused
use Rattle.head_plans.proofs.Plan.accepted.Kinds as accepted-kinds
use Rattle.head_plans.proofs.Plan.accepted.Reads as accepted
use Rattle.head_plans.proofs.Plan.leaping.Kinds as leaping-kinds
use Rattle.head_plans.proofs.Plan.leaping.Reads as leaping
use Rattle.head_plans.proofs.Plan.sending.Kinds as sending-kinds
use Rattle.head_plans.proofs.Plan.sending.Reads as sending
use Rattle.head_plans.proofs.Plan.telling.Kinds as telling-kinds
use Rattle.head_plans.proofs.Plan.telling.Reads as telling

pub quiet-settles : Settles 0 quiet-kinds.ps quiet-kinds.r quiet.Post
quiet-settles κs a e x y p q = p ∙ sym q

pub refused-settles : Settles 0 refused-kinds.ps refused-kinds.r refused.Post
refused-settles κs a e x y p q = p ∙ sym q

pub accepted-settles : Settles 0 accepted-kinds.ps accepted-kinds.r accepted.Post
accepted-settles κs a e x y p q = p ∙ sym q

pub leaping-settles : Settles 0 leaping-kinds.ps leaping-kinds.r leaping.Post
leaping-settles κs a e x y p q = p ∙ sym q

pub sending-settles : Settles 0 sending-kinds.ps sending-kinds.r sending.Post
sending-settles κs a e x y p q = p ∙ sym q

pub telling-settles : Settles 0 telling-kinds.ps telling-kinds.r telling.Post
telling-settles κs a e x y p q = p ∙ sym q
