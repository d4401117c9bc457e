-- Every promise of this crate settles the whole answer; the clause of `survey` is written out as a claim and checked to be the source's.
-- Assumes nothing.
use mathlib.Core.Path.{◌≡◌, refl, sym, ◌∙◌}
use seplogic.Ra.Ura.{Ura}
use base.Logic.{SProp}
use contract.Monad.{Fun}
use types.Logic.{Logic}
use prog.Memory.{Memory}
use prog.Routine.{Routine}
use Rattle.laws.specs.Settles.{Settles}
use Rattle.lent.specs.Claims.{Claim, Promises, ClaimSettles}
use Rattle.head_survey.specs.Facts.{facts_of}
use Rattle.head_survey.proofs.is_few.Kinds as is-few-kinds
use Rattle.head_survey.proofs.is_few.Reads as is-few
use Rattle.head_survey.specs.contracts.survey as survey

pub is-few-settles : Settles 0 is-few-kinds.ps is-few-kinds.r is-few.Post
is-few-settles κs a e x y p q = p ∙ sym q

abbrev Finds : Claim survey.ended
Finds κs a r e = r ≡ facts_of a.0.now a.1.0

pub survey-promises : {M : Type 1} {𝓤 : Ura M} (𝓛 : Logic 𝓤) (mem : Memory → SProp 𝓤) (run : Routine → Fun 𝓤)
    → Promises survey.ended 𝓤 (survey.clauses 𝓛 mem run) Finds
survey-promises 𝓛 mem run κs a g r e = refl

pub survey-settles : ClaimSettles survey.ended {B = Unit {0}} (λ κs e. tt) Finds
survey-settles κs a e f x y p q = (p ∙ sym q, refl)
