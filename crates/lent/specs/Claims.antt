-- Statement: what the clauses of a function over lent slices of links claim. The toolchain that these were written for made no module `Reads` of
-- such a function, to state its promise of as `Settles` of laws does for the others; but it read the `clauses` off the source all the same. The
-- claim is written out, checked to be what they claim, and shown to settle the answer.
-- Assumes nothing.
use Rattle.std.specs.Prelude.{◌≡◌}
use seplogic.Ra.Ura.{Ura}
use contract.Lifetimes.{Lfts}
use contract.Monad.{fact}
use denote.Triple.Clauses.{Ended, AtExit, Clauses}
use denote.Triple.Entry.{Args, Res}

-- T is the function's `ended`
module _ (T : Ended) where
  -- a claim about the arguments, the result and the parameters at exit
  abbrev pub Claim : Type 1
  Claim = (κs : Lfts T.signature.lifetimes) → Args T.signature κs → Res T.signature κs → AtExit T κs → Type 0

  -- the `ensures` of the clauses is just this claim: a weaker one in the source breaks it
  abbrev pub Promises : {M : Type 1} (𝓤 : Ura M) → Clauses 𝓤 T → Claim → Type 2
  Promises 𝓤 c P =
      (κs : Lfts T.signature.lifetimes) (a : Args T.signature κs) (g : (c κs a).ghost) (r : Res T.signature κs) (e : AtExit T κs)
      → (c κs a).ensures g r e ≡ fact 𝓤 (P κs a r e)

  -- the claim settles the result and what then stands in what was lent, which `left` reads off the parameters at exit
  abbrev pub ClaimSettles : {B : Type 0} → ((κs : Lfts T.signature.lifetimes) → AtExit T κs → B) → Claim → Type 0
  ClaimSettles left P =
      (κs : Lfts T.signature.lifetimes) (a : Args T.signature κs) (e f : AtExit T κs) (x y : Res T.signature κs)
      → P κs a x e → P κs a y f → (x ≡ y) × (left κs e ≡ left κs f)
