-- Every promise of this crate settles the whole answer, and what then stands in the table and in the output. What the clauses
-- of both functions say is written out as a claim, and that it is the clause of the source is checked.
-- Assumes nothing.
use mathlib.Core.Path.{◌≡◌, refl, sym, ap, ◌∙◌}
use Prim.Native.Nat.{ℕ}
use mathlib.Core.List.{List}
use seplogic.Ra.Ura.{Ura}
use base.Logic.{SProp}
use contract.Monad.{Fun}
use types.Logic.{Logic}
use prog.Memory.{Memory}
use prog.Routine.{Routine}
use Rattle.head_links.specs.declared.Link.{Link}
use Rattle.lent.specs.Claims.{Claim, Promises, ClaimSettles}
use Rattle.head_calls.specs.Fresh.{Freshly, freshly, fresh_of}
use Rattle.head_calls.specs.Serve.{Served, served, serve_of}
use Rattle.head_calls.specs.contracts.fresh as fresh
use Rattle.head_calls.specs.contracts.serve as serve

abbrev Serves : Claim serve.ended
Serves κs a r e = served r e.1.0.now e.1.1.1.0.now ≡ serve_of a.0 a.1.0.now a.1.1.0 a.1.1.1.0.now

abbrev Begins : Claim fresh.ended
Begins κs a r e = freshly r e.1.0.now ≡ fresh_of a.0 a.1.0.now

module _ {M : Type 1} {𝓤 : Ura M} (𝓛 : Logic 𝓤) (mem : Memory → SProp 𝓤) (run : Routine → Fun 𝓤) where
  pub serve-promises : Promises serve.ended 𝓤 (serve.clauses 𝓛 mem run) Serves
  serve-promises κs a g r e = refl

  pub fresh-promises : Promises fresh.ended 𝓤 (fresh.clauses 𝓛 mem run) Begins
  fresh-promises κs a g r e = refl

pub serve-settles : ClaimSettles serve.ended {B = List Link × List ℕ} (λ κs e. (e.1.0.now, e.1.1.1.0.now)) Serves
serve-settles κs a e f x y p q = (ap (λ (t : Served). t.answer) (p ∙ sym q), ap (λ (t : Served). (t.table, t.octets)) (p ∙ sym q))

pub fresh-settles : ClaimSettles fresh.ended (λ κs e. e.1.0.now) Begins
fresh-settles κs a e f x y p q = (ap (λ (t : Freshly). t.answer) (p ∙ sym q), ap (λ (t : Freshly). t.table) (p ∙ sym q))
