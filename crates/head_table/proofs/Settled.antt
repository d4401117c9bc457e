-- Every promise of this crate settles the whole answer, and what then stands in the table and in the output. The clauses of `drive` and
-- `offer` are written out as claims and checked to be the source's.
-- Assumes nothing.
use Prim.Native.Nat.{ℕ}
use mathlib.Core.Path.{◌≡◌, refl, sym, ap, ◌∙◌}
use mathlib.Core.List.{List}
use seplogic.Ra.Ura.{Ura}
use base.Logic.{SProp}
use contract.Monad.{Fun}
use lib.ListN.{length}
use types.Logic.{Logic}
use prog.Memory.{Memory}
use prog.Routine.{Routine}
use Rattle.laws.specs.Settles.{SettlesLent}
use Rattle.lent.specs.Claims.{Claim, Promises, ClaimSettles}
use Rattle.lent.specs.Folds.{each}
use Rattle.head_links.specs.declared.Link.{Link}
use Rattle.head_table.specs.Events.{driven_of, turns_of}
use Rattle.head_table.specs.Output.{Output, output, note_link}
use Rattle.head_table.specs.contracts.drive as drive
use Rattle.head_table.proofs.note.Kinds as note-kinds
use Rattle.head_table.proofs.note.Reads as note
use Rattle.head_table.specs.contracts.offer as offer

pub note-settles : SettlesLent 1 note-kinds.ps note-kinds.r (λ κs e. e.0.now) note.Post
note-settles κs a e f x y p q = (p.0 ∙ sym q.0, p.1 ∙ sym q.1)

abbrev Drives : Claim drive.ended
Drives κs a r e =
    (e.0.now ≡ driven_of a.1.0 a.0.now)
    × (output e.1.1.1.0.now r ≡ each (note_link a.1.0 a.1.1.0) 1 a.0.now (output a.1.1.1.0.now a.1.1.1.1.0))

abbrev Offers : Claim offer.ended
Offers κs a r e = (e.0.now ≡ driven_of a.1.0 a.0.now) × (r ≡ turns_of a.1.0 (length a.0.now))

module _ {M : Type 1} {𝓤 : Ura M} (𝓛 : Logic 𝓤) (mem : Memory → SProp 𝓤) (run : Routine → Fun 𝓤) where
  pub drive-promises : Promises drive.ended 𝓤 (drive.clauses 𝓛 mem run) Drives
  drive-promises κs a g r e = refl

  pub offer-promises : Promises offer.ended 𝓤 (offer.clauses 𝓛 mem run) Offers
  offer-promises κs a g r e = refl

pub drive-settles : ClaimSettles drive.ended {B = List Link × List ℕ} (λ κs e. (e.0.now, e.1.1.1.0.now)) Drives
drive-settles κs a e f x y p q = (
  ap (λ (t : Output). t.frames) (p.1 ∙ sym q.1),
  ap (λ (zs : List Link). (zs, e.1.1.1.0.now)) (p.0 ∙ sym q.0)
      ∙ ap (λ (t : Output). (f.0.now, t.octets)) (p.1 ∙ sym q.1),
)

pub offer-settles : ClaimSettles offer.ended (λ κs e. e.0.now) Offers
offer-settles κs a e f x y p q = (p.1 ∙ sym q.1, p.0 ∙ sym q.0)
