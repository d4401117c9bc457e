-- Every promise of this crate settles the whole answer, and what `load_links`, `store_links` and `tell` leave in what is lent; the clauses of the
-- first two are written out as claims and checked to be the source's.
-- Assumes nothing.
use mathlib.Core.Path.{◌≡◌, refl, sym, ◌∙◌}
use seplogic.Ra.Ura.{Ura}
use base.Logic.{SProp}
use contract.Monad.{Fun}
use types.Logic.{Logic}
use prog.Memory.{Memory}
use prog.Routine.{Routine}
use Rattle.laws.specs.Settles.{Settles, SettlesLent}
use Rattle.lent.specs.Claims.{Claim, Promises, ClaimSettles}
use Rattle.face_head.specs.Table.{loaded, stored}
use Rattle.face_head.proofs.LinkWords.of.Kinds as words-of-kinds
use Rattle.face_head.proofs.LinkWords.of.Reads as words-of
use Rattle.face_head.proofs.head_in.Kinds as head-in-kinds
use Rattle.face_head.proofs.head_in.Reads as head_in
use Rattle.face_head.proofs.links_in.Kinds as links-in-kinds
use Rattle.face_head.proofs.links_in.Reads as links-in
use Rattle.face_head.specs.contracts.load_links as load-links
use Rattle.face_head.proofs.pack_head.Kinds as pack-head-kinds
use Rattle.face_head.proofs.pack_head.Reads as pack-head
use Rattle.face_head.specs.contracts.store_links as store-links
use Rattle.face_head.proofs.tell.Kinds as tell-kinds
use Rattle.face_head.proofs.tell.Reads as tell

pub words-of-settles : Settles 1 words-of-kinds.ps words-of-kinds.r words-of.Post
words-of-settles κs a e x y p q = p ∙ sym q

pub pack-head-settles : Settles 0 pack-head-kinds.ps pack-head-kinds.r pack-head.Post
pack-head-settles κs a e x y p q = p ∙ sym q

pub head-in-settles : Settles 0 head-in-kinds.ps head-in-kinds.r head_in.Post
head-in-settles κs a e x y p q = p ∙ sym q

pub links-in-settles : Settles 0 links-in-kinds.ps links-in-kinds.r links-in.Post
links-in-settles κs a e x y p q = p ∙ sym q

abbrev Loads : Claim load-links.ended
Loads κs a r e = e.1.0.now ≡ loaded a.0.now a.1.0.now

pub load-links-promises : {M : Type 1} {𝓤 : Ura M} (𝓛 : Logic 𝓤) (mem : Memory → SProp 𝓤) (run : Routine → Fun 𝓤)
    → Promises load-links.ended 𝓤 (load-links.clauses 𝓛 mem run) Loads
load-links-promises 𝓛 mem run κs a g r e = refl

pub load-links-settles : ClaimSettles load-links.ended (λ κs e. e.1.0.now) Loads
load-links-settles κs a e f x y p q = (refl, p ∙ sym q)

abbrev Stores : Claim store-links.ended
Stores κs a r e = e.1.1.0.now ≡ stored a.0.now a.1.0 a.1.1.0.now

pub store-links-promises : {M : Type 1} {𝓤 : Ura M} (𝓛 : Logic 𝓤) (mem : Memory → SProp 𝓤) (run : Routine → Fun 𝓤)
    → Promises store-links.ended 𝓤 (store-links.clauses 𝓛 mem run) Stores
store-links-promises 𝓛 mem run κs a g r e = refl

pub store-links-settles : ClaimSettles store-links.ended (λ κs e. e.1.1.0.now) Stores
store-links-settles κs a e f x y p q = (refl, p ∙ sym q)

pub tell-settles : SettlesLent 1 tell-kinds.ps tell-kinds.r (λ κs e. e.1.0.now) tell.Post
tell-settles κs a e f x y p q = (refl, p ∙ sym q)
