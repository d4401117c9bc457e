-- Every promise of this crate settles the whole answer.
-- Assumes nothing.
use mathlib.Core.Path.{sym, ◌∙◌}
use Rattle.laws.specs.Settles.{Settles}
use Rattle.head_requests.proofs.«open».Kinds as opening-kinds
use Rattle.head_requests.proofs.«open».Reads as opening
use Rattle.head_requests.proofs.admit.Kinds as admit-kinds
use Rattle.head_requests.proofs.admit.Reads as admit
use Rattle.head_requests.proofs.reject.Kinds as reject-kinds
use Rattle.head_requests.proofs.reject.Reads as reject
use Rattle.head_requests.proofs.reregister.Kinds as reregister-kinds
use Rattle.head_requests.proofs.reregister.Reads as reregister
use Rattle.head_requests.proofs.deregister.Kinds as deregister-kinds
use Rattle.head_requests.proofs.deregister.Reads as deregister
use Rattle.head_requests.proofs.gate.Kinds as gate-kinds
use Rattle.head_requests.proofs.gate.Reads as gate

pub opening-settles : Settles 0 opening-kinds.ps opening-kinds.r opening.Post
opening-settles κs a e x y p q = p ∙ sym q

pub admit-settles : Settles 0 admit-kinds.ps admit-kinds.r admit.Post
admit-settles κs a e x y p q = p ∙ sym q

pub reject-settles : Settles 0 reject-kinds.ps reject-kinds.r reject.Post
reject-settles κs a e x y p q = p ∙ sym q

pub reregister-settles : Settles 0 reregister-kinds.ps reregister-kinds.r reregister.Post
reregister-settles κs a e x y p q = p ∙ sym q

pub deregister-settles : Settles 0 deregister-kinds.ps deregister-kinds.r deregister.Post
deregister-settles κs a e x y p q = p ∙ sym q

pub gate-settles : Settles 0 gate-kinds.ps gate-kinds.r gate.Post
gate-settles κs a e x y p q = p ∙ sym q
