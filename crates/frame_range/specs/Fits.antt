-- Rules R45 to R48, R73, R237, R241: whether a message is in range, as a test; which addresses are individual.
-- Assumes nothing.
use Rattle.std.specs.Prelude.{Bool, true, ◌&&◌, List, [], ◌∷◌, leb}
use Rattle.clock.specs.Numbers.{fits}
use Rattle.frame_queues.specs.Queues.{fits_sets}
use Rattle.frame.specs.Layout.{listed}
use Rattle.frame.specs.Range.{individual_in}
use Rattle.frame.specs.declared.Address.{Address}
use Rattle.frame.specs.declared.Grant.{Grant}
use Rattle.frame.specs.declared.Body.{Body}
use Rattle.frame.specs.declared.Body.TheVariants.{Gate, Discovery, Report, RegisterReq, Register, RegisterAck}
use Rattle.frame.specs.declared.Message.{Message}

abbrev pub fits_address : Address → Bool
fits_address a = leb a.0 0xFFFFFFFFFFFF

-- individual and not zero
abbrev pub is_individual : Address → Bool
is_individual a = individual_in a.0

abbrev pub fits_grant : Grant → Bool
fits_grant g = fits g.length

abbrev pub fits_all : Bool → List Grant → Bool
fits_all t [] = t
fits_all t (g ∷ gs) = fits_all (t && fits_grant g) gs

abbrev pub fits_body : Body → Bool
fits_body (Gate grants) = fits_all true (listed grants)
fits_body (Discovery grant sync) = fits_grant grant && fits sync
fits_body (Report sets) = fits_sets sets
fits_body (RegisterReq flag pending) = true
fits_body (Register port flag sync pending) = fits sync
fits_body (RegisterAck flag port sync) = fits sync

unfoldable pub fits_message : Message → Bool
fits_message m = fits_address m.destination && is_individual m.source && fits_body m.body
