-- Rules R68, R70, R176 to R187: what a message is answered with, and what it does.
-- Assumes nothing.
use Rattle.std.specs.Prelude.{ℕ, Bool, true, false, cond, ◌&&◌, ◌||◌, [], ◌∷◌, eqb}
use Rattle.clock.specs.Counts.{round_trip}
use Rattle.clock.specs.declared.Quanta.{Quanta}
use Rattle.frame.specs.Card.{◌unless◌, given}
use Rattle.frame.specs.Ways.{goes_to_head}
use Rattle.frame.specs.declared.Address.{Address}
use Rattle.frame.specs.declared.Body.{Body}
use Rattle.frame.specs.declared.Body.TheVariants.{Gate, Discovery, Report, RegisterReq, Register, RegisterAck}
use Rattle.frame.specs.declared.Message.{Message}
use Rattle.frame.specs.declared.RegisterAckFlag.{RegisterAckFlag}
use Rattle.frame.specs.declared.RegisterReqFlag.{RegisterReqFlag}
use Rattle.frame.specs.declared.Reply.{Reply}
use Rattle.frame.specs.declared.Reply.TheVariants.{Range, Direction, State, Party}
use Rattle.frame_range.specs.Fits.{fits_message}
use Rattle.head_state.specs.Window.{is_inside}
use Rattle.head_state.specs.declared.Head.{Head}
use Rattle.head_links.specs.Link.{is_held, is_registered}
use Rattle.head_links.specs.declared.Change.{Change}
use Rattle.head_links.specs.declared.Link.{Link}
use Rattle.head_table.specs.declared.Event.{Event}
use Rattle.head_plans.specs.Plan.{refused, accepted, telling}
use Rattle.head_plans.specs.declared.Kind.{Kind}
use Rattle.head_plans.specs.declared.Plan.{Plan}

abbrev pub asks_to_register : RegisterReqFlag → Bool
asks_to_register RegisterReqFlag.Register = true
asks_to_register RegisterReqFlag.Deregister = false

-- R177: REGISTER_REQ flag 1
abbrev pub is_newcomer : Body → Bool
is_newcomer (Gate grants) = false
is_newcomer (Discovery grant sync) = false
is_newcomer (Register port flag sync pending) = false
is_newcomer (Report sets) = false
is_newcomer (RegisterReq flag pending) = asks_to_register flag
is_newcomer (RegisterAck flag port sync) = false

-- R177, R178
unfoldable pub on_link : Body → Link → ℕ → Bool
on_link body l link = cond (is_newcomer body) (eqb link 0) (is_held l.state)

-- R177
unfoldable pub in_state : Head → Body → Bool
in_state h body = cond (is_newcomer body) (is_inside h.window) true

-- R179: the destination
unfoldable pub is_for : Head → Address → Bool
is_for h destination = eqb destination.0 h.address.0 || eqb destination.0 0x0180C2000001

-- R179: the source
unfoldable pub by_party : Head → Link → Message → Bool
by_party h l m = is_for h m.destination && (is_newcomer m.body || eqb m.source.0 l.address.0)

-- R70
abbrev pub no_step : Head → Plan
no_step h = accepted h Event.Nothing

-- R187: what only a registered link heeds, and the notice of it
unfoldable pub on_registered : Change → Kind → Head → Link → ℕ → Quanta → Plan
on_registered change kind h l link trip =
    cond (is_registered l.state) (telling h (Event.At link change) kind link trip) (no_step h)

-- R181 to R183
abbrev pub confirmed_by : RegisterAckFlag → Head → ℕ → Quanta → Plan
confirmed_by RegisterAckFlag.Ack h link trip = telling h (Event.At link Change.Register) Kind.Registered link trip
confirmed_by RegisterAckFlag.Nack h link trip = telling h (Event.At link Change.Deregister) Kind.Dropped link trip

unfoldable pub confirmed : RegisterAckFlag → Head → Link → ℕ → Quanta → Plan
confirmed flag h l link trip = cond (is_registered l.state) (no_step h) (confirmed_by flag h link trip)

-- R151, R177, R184
abbrev pub requested : RegisterReqFlag → Head → Link → ℕ → Quanta → Plan
requested RegisterReqFlag.Register h l link trip = telling h Event.Nothing Kind.Request 0 trip
requested RegisterReqFlag.Deregister h l link trip = on_registered Change.Deregister Kind.Dropped h l link trip

abbrev pub heard_of : Body → Head → Link → ℕ → Quanta → Plan
-- R151, R185
heard_of (Report sets) h l link trip = on_registered Change.Report (Kind.Report sets) h l link trip
heard_of (RegisterReq flag pending) h l link trip = requested flag h l link trip
heard_of (RegisterAck flag port sync) h l link trip = confirmed flag h l link trip
-- R176: never accepted
heard_of (Gate grants) h l link trip = no_step h
heard_of (Discovery grant sync) h l link trip = no_step h
heard_of (Register port flag sync pending) h l link trip = no_step h

unfoldable pub hear_of : Head → Link → ℕ → Message → Plan
hear_of h l link m =
    given
    (Direction unless goes_to_head m.body
    ∷ Reply.Link unless on_link m.body l link
    ∷ State unless in_state h m.body
    ∷ Party unless by_party h l m
    ∷ Range unless fits_message m
    ∷ [])
    (refused h) (heard_of m.body h l link (record { 0 = round_trip h.count.0 m.timestamp.0 }))
