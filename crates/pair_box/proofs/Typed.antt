-- A message that has a frame is one that the types of the code's numbers can hold.
-- Assumes nothing.
use mathlib.Core.List.{List, [], ◌∷◌}
use Rattle.frame.specs.Layout.{listed}
use Rattle.frame.specs.Range.{GrantsFit, BodyFits, Valid, GrantsTyped, BodyTyped, Typed}
use Rattle.frame.specs.declared.Body.{Body}
use Rattle.frame.specs.declared.Body.TheVariants.{Gate, Discovery, Report, RegisterReq, Register, RegisterAck}
use Rattle.frame.specs.declared.Grant.{Grant}
use Rattle.frame.specs.declared.Message.{Message}

grants-typed : (gs : List Grant) → GrantsFit gs → GrantsTyped gs
grants-typed [] h = tt
grants-typed (g ∷ gs) h = (h.0.0, grants-typed gs h.1)

body_typed : (b : Body) → BodyFits b → BodyTyped b
body_typed (Gate grants) h = grants-typed (listed grants) h
body_typed (Discovery grant sync) h = h.0.0
body_typed (Report sets) h = h.typed
body_typed (RegisterReq flag pending) h = h
body_typed (Register port flag sync pending) h = (h.0, h.2)
body_typed (RegisterAck flag port sync) h = h.0

pub typed-of : (m : Message) → Valid m → Typed m
typed-of m v = (v.timestamp, body_typed m.body v.body)
