-- Rule R100: the notices and frames of a reply, in order.
-- Assumes nothing.
use Rattle.std.specs.Prelude.{ℕ, Bool, true, false, cond, eqb, replicate}
use mathlib.Core.List.{List, foldl}
use Rattle.box_telling.specs.declared.Notice.{Notice}
use Rattle.box_telling.specs.declared.Notice.TheVariants.{Nothing, Window, Registered, Refused, Retry, Deregistered, Granted, Open, Close}
use Rattle.box_telling.specs.declared.Notices.{Notices}
use Rattle.box_telling.specs.declared.Frames.{Frames}

abbrev pub is_nothing : Notice → Bool
is_nothing Nothing = true
is_nothing Window = false
is_nothing Registered = false
is_nothing Refused = false
is_nothing Retry = false
is_nothing Deregistered = false
is_nothing (Granted grant) = false
is_nothing Open = false
is_nothing Close = false

abbrev pub no_notices : Notices
no_notices = record { first = Nothing; second = Nothing; third = Nothing; fourth = Nothing }

-- one notice more, in the first place that is free
unfoldable pub added : Notices → Notice → Notices
added n x =
    cond (is_nothing n.first) (record { first = x; second = n.second; third = n.third; fourth = n.fourth })
    (cond (is_nothing n.second) (record { first = n.first; second = x; third = n.third; fourth = n.fourth })
    (cond (is_nothing n.third) (record { first = n.first; second = n.second; third = x; fourth = n.fourth })
    (cond (is_nothing n.fourth) (record { first = n.first; second = n.second; third = n.third; fourth = x })
    n)))

-- these notices, in their order
abbrev pub notices_of : List Notice → Notices
notices_of l = foldl added no_notices l

abbrev pub no_frames : Frames
no_frames = record { number = 0; first = replicate 60 0; second = replicate 60 0 }

-- one frame more
unfoldable pub handed : Frames → List ℕ → Frames
handed f octets =
    cond (eqb f.number 0) (record { number = 1; first = octets; second = f.second })
    (cond (eqb f.number 1) (record { number = 2; first = f.first; second = octets })
    f)
