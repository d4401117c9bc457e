-- Face: what a gate request asks for, told in words of 64 bits, one a grant.
-- Assumes nothing.
use Rattle.std.specs.Prelude.{ℕ, List, length, get_or}
use Rattle.clock.specs.declared.Span.{Span}
use Rattle.head_gating.specs.declared.Asked.{Asked}
use Rattle.face_fields.specs.Fields.{span_of}

-- the first four; a grant that isn't there is one of start 0, length 0
unfoldable pub asked_of : List ℕ → ℕ → Asked
asked_of grants force =
    let at : ℕ → Span = λ i. span_of (get_or grants i 0) in
    record { number = length grants; first = at 0; second = at 1; third = at 2; fourth = at 3; force = force }
