-- Rules R85, R124, R127: a span: a start and a length, which is what is kept of a grant.
-- Assumes nothing.
use Rattle.std.specs.Prelude.{ℕ, Bool, cond, ◌&&◌, ◌==◌}
use Rattle.clock.specs.Counts.{nearer}
use Rattle.clock.specs.declared.Span.{Span}

abbrev pub none : Span
none = record { start = record { 0 = 0 }; length = record { 0 = 0 } }

-- R85
abbrev pub same : Span → Span → Bool
same a b = a.start.0 == b.start.0 && a.length.0 == b.length.0

-- R127: of two that are as near, the first
abbrev pub nearer_of : ℕ → Span → Span → Span
nearer_of now a b = cond (nearer now b.start.0 a.start.0) b a
