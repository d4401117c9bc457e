-- Code: a turn of the loops over the list: what is kept of past grants, and what is taken out.
-- Assumes nothing.
use Rattle.std.specs.Prelude.{ℕ, true, false, cond}
use Rattle.clock.specs.Counts.{is_past}
use Rattle.clock.specs.Spans.{same}
use Rattle.clock.specs.declared.Span.{Span}
use Rattle.box_grants.specs.Listed.{pushed}
use Rattle.box_grants.specs.declared.GrantList.{GrantList}
use Rattle.box_grants.specs.declared.Sieve.{Sieve}

unfoldable pub kept : ℕ → GrantList → Span → GrantList
kept now s e = cond (is_past now e.start.0) s (pushed s e)

unfoldable pub sifted : Span → Sieve → Span → Sieve
sifted out s e =
    cond s.met (record { list = pushed s.list e; met = true })
    (cond (same out e) (record { list = s.list; met = true }) (record { list = pushed s.list e; met = false }))
