-- Rules R121 to R124: a normal GATE.
-- Assumes nothing.
use Rattle.std.specs.Prelude.{None, ℕ, true, cond, ◌&&◌, ltb}
use mathlib.Core.List.{List, foldl}
use Rattle.clock.specs.Numbers.{start_in_range}
use Rattle.clock.specs.declared.Span.{Span}
use Rattle.frame.specs.declared.Grant.{Grant}
use Rattle.box_grants.specs.Activation.{room}
use Rattle.box_grants.specs.Listed.{pushed}
use Rattle.box_registration.specs.Registration.{is_registered, heard}
use Rattle.box_telling.specs.Told.{no_notices, added}
use Rattle.box_telling.specs.declared.Notice.{Notice}
use Rattle.box_processes.specs.Parts.{with_registration, with_list, still}
use Rattle.box_processes.specs.declared.Processes.{Processes}
use Rattle.box_processes.specs.declared.Step.{Step}
use Rattle.box_hearing.specs.declared.Taking.{Taking}

-- R124
abbrev pub entry_of : Grant → Span
entry_of g = record { start = g.start; length = g.length }

-- R123
unfoldable pub taken : ℕ → Taking → Grant → Taking
taken now t g =
    cond (start_in_range now g.start.0 && ltb t.list.number room)
    (record { list = pushed t.list (entry_of g); notices = added t.notices (Notice.Granted g) })
    t

abbrev pub taken_all : Processes → List Grant → Taking
taken_all p grants = foldl (taken p.count.0) (record { list = p.list; notices = no_notices }) grants

-- R121, R122
unfoldable pub gated : Processes → List Grant → Step
gated p grants =
    let t = taken_all p grants in
    cond (is_registered p.registration.state)
    (record {
      ok = true;
      next = with_list (with_registration p (heard p.registration)) t.list;
      notices = t.notices;
      first = None;
      second = None;
    })
    (still p)
