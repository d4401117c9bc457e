-- Rules R69, R151, R152: what a call of the head is going to do.
-- Assumes nothing.
use Rattle.std.specs.Prelude.{None, Some, ℕ}
use Rattle.clock.specs.declared.Quanta.{Quanta}
use Rattle.frame.specs.declared.Address.{Address}
use Rattle.frame.specs.declared.Body.{Body}
use Rattle.frame.specs.declared.Reply.{Reply}
use Rattle.frame.specs.declared.Reply.TheVariants.{Done}
use Rattle.head_table.specs.declared.Event.{Event}
use Rattle.head_state.specs.declared.Head.{Head}
use Rattle.head_plans.specs.declared.Kind.{Kind}
use Rattle.head_plans.specs.declared.Notice.{Notice}
use Rattle.head_plans.specs.declared.Plan.{Plan}

abbrev pub quiet : Notice
quiet = record { kind = Kind.Nothing; link = 0; trip = record { 0 = 0 } }

abbrev pub refused : Head → Reply → Plan
refused h r = record { reply = r; head = h; event = Event.Nothing; lead = None; notice = quiet; made = 0 }

-- R152
abbrev pub accepted : Head → Event → Plan
accepted h e = record { reply = Done; head = h; event = e; lead = None; notice = quiet; made = 0 }

-- so many ticks in one call
abbrev pub leaping : Head → Event → ℕ → Plan
leaping h e made = record { reply = Done; head = h; event = e; lead = None; notice = quiet; made = made }

-- the head's own frame
abbrev pub sending : Head → Address → Body → Plan
sending h a body = record { reply = Done; head = h; event = Event.Nothing; lead = Some (a, body); notice = quiet; made = 0 }

-- R151
abbrev pub telling : Head → Event → Kind → ℕ → Quanta → Plan
telling h e kind link trip =
    record { reply = Done; head = h; event = e; lead = None; notice = record { kind = kind; link = link; trip = trip }; made = 0 }
