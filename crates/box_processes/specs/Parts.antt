-- Rules R90, R95: the processes of a fresh box, entering WAIT, and each part set by itself.
-- Assumes nothing.
use Rattle.std.specs.Prelude.{None, true, []}
use Rattle.clock.specs.declared.Count.{Count}
use Rattle.box_grants.specs.Listed.{packed}
use Rattle.box_grants.specs.declared.GrantList.{GrantList}
use Rattle.box_light.specs.Light.{resting}
use Rattle.box_light.specs.declared.Light.{Light}
use Rattle.box_registration.specs.Registration.{fresh as unregistered, waiting as unregister}
use Rattle.box_registration.specs.declared.Registration.{Registration}
use Rattle.box_telling.specs.Told.{notices_of}
use Rattle.box_processes.specs.declared.Processes.{Processes}
use Rattle.box_processes.specs.declared.Step.{Step}

-- R90
abbrev pub fresh : Processes
fresh = record { count = record { 0 = 0 }; registration = unregistered; list = packed []; light = resting }

abbrev pub with_count : Processes → Count → Processes
with_count b c = record { count = c; registration = b.registration; list = b.list; light = b.light }

abbrev pub with_registration : Processes → Registration → Processes
with_registration b r = record { count = b.count; registration = r; list = b.list; light = b.light }

abbrev pub with_list : Processes → GrantList → Processes
with_list b l = record { count = b.count; registration = b.registration; list = l; light = b.light }

abbrev pub with_light : Processes → Light → Processes
with_light b l = record { count = b.count; registration = b.registration; list = b.list; light = l }

-- R95
abbrev pub waiting : Processes → Processes
waiting b = record { count = b.count; registration = unregister b.registration; list = packed []; light = resting }

-- without notice or frame
abbrev pub still : Processes → Step
still p = record { ok = true; next = p; notices = notices_of []; first = None; second = None }
