-- Rules R242, R243: a REPORT that the box's client asks for.
-- Assumes nothing.
use Rattle.std.specs.Prelude.{None, Some, true, []}
use Rattle.frame_queues.specs.declared.Sets.{Sets}
use Rattle.frame.specs.declared.Body.TheVariants.{Report}
use Rattle.box_registration.specs.Registration.{reported}
use Rattle.box_telling.specs.Told.{notices_of}
use Rattle.box_processes.specs.Parts.{with_registration}
use Rattle.box_processes.specs.declared.Processes.{Processes}
use Rattle.box_processes.specs.declared.Step.{Step}

abbrev pub reporting : Processes → Sets → Step
reporting p sets =
    record {
      ok = true;
      next = with_registration p (reported p.registration);
      notices = notices_of [];
      first = Some (Report sets);
      second = None;
    }
