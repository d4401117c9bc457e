-- Rule R94: LOCAL DEREGISTER: how a box leaves by itself, at its client's word (R93) or at the watchdog's end (R137).
-- Assumes nothing.
use Rattle.std.specs.Prelude.{Option, None, Some, true, [], ◌∷◌}
use Rattle.frame.specs.declared.Body.{Body}
use Rattle.frame.specs.declared.Body.TheVariants.{RegisterReq}
use Rattle.frame.specs.declared.RegisterReqFlag.{RegisterReqFlag}
use Rattle.box_telling.specs.Told.{notices_of}
use Rattle.box_telling.specs.declared.Notice.{Notice}
use Rattle.box_processes.specs.Parts.{waiting}
use Rattle.box_processes.specs.declared.Processes.{Processes}
use Rattle.box_processes.specs.declared.Step.{Step}

-- what it hands out
abbrev pub farewell : Option Body
farewell = Some (RegisterReq RegisterReqFlag.Deregister 0)

abbrev pub local_deregister : Processes → Step
local_deregister p =
    record { ok = true; next = waiting p; notices = notices_of (Notice.Deregistered ∷ []); first = farewell; second = None }
