-- Lemmas: every call keeps a box steady.
-- Assumes nothing.
use Rattle.box_calls.specs.declared.FloorBox.{FloorBox}
use Rattle.box_laws.specs.Awaited.{Calm, activate-calm}
use Rattle.box_laws.specs.Calls.{step, outcome}
use Rattle.box_laws.specs.Stated.{Call, answer}
use Rattle.box_laws.specs.Steady.{Steady, call-keeps, next-keeps, step-calm}

pub call-steady : (c : Call) (b : FloorBox) → Steady b.processes → Steady (answer c b).next.processes
call-steady c b s =
    record {
      sound = call-keeps c b s.sound;
      awaited = next-keeps Calm c b (answer c b) s.awaited (λ _. activate-calm (step c b).next (step-calm c b s.awaited)) (outcome c b);
    }
