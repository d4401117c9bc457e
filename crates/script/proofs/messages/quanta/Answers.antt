-- `script::messages::quanta` meets its promise: the number is `modulo_32`'s.
-- Assumes nothing.
use mathlib.Core.Path.{refl}
use Rattle.script.proofs.messages.quanta.Goals as goal

pub returns : goal.returns
returns c = rw c.modulo_32.ensures refl
