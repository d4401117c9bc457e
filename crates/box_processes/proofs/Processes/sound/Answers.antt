-- `box_processes::Processes::sound` meets its promise.
-- Assumes nothing.
use Rattle.box_processes.specs.Sound.{sound_of}
use Rattle.box_processes.proofs.Processes.sound.Goals as goal

pub returns : goal.returns
unfolding sound_of
returns c =
    rw (
      c.rests.ensures,
      c.sound-3.ensures,
      c.is_registered.ensures,
      c.sound-2.ensures,
      c.sound.ensures,
    )
