-- `frame_writer::write_gate` meets its promise.
-- Assumes nothing.
use Rattle.std.proofs.Common.{rules}
use Rattle.octets.specs.Octets.{onto}
use Rattle.frame_writer.proofs.write_gate.Goals as goal

pub returns-in-None : goal.returns-in-None
unfolding onto
returns-in-None c = search rules

pub returns-in-One : goal.returns-in-One
unfolding onto
returns-in-One c = search rules

pub returns-in-Two : goal.returns-in-Two
unfolding onto
returns-in-Two c = search rules

pub returns-in-Three : goal.returns-in-Three
unfolding onto
returns-in-Three c = search rules

pub returns-in-Four : goal.returns-in-Four
unfolding onto
returns-in-Four c = search rules
