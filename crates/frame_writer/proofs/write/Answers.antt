-- `frame_writer::write` meets its promise.
-- Assumes nothing.
use Rattle.std.proofs.Common.{rules}
use Rattle.frame.specs.Layout.{encode}
use Rattle.frame_writer.specs.Write.{write_of}
use Rattle.frame_writer.proofs.write.Goals as goal

pub returns-then-not-message : goal.returns-then-not-message
unfolding write_of encode
returns-then-not-message c = search rules

pub returns : goal.returns
unfolding write_of encode
returns c = search rules
