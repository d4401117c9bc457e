-- `face_head_pass::all_differ` meets its promise.
-- Assumes nothing.
use Rattle.std.proofs.Common.{length, sym, arith}
use Rattle.face_head_pass.proofs.Turns.{differ-one}
use Rattle.face_head_pass.proofs.all_differ.Goals as goal

pub returns-in-0 : goal.returns-in-0
returns-in-0 c = sym (differ-one c.args.links.now (length c.args.links.now) (omega arith))
