-- `face_box::entries_in` meets its promise.
-- Assumes nothing.
use Rattle.std.proofs.Common.{◌∙◌, arith, drop, length-drop}
use Rattle.std.proofs.lemmas.List.{take_all}
use Rattle.face_box.proofs.entries_in.Goals as goal

pub returns : goal.returns
returns c = c.copy_from_slice.ensures.after ∙ take_all 16 (drop 13 c.args.w) (simp length-drop (omega arith))
