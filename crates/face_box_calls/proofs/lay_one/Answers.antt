-- `face_box_calls::lay_one` meets its promise.
-- Assumes nothing.
use Rattle.std.proofs.Common.{◌≡◌, ℕ, List, ◌++◌, length, ap, arith}
use lib.ListN.{drop, length-take}
use Rattle.face_box_calls.proofs.lay_one.Goals as goal

pub copy_from_slice-requires : goal.copy_from_slice-requires
copy_from_slice-requires c =
    let full : length c.args.first ≡ 60 = omega arith in
    rw full (simp length-take (omega arith))

pub returns : goal.returns
returns c = ap (λ (x : List ℕ). x ++ drop 60 c.args.frames.now) c.copy_from_slice.ensures.after
