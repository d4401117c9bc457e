-- `face_box_calls::lay_both` meets its promise.
-- Assumes nothing.
use Rattle.std.proofs.Common.{◌≡◌, ℕ, ◌+◌, List, ◌++◌, length, sym, ap, ◌∙◌, append_assoc, arith}
use lib.ListN.{drop, length-take}
use lib.Seq.{take_at, drop_at, drop-drop}
use borrow.Rule.Slice.PartMut.{put_mid}
use Rattle.face_box_calls.proofs.lay_both.Goals as goal

-- behind a, which stands for the first n of f, b stands for the next n
two : (n : ℕ) (a b f : List ℕ) → length a ≡ n → put_mid n n (a ++ drop n f) b ≡ (a ++ b) ++ drop (n + n) f
two n a b f ha =
    rw (take_at a (drop n f) n ha, drop_at a (drop n f) n ha, drop-drop n n f) (sym (append_assoc a b (drop (n + n) f)))

pub slice_bounds-copy_from_slice-end-2 : goal.slice_bounds-copy_from_slice-end-2
slice_bounds-copy_from_slice-end-2 c = simp length-take (omega arith)

pub copy_from_slice-requires : goal.copy_from_slice-requires
copy_from_slice-requires c =
    let full : length c.args.first ≡ 60 = omega arith in
    rw full (simp length-take (omega arith))

pub returns : goal.returns
returns c =
    let full : length c.args.first ≡ 60 = omega arith in
    ap (λ (x : List ℕ). put_mid 60 60 (x ++ drop 60 c.args.frames.now) c.copy_from_slice-2.new.self) c.copy_from_slice.ensures.after
    ∙ ap (λ (y : List ℕ). put_mid 60 60 (c.args.first ++ drop 60 c.args.frames.now) y) c.copy_from_slice-2.ensures.after
    ∙ two 60 c.args.first c.args.second c.args.frames.now full
