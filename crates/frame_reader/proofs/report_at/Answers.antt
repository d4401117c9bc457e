-- `frame_reader::report_at` meets its promise.
-- Assumes nothing.
use Rattle.std.proofs.Common.{ℕ, List, ◌≡◌, ◌<◌, ◌≤◌, arith, take, drop, length, length-drop, take_all, le-leb}
use Rattle.std.proofs.lemmas.Bool.{lt-leb}
use Rattle.octets.specs.Laws.{octets-drop}
use Rattle.frame_queues.specs.Laws.{forty-sets}
use Rattle.frame_queues.specs.Queues.{used_of, forty_of, sets_of}
use Rattle.frame_reader.specs.Decode.{report_at}
use Rattle.frame_reader.proofs.report_at.Goals as goal

-- the body is the last forty of the sixty octets
behind : (l : List ℕ) → length l ≡ 60 → take 40 (drop 20 l) ≡ drop 20 l
behind l h = take_all 40 (drop 20 l) (simp length-drop (omega arith))

pub returns-then-used-body : goal.returns-then-used-body
returns-then-used-body c =
    let l = c.args.s.now in
    let used : c.used-used.result ≡ used_of (drop 20 l) = rw (behind l (omega arith)) at c.used-used.ensures in
    let past : 40 < used_of (drop 20 l) = omega arith in
    rw (lt-leb (used_of (drop 20 l)) 40 past)

pub returns : goal.returns
unfolding report_at
returns c =
    let l = c.args.s.now in
    let whole = behind l (omega arith) in
    let used : c.used-used.result ≡ used_of (drop 20 l) = rw whole at c.used-used.ensures in
    let room : used_of (drop 20 l) ≤ 40 = omega arith in
    let back : forty_of (sets_of (drop 20 l)) ≡ drop 20 l = forty-sets (drop 20 l) (octets-drop 20 l c.fits-s) (simp length-drop (omega arith)) in
    rw (le-leb (used_of (drop 20 l)) 40 room, c.cut.ensures, used, c.of.ensures, whole, back)
