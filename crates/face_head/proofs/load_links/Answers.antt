-- `face_head::load_links` meets its promise: each turn loads one link.
-- Assumes nothing.
use Rattle.std.proofs.Common.{◌≡◌, ◌*◌, ◌/◌, ◌<◌, ℕ, List, [], length, drop, set, get_or, sym, ap, ◌∙◌, add-one, arith}
use Rattle.head_links.specs.Link.{idle}
use Rattle.head_links.specs.declared.Link.{Link}
use Rattle.face_head.specs.Table.{room_of, link_in, words_at}
use Rattle.face_head.proofs.Laws.{chunk-words}
use Rattle.face_head.proofs.Taken.{room-is, load_to, load-zero, load-more, load-all}
use Rattle.face_head.proofs.load_links.Goals as goal

pub loop-i-init : goal.loop-i-init
loop-i-init c = sym (load-zero c.args.words.now c.args.links.now)

pub offset_bounds-table-i : goal.offset_bounds-table-i
offset_bounds-table-i c = omega (arith, c.both-i-end.ensures, room-is (length c.args.words.now) (length c.args.links.now))

pub bounds-table-i : goal.bounds-table-i
bounds-table-i c = omega (arith, c.both-i-end.ensures, room-is (length c.args.words.now) (length c.args.links.now))

pub offset_bounds-links-i : goal.offset_bounds-links-i
offset_bounds-links-i c = omega (arith, c.both-i-end.ensures, room-is (length c.args.words.now) (length c.args.links.now))

pub bounds-links-i : goal.bounds-links-i
bounds-links-i c = omega (arith, c.both-i-end.ensures, room-is (length c.args.words.now) (length c.args.links.now))

pub loop-i-preserved : goal.loop-i-preserved
loop-i-preserved c =
    let ws = c.args.words.now in
    let xs = c.args.links.now in
    let i = c.loop-i.i in
    let l : i < room_of (length ws) (length xs) = omega (arith, c.both-i-end.ensures) in
    let e : c.link_in.result ≡ link_in (words_at (drop (5 * i) ws)) =
    c.link_in.ensures
    ∙ ap link_in
    (c.of.ensures
    ∙ ap (λ (t : List (List ℕ)). words_at (get_or t i [])) c.as_chunks.ensures.front
    ∙ chunk-words i (length ws / 5) ws (omega (arith, l, room-is (length ws) (length xs)))) in
    ap (λ (us : List Link). set us i c.link_in.result) c.loop-i.invariant
    ∙ load-more ws xs i c.link_in.result idle l e
    ∙ ap (λ (j : ℕ). load_to ws xs j) (sym (add-one i))

pub returns : goal.returns
returns c =
    c.loop-i.invariant ∙ load-all c.args.words.now c.args.links.now c.loop-i.i (omega (arith, c.both-i-end.ensures))
