-- `face_head::store_links` meets its promise: each turn stores one link.
-- Assumes nothing.
use Rattle.std.proofs.Common.{◌+◌, ◌*◌, ◌<◌, ◌++◌, ℕ, List, length, min, take, drop, get_or, sym, ap, ◌∙◌, add-one, arith}
use Rattle.head_links.specs.Link.{idle}
use Rattle.face_head.specs.Table.{five, link_words, room_of}
use Rattle.face_head.proofs.Taken.{first-is, store_to, store-zero, store-more, store-all}
use Rattle.face_head.proofs.store_links.Goals as goal

pub loop-i-init : goal.loop-i-init
loop-i-init c = sym (store-zero c.args.links.now c.args.n c.args.words.now)

pub overflow_mul-i : goal.overflow_mul-i
overflow_mul-i c = omega (arith, c.min-i-end.ensures, c.both.ensures, first-is c.args.n (length c.args.words.now) (length c.args.links.now))

pub offset_bounds-links-i : goal.offset_bounds-links-i
offset_bounds-links-i c = omega (arith, c.min-i-end.ensures, c.both.ensures, first-is c.args.n (length c.args.words.now) (length c.args.links.now))

pub bounds-links-i : goal.bounds-links-i
bounds-links-i c = omega (arith, c.min-i-end.ensures, c.both.ensures, first-is c.args.n (length c.args.words.now) (length c.args.links.now))

pub put_link-requires : goal.put_link-requires
put_link-requires c = omega (arith, c.min-i-end.ensures, c.both.ensures, first-is c.args.n (length c.args.words.now) (length c.args.links.now))

pub loop-i-preserved : goal.loop-i-preserved
loop-i-preserved c =
    let xs = c.args.links.now in
    let ws = c.args.words.now in
    let i = c.loop-i.i in
    let l : i < min c.args.n (room_of (length ws) (length xs)) = omega (arith, c.min-i-end.ensures, c.both.ensures) in
    c.put_link.ensures
    ∙ ap (λ (us : List ℕ). take (5 * i) us ++ five (link_words (get_or xs i idle)) ++ drop (5 * i + 5) us) c.loop-i.invariant
    ∙ store-more xs c.args.n ws i idle l
    ∙ ap (λ (j : ℕ). store_to xs c.args.n ws j) (sym (add-one i))

pub returns : goal.returns
returns c =
    c.loop-i.invariant
    ∙ store-all c.args.links.now c.args.n c.args.words.now c.loop-i.i (omega (arith, c.min-i-end.ensures, c.both.ensures))
