-- `face_head_calls::clear` meets its promise: a fresh head, and the links that it leaves over the words.
-- Assumes nothing.
use Rattle.std.proofs.Common.{◌≡◌, ap, ◌∙◌, ℕ, List, length}
use Rattle.frame.specs.declared.Address.{Address}
use Rattle.face_head.specs.Table.{stored}
use Rattle.head_links.specs.declared.Link.{Link}
use Rattle.head_calls.specs.Fresh.{Freshly, freshly, fresh_of}
use Rattle.head_calls.specs.declared.Answer.{Answer}
use Rattle.face_head_calls.specs.Lend.{kept_of, clear_left, clear_of}
use Rattle.face_head_calls.proofs.clear.Goals as goal

is_whole : (x : Address) (ws : List ℕ) (xs : List Link) (a : Answer) (ys : List Link) (k : ℕ) (us : List ℕ)
    → freshly a ys ≡ fresh_of x xs → k ≡ kept_of a (length xs) → us ≡ stored ys k ws → clear_left a us ≡ clear_of x ws xs
unfolding clear_of
is_whole x ws xs a ys k us f d g =
    ap (λ (t : List ℕ). clear_left a t) (g ∙ ap (λ (n : ℕ). stored ys n ws) d)
    ∙ ap (λ (t : Freshly). clear_left t.answer (stored t.table (kept_of t.answer (length xs)) ws)) f

pub returns : goal.returns
returns c =
    is_whole c.args.address c.args.words.now c.args.links.now c.fresh-answer.result c.fresh-answer.new.links c.kept.result c.store_links.new.words
    c.fresh-answer.ensures (c.kept.ensures ∙ ap (kept_of c.fresh-answer.result) c.fresh-answer.auto.links) c.store_links.ensures
