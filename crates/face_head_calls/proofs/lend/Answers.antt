-- `face_head_calls::lend` meets its promise: the core's call over the links that are loaded, and those that it leaves over the words.
-- Assumes nothing.
use Rattle.std.proofs.Common.{◌≡◌, ap, ◌∙◌, ℕ, List, length}
use Rattle.face_head.specs.Table.{loaded, stored}
use Rattle.head_state.specs.declared.Head.{Head}
use Rattle.head_links.specs.declared.Link.{Link}
use Rattle.head_judging.specs.declared.Call.{Call}
use Rattle.head_calls.specs.Serve.{Served, served, serve_of}
use Rattle.head_calls.specs.declared.Answer.{Answer}
use Rattle.face_head_calls.specs.Lend.{kept_of, lend_left, lend_of}
use Rattle.face_head_calls.proofs.lend.Goals as goal

is_whole : (h : Head) (ws : List ℕ) (xs : List Link) (req : Call) (os : List ℕ) (zs : List Link) (a : Answer) (ys : List Link) (os' : List ℕ) (k : ℕ) (us : List ℕ)
    → zs ≡ loaded ws xs → served a ys os' ≡ serve_of h zs req os → k ≡ kept_of a (length xs) → us ≡ stored ys k ws → lend_left a us os' ≡ lend_of h ws xs req os
unfolding lend_of
is_whole h ws xs req os zs a ys os' k us e f d g =
    ap (λ (t : List ℕ). lend_left a t os') (g ∙ ap (λ (n : ℕ). stored ys n ws) d)
    ∙ ap (λ (t : Served). lend_left t.answer (stored t.table (kept_of t.answer (length xs)) ws) t.octets) (f ∙ ap (λ (t : List Link). serve_of h t req os) e)

pub returns : goal.returns
returns c =
    is_whole c.args.head c.args.words.now c.args.links.now c.args.call c.args.out.now c.load_links.new.links c.serve-answer.result c.serve-answer.new.links c.serve-answer.new.out
    c.kept.result c.store_links.new.words c.load_links.ensures c.serve-answer.ensures
    (c.kept.ensures ∙ ap (kept_of c.serve-answer.result) (c.serve-answer.auto.links ∙ c.load_links.auto.links)) c.store_links.ensures
