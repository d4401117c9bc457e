-- `head_calls::fresh` meets its promise: the offered event leaves every link idle, or all as they were.
-- Assumes nothing.
use Rattle.std.proofs.Common.{◌≡◌, refl, ap, ◌∙◌, Bool, true, false, List, length}
use Rattle.std.specs.Prelude.{cond}
use Rattle.frame.specs.declared.Address.{Address}
use Rattle.lent.specs.Folds.{places}
use Rattle.lent.specs.Laws.{places-still}
use Rattle.head_links.specs.Link.{idle}
use Rattle.head_links.specs.declared.Link.{Link}
use Rattle.head_table.specs.Events.{reacted, driven_of}
use Rattle.head_table.specs.declared.Event.{Event}
use Rattle.head_calls.specs.Clearing.{clearing as clearing_of}
use Rattle.head_calls.specs.Fresh.{begun_of, is_done, freshly, fresh_of}
use Rattle.head_calls.specs.declared.Answer.{Answer}
use Rattle.head_calls.proofs.fresh.Goals as goal

-- what the offered event leaves is every link idle, or all as they were
cleared : (done : Bool) (xs : List Link) → driven_of (clearing_of done) xs ≡ cond done (places (λ k l. idle) 1 xs) xs
unfolding clearing_of
cleared true xs = refl
cleared false xs = places-still (reacted Event.Nothing) (λ j x. refl) 1 xs

made : (a : Address) (xs zs : List Link) (r : Answer) (ev : Event) → r ≡ begun_of a (length xs) → ev ≡ clearing_of (is_done r.reply) → zs ≡ driven_of ev xs → freshly r zs ≡ fresh_of a xs
unfolding fresh_of
made a xs zs r ev e₁ e₂ e₃ =
    ap (λ (us : List Link). freshly r us) (e₃ ∙ ap (λ (y : Event). driven_of y xs) e₂ ∙ cleared (is_done r.reply) xs)
    ∙ ap (λ (y : Answer). freshly y (cond (is_done y.reply) (places (λ k l. idle) 1 xs) xs)) e₁

pub returns : goal.returns
returns c =
    made c.args.address c.args.links.now c.offer.new.links c.begin-answer.result c.clearing.result c.begin-answer.ensures c.clearing.ensures c.offer.ensures.0
