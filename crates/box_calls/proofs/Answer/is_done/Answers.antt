-- `box_calls::Answer::is_done` meets its promise.
-- Assumes nothing.
use Rattle.std.proofs.Common.{◌≡◌, refl, ◌∙◌, eqb}
use denote.Enum.Bare.{sameb}
use Rattle.frame.specs.Card.{number_of}
use Rattle.frame.specs.contracts.Reply.{the_type}
use Rattle.frame.specs.declared.Reply.{Reply}
use Rattle.frame.specs.declared.Reply.TheVariants.{Done}
use Rattle.box_calls.specs.Advance.{is_done}
use Rattle.box_calls.proofs.Answer.is_done.Goals as goal

-- Done alone has the number 0
done-number : (r : Reply) → sameb the_type r Done ≡ eqb (number_of r) 0
done-number Done = refl
done-number r = refl

pub returns : goal.returns
unfolding is_done
returns c = c.eq.ensures ∙ done-number c.args.self.reply
