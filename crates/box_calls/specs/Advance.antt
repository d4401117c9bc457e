-- Rules R191 to R195, at the box: 13 and 9 in that order, and else single ticks (`ticks` of laws).
-- Assumes nothing.
use Rattle.std.specs.Prelude.{ℕ, Bool, ◌&&◌, [], ◌∷◌, eqb}
use Rattle.laws.specs.Ticks.{ticks}
use Rattle.clock.specs.Numbers.{is_in_reach}
use Rattle.frame.specs.Card.{◌unless◌, given, number_of}
use Rattle.frame.specs.declared.Reply.TheVariants.{Done, Grant, Unsound}
use Rattle.box_telling.specs.Told.{is_nothing}
use Rattle.box_calls.specs.Answer.{bare, refused}
use Rattle.box_calls.specs.Box.{sound_of, tick_of}
use Rattle.box_calls.specs.declared.FloorBox.{FloorBox}
use Rattle.box_calls.specs.declared.Answer.{Answer}
use Rattle.box_calls.specs.declared.Advanced.{Advanced}

unfoldable pub is_done : Answer → Bool
is_done r = eqb (number_of r.reply) 0

-- it hands out neither a frame nor a notice; nothing stands behind the last notice
unfoldable pub is_silent : Answer → Bool
is_silent r = eqb r.frames.number 0 && is_nothing r.notices.first

-- the tick after the one that was answered so
abbrev pub again : Answer → Answer
again r = tick_of r.next

-- what the last tick made was answered with, and how many were made
abbrev pub out : Answer → ℕ → Advanced
out r m = record { answer = r; made = m }

unfoldable pub advance_of : FloorBox → ℕ → Advanced
advance_of b n =
    given
    (Unsound unless sound_of b
    ∷ Grant unless is_in_reach n
    ∷ [])
    (λ r. out (refused b r) 0) (ticks again is_done is_silent out n (bare b Done) 0)
