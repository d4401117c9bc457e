-- Rules R153 to R155: a fresh head.
-- Assumes nothing.
use Rattle.std.specs.Prelude.{ℕ, Bool, cond, List, [], ◌∷◌, eqb, length}
use Rattle.frame.specs.Card.{number_of, ◌unless◌, answer_of}
use Rattle.frame.specs.declared.Address.{Address}
use Rattle.frame.specs.declared.Reply.{Reply}
use Rattle.frame.specs.declared.Reply.TheVariants.{Range, Unsound}
use Rattle.frame_range.specs.Fits.{is_individual}
use Rattle.head_state.specs.Head.{begun}
use Rattle.lent.specs.Folds.{places}
use Rattle.head_links.specs.Link.{idle}
use Rattle.head_links.specs.declared.Link.{Link}
use Rattle.head_survey.specs.Facts.{is_few}
use Rattle.head_plans.specs.Plan.{quiet}
use Rattle.head_calls.specs.declared.Answer.{Answer}

-- the answer, and what then stands in the table
pub record Freshly : Type 0 where
  pub answer : Answer
  pub table : List Link

abbrev pub freshly : Answer → List Link → Freshly
freshly a xs = record { answer = a; table = xs }

abbrev pub is_done : Reply → Bool
is_done r = eqb (number_of r) 0

-- R154
abbrev pub tested_for : Address → ℕ → Reply
tested_for a n = answer_of (Unsound unless is_few n ∷ Range unless is_individual a ∷ [])

-- R153, R155
unfoldable pub begun_of : Address → ℕ → Answer
begun_of a n =
    record {
      reply = tested_for a n;
      next = begun (cond (is_done (tested_for a n)) a (record { 0 = 0 }));
      frames = 0;
      notice = quiet;
      made = 0;
    }

-- R153, R155: the table after it
unfoldable pub fresh_of : Address → List Link → Freshly
fresh_of a xs =
    let made = begun_of a (length xs) in
    freshly made (cond (is_done made.reply) (places (λ k l. idle) 1 xs) xs)
