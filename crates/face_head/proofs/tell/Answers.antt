-- `face_head::tell` meets its promise.
-- Assumes nothing.
use Rattle.std.proofs.Common.{◌≡◌, refl, false}
use lib.Dec.{eqb}
use Rattle.face_head.specs.Told.{kind_word, told_words, notice_words}
use Rattle.head_plans.specs.declared.Kind.{Kind}
use Rattle.head_plans.specs.declared.Kind.TheVariants.{Nothing, Request, Registered, Dropped, Report}
use Rattle.face_head.proofs.tell.Goals as goal

-- each kind but the first has a word above 0
something : (k : Kind) → (k ≡ Nothing → ⊥) → eqb (kind_word k) 0 ≡ false
something Nothing h = absurd (h refl)
something Request h = refl
something Registered h = refl
something Dropped h = refl
something (Report sets) h = refl

pub returns-in-Nothing : goal.returns-in-Nothing
unfolding told_words notice_words
returns-in-Nothing c = rw (c.lay.ensures, c.in-Nothing.is)

pub returns : goal.returns
unfolding told_words notice_words
returns c =
    rw (c.lay-2.ensures, c.sets_of-sets.ensures, c.from.ensures, c.kind_word.ensures, something _ c.in_default.not-Nothing)
