-- Face: a head's answer as words of 64 bits.
-- Assumes nothing.
use Rattle.std.specs.Prelude.{ℕ, cond, List, [], ◌∷◌, eqb}
use Rattle.frame_queues.specs.Queues.{no_sets}
use Rattle.frame_queues.specs.Words.{sets_words}
use Rattle.frame_queues.specs.declared.Sets.{Sets}
use Rattle.head_plans.specs.declared.Kind.{Kind}
use Rattle.head_plans.specs.declared.Kind.TheVariants.{Nothing, Request, Registered, Dropped, Report}
use Rattle.head_plans.specs.declared.Notice.{Notice}
use Rattle.head_calls.specs.declared.Answer.{Answer}

abbrev pub kind_word : Kind → ℕ
kind_word Nothing = 0
kind_word Request = 1
kind_word Registered = 2
kind_word Dropped = 3
kind_word (Report sets) = 4

-- R151: a REPORT's queue sets; other notices have none
abbrev pub sets_of : Kind → Sets
sets_of Nothing = no_sets
sets_of Request = no_sets
sets_of Registered = no_sets
sets_of Dropped = no_sets
sets_of (Report sets) = sets

-- how many notices, 0 or 1, and the notice's kind, link, round trip and queue sets
unfoldable pub notice_words : Notice → List ℕ
notice_words n = cond (eqb (kind_word n.kind) 0) (0 ∷ []) (1 ∷ kind_word n.kind ∷ n.link ∷ n.trip.0 ∷ sets_words (sets_of n.kind))

-- how many frames, and the notice
unfoldable pub told_words : Answer → List ℕ
told_words a = a.frames ∷ notice_words a.notice
