-- No plan but that of a message that is heard has a notice.
-- Assumes nothing.
use Prim.Native.Nat.{ℕ}
use mathlib.Core.Path.{◌≡◌, refl}
use mathlib.Core.Bool.{false, true≢false}
use mathlib.Core.List.{List}
use lib.ListN.{length}
use Rattle.head_state.specs.declared.Head.{Head}
use Rattle.head_links.specs.declared.Link.{Link}
use Rattle.head_survey.specs.declared.Facts.{Facts}
use Rattle.head_plans.specs.Plan.{quiet}
use Rattle.head_plans.specs.declared.Plan.{Plan}
use Rattle.head_judging.specs.declared.Call.{Call}
use Rattle.head_calls.specs.Serve.{done_of, plan_of, serve_of}
use Rattle.head_laws.specs.Calls.{planned, known, Outcome, unsound, short, refuses, accepts, outcome}
use Rattle.head_laws.specs.Notices.{is_hear, OnlyHeard}

planned-quiet : (r : Call) (h : Head) (f : Facts) → is_hear r ≡ false → (planned r h f).notice ≡ quiet
planned-quiet (Call.Open start length sync window) h f e = refl
planned-quiet (Call.Admit a pending sync) h f e = refl
planned-quiet (Call.Reject a pending sync) h f e = refl
planned-quiet (Call.Reregister link sync) h f e = refl
planned-quiet (Call.Deregister link) h f e = refl
planned-quiet (Call.Gate link asked) h f e = refl
planned-quiet (Call.Hear link m) h f e = absurd (true≢false e)
planned-quiet Call.Tick h f e = refl
planned-quiet (Call.Advance n) h f e = refl

plan-quiet : (h : Head) (xs : List Link) (r : Call) (room : ℕ) (p : Plan) → is_hear r ≡ false → Outcome h xs r room p → p.notice ≡ quiet
plan-quiet h xs r room p i (unsound s e) = rw e
plan-quiet h xs r room p i (short s k e) = rw e
plan-quiet h xs r room p i (refuses s k x a b c e) = rw e
plan-quiet h xs r room p i (accepts s k t e) = rw e (planned-quiet r h (known xs r) i)

pub only-heard : OnlyHeard
unfolding OnlyHeard serve_of done_of
only-heard h xs r os i = plan-quiet h xs r (length os) (plan_of h xs r (length os)) i (outcome h xs r (length os))
