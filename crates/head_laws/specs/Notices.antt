-- Statement: only a message that is heard gives a notice (R152).
-- Assumes nothing.
use Rattle.std.specs.Prelude.{ℕ, ◌≡◌, Bool, true, false, List}
use Rattle.head_state.specs.declared.Head.{Head}
use Rattle.head_links.specs.declared.Link.{Link}
use Rattle.head_plans.specs.Plan.{quiet}
use Rattle.head_judging.specs.declared.Call.{Call}
use Rattle.head_calls.specs.Serve.{serve_of}

-- a message that is heard, and no tick and no request of the client
abbrev pub is_hear : Call → Bool
is_hear (Call.Open start length sync window) = false
is_hear (Call.Admit a pending sync) = false
is_hear (Call.Reject a pending sync) = false
is_hear (Call.Reregister link sync) = false
is_hear (Call.Deregister link) = false
is_hear (Call.Gate link asked) = false
is_hear (Call.Hear link m) = true
is_hear Call.Tick = false
is_hear (Call.Advance n) = false

-- of every head, table and output, done or refused: no notice, with link 0 and round trip 0
unfoldable pub OnlyHeard : Type 0
OnlyHeard = (h : Head) (xs : List Link) (r : Call) (os : List ℕ) → is_hear r ≡ false → (serve_of h xs r os).answer.notice ≡ quiet
