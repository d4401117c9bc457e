-- Statement: a window that is opened waits for its start, is inside for exactly its length, then idle (R160).
-- Assumes nothing.
use Rattle.std.specs.Prelude.{ℕ, zero, suc, ◌+◌, ◌≤◌, ◌<◌, ◌≡◌, true, false, List, pos}
use Rattle.clock.specs.Counts.{distance}
use Rattle.clock.specs.declared.Count.{Count}
use Rattle.clock.specs.declared.Quanta.{Quanta}
use Rattle.frame.specs.declared.Reply.TheVariants.{Done}
use Rattle.head_state.specs.Head.{tick_of}
use Rattle.head_state.specs.Window.{is_idle, is_inside}
use Rattle.head_state.specs.declared.Head.{Head}
use Rattle.head_links.specs.declared.Link.{Link}
use Rattle.head_judging.specs.declared.Call.{Call}
use Rattle.head_calls.specs.Serve.{serve_of}

-- k ticks of a head, one after the other
abbrev pub ticks_on : ℕ → Head → Head
ticks_on zero h = h
ticks_on (suc k) h = ticks_on k (tick_of h)

-- the window of a head waits d ticks, is inside for n, then idle
pub record Stays (d n : ℕ) (h : Head) : Type 0 where
  pub waits : (k : ℕ) → k < d → (is_idle (ticks_on k h).window ≡ false) × (is_inside (ticks_on k h).window ≡ false)
  pub inside : (k : ℕ) → d ≤ k → k < d + n → is_inside (ticks_on k h).window ≡ true
  pub ends : (k : ℕ) → d + n ≤ k → is_idle (ticks_on k h).window ≡ true

-- every window that a request opens, by the distance of its start
unfoldable pub InsideExactly : Type 0
InsideExactly =
    (h : Head) (xs : List Link) (os : List ℕ) (start : Count) (length sync window : Quanta) (d : ℕ)
    → (serve_of h xs (Call.Open start length sync window) os).answer.reply ≡ Done → distance h.count.0 start.0 ≡ pos d
    → Stays d window.0 (serve_of h xs (Call.Open start length sync window) os).answer.next
