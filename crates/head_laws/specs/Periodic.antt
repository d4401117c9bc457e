-- Statement: the periodic GATE goes out at the tick that ends its timer, and restarts it (R19, R190).
-- Assumes nothing.
use Rattle.std.specs.Prelude.{None, Some, ℕ, zero, suc, ◌+◌, ◌-◌, ◌<◌, ◌≡◌, List, ◌∷◌, ◌++◌}
use Rattle.clock.specs.Numbers.{periodic}
use Rattle.frame.specs.declared.Body.TheVariants.{Gate}
use Rattle.frame.specs.declared.Grants.TheVariants.{None}
use Rattle.frame.specs.declared.Message.{Message}
use Rattle.frame.specs.declared.Reply.TheVariants.{Done}
use Rattle.head_state.specs.Head.{tick_of as head_tick}
use Rattle.head_state.specs.declared.Head.{Head}
use Rattle.head_links.specs.Steps.{with_watchdog, with_periodic}
use Rattle.head_links.specs.Tick.{tick_of}
use Rattle.head_links.specs.declared.Link.{Link}
use Rattle.head_links.specs.declared.State.TheVariants.{Registered}
use Rattle.head_survey.specs.Facts.{link_from}
use Rattle.head_table.specs.Output.{message_of}
use Rattle.head_judging.specs.declared.Call.{Call}
use Rattle.head_calls.specs.Serve.{serve_of}
use Rattle.head_laws.specs.Stated.{call_frames, from}

-- registered, with n ticks left before the next periodic GATE, and more before its watchdog ends
pub record Gates (n : ℕ) (l : Link) : Type 0 where
  pub registered : l.state ≡ Registered
  pub due : l.periodic.left ≡ n
  pub watched : n < l.watchdog.left

-- one tick less of the watchdog, the periodic timer at its whole setting, all else as it was
abbrev pub restarted : Link → Link
restarted l = with_periodic (with_watchdog l (record { left = l.watchdog.left - 1 })) (record { left = periodic })

-- the timer's last tick sends an empty GATE and restarts it; the link stays registered
unfoldable pub GateFires : Type 0
GateFires = (l : Link) (port : ℕ) → Gates 1 l → tick_of l port ≡ record { link = restarted l; sent = Some (l.address, Gate None) }

-- k ticks of a link, one after the other
abbrev pub ticks_on : ℕ → Link → ℕ → Link
ticks_on zero l port = l
ticks_on (suc k) l port = ticks_on k (tick_of l port).link port

-- the GATE comes at the tick after the next n: none of these sends anything, and the one after it comes 3,125,000 ticks later
pub record Comes (n : ℕ) (l : Link) (port : ℕ) : Type 0 where
  pub silent : (k : ℕ) → k < n → (tick_of (ticks_on k l port) port).sent ≡ None
  pub fires : (tick_of (ticks_on n l port) port).sent ≡ Some (l.address, Gate None)
  pub again : suc n + periodic < l.watchdog.left → Gates periodic (ticks_on (suc n) l port)

unfoldable pub GateComes : Type 0
GateComes = (n : ℕ) (l : Link) (port : ℕ) → Gates (suc n) l → Comes n l port

-- a message stands among others
pub record Among (m : Message) (ms : List Message) : Type 0 where
  pub before : List Message
  pub after : List Message
  pub stands : ms ≡ before ++ (m ∷ after)

-- at the head's call, of the link of any number: it is restarted so in the table, and its GATE is among the frames of the call
unfoldable pub GateSent : Type 0
GateSent =
    (h : Head) (xs : List Link) (os : List ℕ) (n : ℕ) → (serve_of h xs Call.Tick os).answer.reply ≡ Done → Gates 1 (link_from n 1 xs)
    → (link_from n 1 (serve_of h xs Call.Tick os).table ≡ restarted (link_from n 1 xs))
    × Among (message_of (from (head_tick h)) (link_from n 1 xs).address (Gate None)) (call_frames h xs Call.Tick os)
