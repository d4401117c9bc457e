-- Rules R146, R188: an event is offered to every link by its number.
-- Assumes nothing.
use Rattle.std.specs.Prelude.{ℕ, ◌%◌, ◌^◌, cond, List, eqb}
use Rattle.lent.specs.Folds.{places}
use Rattle.head_links.specs.Link.{idle}
use Rattle.head_links.specs.Pass.{passed_of}
use Rattle.head_links.specs.Steps.{still, change_of}
use Rattle.head_links.specs.Tick.{tick_of}
use Rattle.head_links.specs.declared.Link.{Link}
use Rattle.head_links.specs.declared.Stepped.{Stepped}
use Rattle.head_table.specs.declared.Event.{Event}

-- R146; a sound table's numbers end at 64
abbrev pub port_of : ℕ → ℕ
port_of number = number % 2 ^ 16

-- what an event does to the link of that number
abbrev pub react_of : Event → Link → ℕ → Stepped
react_of Event.Nothing l number = still l
react_of Event.Clear l number = still idle
react_of Event.Tick l number = tick_of l (port_of number)
-- ticks at which no link rings, and one more
react_of (Event.Leap k) l number = tick_of (passed_of l k) (port_of number)
react_of (Event.At k change) l number = cond (eqb k number) (change_of change l (port_of number)) (still l)

-- the link of that number after the event
abbrev pub reacted : Event → ℕ → Link → Link
reacted e number l = (react_of e l number).link

-- the table after the event
abbrev pub driven_of : Event → List Link → List Link
driven_of e xs = places (reacted e) 1 xs

-- nothing is offered to no link
abbrev pub turns_of : Event → ℕ → ℕ
turns_of Event.Nothing n = 0
turns_of Event.Clear n = n
turns_of Event.Tick n = n
turns_of (Event.Leap k) n = n
turns_of (Event.At k change) n = n
