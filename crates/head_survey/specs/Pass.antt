-- Code: the pass over the table, link by link; `proofs/Page.antt` shows that it finds what `Facts` says, and `proofs/Marks.antt` that the marks
-- hide no address that is held twice.
-- Assumes nothing.
use Rattle.std.specs.Prelude.{ℕ, ◌-◌, ◌%◌, min, Bool, true, false, cond, not, ◌&&◌, ◌||◌, List, eqb, get_or, set, take, replicate}
use Rattle.std.specs.List.{list_any}
use Rattle.clock.specs.Numbers.{furthest_advance}
use Rattle.frame.specs.declared.Address.{Address}
use Rattle.head_links.specs.Link.{idle, is_held}
use Rattle.head_links.specs.Pass.{quiet_of}
use Rattle.head_links.specs.Sound.{sound_of}
use Rattle.head_links.specs.declared.Link.{Link}
use Rattle.head_survey.specs.Facts.{is_few, holds, any_holds}
use Rattle.head_survey.specs.declared.Look.{Look}
use Rattle.head_survey.specs.declared.Facts.{Facts}

abbrev pub begun : ℕ → Facts
begun n = record { sound = is_few n; held = false; idle = 0; link = idle; quiet = furthest_advance }

-- where the mark of an address stands, of 251
unfoldable pub place_of : Address → ℕ
place_of a = a.0 % 251

-- no link has left its mark
unfoldable pub unmarked : List Bool
unmarked = replicate 251 false

unfoldable pub is_marked : List Bool → Address → Bool
is_marked ms a = get_or ms (place_of a) false

-- a held link leaves the mark of its address
unfoldable pub mark_of : Link → List Bool → List Bool
mark_of l ms = cond (is_held l.state) (set ms (place_of l.address) true) ms

-- a held link whose place has a mark, and one before it holds the address
unfoldable pub sought_of : List Bool → List Link → Link → Bool
sought_of ms before l = is_held l.state && (is_marked ms l.address && list_any (holds l.address) before)

-- a held link whose address one of the first i holds
abbrev pub twice_of : List Link → Link → ℕ → Bool
twice_of xs l i = is_held l.state && any_holds l.address (take i xs)

abbrev pub sound_still : Bool → Link → Bool → Bool
sound_still sound l twice = sound && sound_of l && not twice

abbrev pub held_still : Bool → Link → Address → Bool
held_still held l a = held || holds a l

unfoldable pub idle_still : ℕ → Link → ℕ → ℕ
idle_still i l number = cond (eqb i 0 && not (is_held l.state)) number i

unfoldable pub link_still : Link → Link → ℕ → ℕ → Link
link_still found l number asked = cond (eqb number asked) l found

abbrev pub quiet_still : ℕ → Link → ℕ
quiet_still q l = min q (quiet_of l)

abbrev pub seen_of : Facts → Link → ℕ → Bool → Look → Facts
seen_of f l number twice k =
    record {
      sound = sound_still f.sound l twice;
      held = held_still f.held l k.address;
      idle = idle_still f.idle l number;
      link = link_still f.link l number k.link;
      quiet = quiet_still f.quiet l;
    }

-- what is known after the link of that number
abbrev pub passed : List Link → Look → ℕ → Link → Facts → Facts
passed xs k number l f = seen_of f l number (twice_of xs l (number - 1)) k
