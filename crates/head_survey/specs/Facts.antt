-- Rules R74, R77, R146, R162, R163: a sound table, and what the steps of the head ask of it.
-- Assumes nothing.
use Rattle.std.specs.Prelude.{ℕ, suc, min, Bool, true, false, cond, not, ◌&&◌, ◌||◌, List, [], ◌∷◌, eqb, leb, length}
use Rattle.clock.specs.Numbers.{furthest_advance}
use Rattle.frame.specs.declared.Address.{Address}
use Rattle.head_links.specs.Link.{idle, is_held}
use Rattle.head_links.specs.Pass.{quiet_of}
use Rattle.head_links.specs.Sound.{sound_of}
use Rattle.head_links.specs.declared.Link.{Link}
use Rattle.head_survey.specs.declared.Look.{Look}
use Rattle.head_survey.specs.declared.Facts.{Facts}

-- R74
unfoldable pub is_few : ℕ → Bool
is_few n = leb 1 n && leb n 64

-- the link is held, at that address
unfoldable pub holds : Address → Link → Bool
holds a l = is_held l.state && eqb l.address.0 a.0

abbrev pub any_holds : Address → List Link → Bool
any_holds a [] = false
any_holds a (l ∷ ls) = holds a l || any_holds a ls

abbrev pub are_all_sound : List Link → Bool
are_all_sound [] = true
are_all_sound (l ∷ ls) = sound_of l && are_all_sound ls

-- R77
abbrev pub different : List Link → Bool
different [] = true
different (l ∷ ls) = not (is_held l.state && any_holds l.address ls) && different ls

unfoldable pub sound_table : List Link → Bool
sound_table xs = is_few (length xs) && are_all_sound xs && different xs

-- R162: the lowest idle link's number, where the first has the number k; 0 if there is none
abbrev pub idle_from : ℕ → List Link → ℕ
idle_from k [] = 0
idle_from k (l ∷ ls) = cond (is_held l.state) (idle_from (suc k) ls) k

-- R146: the link of that number, where the first has the number k; an idle one for a number that no link has
abbrev pub link_from : ℕ → ℕ → List Link → Link
link_from number k [] = idle
link_from number k (l ∷ ls) = cond (eqb k number) l (link_from number (suc k) ls)

-- the ticks that come before the one at which a link rings
abbrev pub quiet_all : List Link → ℕ
quiet_all [] = furthest_advance
quiet_all (l ∷ ls) = min (quiet_of l) (quiet_all ls)

-- R74: in a table of another size nothing is looked for
unfoldable pub facts_of : List Link → Look → Facts
facts_of xs k =
    cond (is_few (length xs))
    (record {
      sound = sound_table xs;
      held = any_holds k.address xs;
      idle = idle_from 1 xs;
      link = link_from k.link 1 xs;
      quiet = quiet_all xs;
    })
    (record { sound = false; held = false; idle = 0; link = idle; quiet = furthest_advance })
