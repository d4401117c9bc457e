-- A head and a table that runs reach fit their words: what is sound is in range.
-- Assumes nothing.
use Prim.Native.Nat.{◌^◌, ◌<◌}
use mathlib.Core.Path.{◌≡◌}
use mathlib.Core.Bool.{true, ◌&&◌, and-eq-true_iff}
use mathlib.Core.List.{List, [], ◌∷◌}
use native.Mathlib.Omega.{arith}
use borrow.Author.Tests.{leb-true}
use lib.Dec.{eqb, leb}
use Rattle.clock.specs.Numbers.{watchdog, periodic, wait, furthest}
use Rattle.clock.specs.Timers.{off, runs}
use Rattle.clock.specs.declared.Quanta.{Quanta}
use Rattle.frame_range.specs.Fits.{is_individual}
use Rattle.head_state.specs.Head.{sound_of}
use Rattle.head_state.specs.Window.{longest_window, fits, sound_window}
use Rattle.head_state.specs.declared.Head.{Head}
use Rattle.head_state.specs.declared.Window.{Window}
use Rattle.head_state.specs.declared.Window.TheVariants.{Idle, Before, Inside}
use Rattle.head_links.specs.Sound.{sound_in, sound_of as link_sound}
use Rattle.head_links.specs.declared.Link.{Link}
use Rattle.head_links.specs.declared.State.{State}
use Rattle.head_links.specs.declared.State.TheVariants as Of
use Rattle.head_survey.specs.Facts.{are_all_sound}
use Rattle.head_laws.specs.Events.{table-parts}
use Rattle.head_laws.specs.Links.{waiting-parts, registered-parts}
use Rattle.head_laws.specs.Runs.{run_sound, run-count}
use Rattle.head_laws.specs.Stated.{Run}
use Rattle.face_laws.specs.Head.{WindowFits, HeadFits, LinkFits, LinksFit}
use Rattle.face_pair.proofs.BoxFits.{off-fits, runs-fits}

length-fits : (n : Quanta) → fits n ≡ true → n.0 < 2 ^ 32
unfolding fits
length-fits n h = omega (arith, leb-true n.0 longest_window ((and-eq-true_iff (leb 1 n.0) (leb n.0 longest_window)).0 h).1)

window-fits : (w : Window) → sound_window w ≡ true → WindowFits w
window-fits Idle h = tt
window-fits (Before t n) h =
    let p = (and-eq-true_iff (runs t furthest) (fits n)).0 h in
    (runs-fits t furthest p.0 (omega arith), length-fits n p.1)
window-fits (Inside t) h = runs-fits t longest_window h (omega arith)

head-fits-by : (h : Head) → sound_of h ≡ true → h.count.0 < 2 ^ 32 → HeadFits h
unfolding sound_of
head-fits-by h s k =
    record { count = k; window = window-fits h.window ((and-eq-true_iff (is_individual h.address) (sound_window h.window)).0 s).1 }

link-fits-in : (s : State) (l : Link) → sound_in s l ≡ true → LinkFits l
link-fits-in Of.Idle l h =
    let z = eqb l.address.0 0 in
    let p = (and-eq-true_iff (z && off l.wait && off l.watchdog) (off l.periodic)).0 h in
    let q = (and-eq-true_iff (z && off l.wait) (off l.watchdog)).0 p.0 in
    record {
      wait = off-fits l.wait ((and-eq-true_iff z (off l.wait)).0 q.0).1;
      watchdog = off-fits l.watchdog q.1;
      periodic = off-fits l.periodic p.1;
    }
link-fits-in Of.Waiting l h =
    let p = waiting-parts l h in
    record {
      wait = runs-fits l.wait wait p.1 (omega arith);
      watchdog = off-fits l.watchdog p.2;
      periodic = off-fits l.periodic p.3;
    }
link-fits-in Of.Registered l h =
    let p = registered-parts l h in
    record {
      wait = off-fits l.wait p.1;
      watchdog = runs-fits l.watchdog watchdog p.2 (omega arith);
      periodic = runs-fits l.periodic periodic p.3 (omega arith);
    }

link_fits : (l : Link) → link_sound l ≡ true → LinkFits l
unfolding link_sound
link_fits l h = link-fits-in l.state l h

links-fit-by : (xs : List Link) → are_all_sound xs ≡ true → LinksFit xs
links-fit-by [] h = tt
links-fit-by (l ∷ xs) h =
    let p = (and-eq-true_iff (link_sound l) (are_all_sound xs)).0 h in
    (link_fits l p.0, links-fit-by xs p.1)

pub head-fits : {h : Head} {xs : List Link} → Run h xs → HeadFits h
head-fits {h} {xs} u = head-fits-by h (run_sound u).head (run-count u)

pub links-fit : {h : Head} {xs : List Link} → Run h xs → LinksFit xs
links-fit {h} {xs} u = links-fit-by xs (table-parts xs (run_sound u).table).1
