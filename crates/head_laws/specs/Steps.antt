-- Lemmas: of one link: a tick and every change that the head makes of a link leave it sound, and held at no address of another link.
-- Assumes nothing.
use Rattle.std.specs.Prelude.{ℕ, ◌≡◌, refl, true, false, List}
use Rattle.std.proofs.Common.{sym, ◌∙◌}
use Rattle.std.proofs.lemmas.Bool.{false≢true}
use Rattle.laws.specs.Cases.{either}
use Rattle.clock.specs.Laws.{ticked-runs}
use Rattle.clock.specs.Numbers.{watchdog, periodic, wait}
use Rattle.clock.specs.Timers.{runs, ticked}
use Rattle.clock.specs.declared.Timer.{Timer}
use Rattle.frame.specs.declared.Address.{Address}
use Rattle.frame.specs.declared.Grants.{Grants}
use Rattle.frame.specs.declared.Grants.TheVariants.{None}
use Rattle.frame_range.specs.Fits.{is_individual}
use Rattle.head_links.specs.Link.{idle, waiting_at, registered_at, is_held, is_registered}
use Rattle.head_links.specs.Sound.{sound_of}
use Rattle.head_links.specs.Steps.{with_watchdog, with_periodic, gated, change_of}
use Rattle.head_links.specs.Tick.{tick_wait, tick_periodic, tick_watchdog, tick_in, tick_of}
use Rattle.head_links.specs.declared.Change.{Change}
use Rattle.head_links.specs.declared.Link.{Link}
use Rattle.head_links.specs.declared.State.{State}
use Rattle.head_links.specs.declared.State.TheVariants.{Idle, Waiting, Registered}
use Rattle.head_links.specs.declared.Stepped.{Stepped}
use Rattle.head_survey.specs.Facts.{holds, any_holds}
use Rattle.head_laws.specs.Links.{registered-is, registered-held, sound-in, waiting-parts, registered-parts, waiting-of, registered-of, individual, held_at, holds_at, idle-sound, waiting-sound, registered-sound}

-- m, in the place of l, is sound and held at no address that l was not held at
pub record Keeps (l m : Link) : Type 0 where
  pub sound : sound_of m ≡ true
  pub within : (a : Address) → holds a m ≡ true → holds a l ≡ true

dropped : (l : Link) → Keeps l idle
dropped l = record { sound = idle-sound; within = λ a h. absurd (false≢true (held_at a idle h).0) }

-- a held link that stays at its address
stays : (l m : Link) → is_held l.state ≡ true → m.address ≡ l.address → sound_of m ≡ true → Keeps l m
stays l m i e h = record { sound = h; within = λ a k. holds_at a l i (sym e ∙ (held_at a m k).1) }

unmoved : (l : Link) → sound_of l ≡ true → Keeps l l
unmoved l h = record { sound = h; within = λ a k. k }

wait-keeps : (l : Link) (port : ℕ) → l.state ≡ Waiting → sound_of l ≡ true → Keeps l (tick_wait l port).link
unfolding tick_wait
wait-keeps l port e h =
    let p = waiting-parts l (sound-in l Waiting e h) in
    either (λ (x : Stepped). Keeps l x.link) (ticked l.wait).rang _ _ (λ _. dropped l)
    (λ t. stays l _ (rw e) refl (waiting-of _ e p.0 (ticked-runs l.wait wait p.1 t) p.2 p.3))

-- a registered link with another timer that runs within its setting
module _ (l : Link) (e : l.state ≡ Registered) (h : sound_of l ≡ true) where
  rewatched : (t : Timer) → runs t watchdog ≡ true → Keeps l (with_watchdog l t)
  rewatched t r =
      let p = registered-parts l (sound-in l Registered e h) in
      stays l (with_watchdog l t) (rw e) refl (registered-of (with_watchdog l t) e p.0 p.1 r p.3)

  regated : (t : Timer) → runs t periodic ≡ true → Keeps l (with_periodic l t)
  regated t r =
      let p = registered-parts l (sound-in l Registered e h) in
      stays l (with_periodic l t) (rw e) refl (registered-of (with_periodic l t) e p.0 p.1 p.2 r)

gate-keeps : (l : Link) (grants : Grants) → sound_of l ≡ true → Keeps l (gated l grants).link
unfolding gated runs
gate-keeps l grants h =
    either (λ (x : Stepped). Keeps l x.link) (is_registered l.state) _ _
    (λ i. regated l (registered-is l.state i) h (record { left = periodic }) refl) (λ _. unmoved l h)

periodic-keeps : (l : Link) → l.state ≡ Registered → sound_of l ≡ true → Keeps l (tick_periodic l).link
unfolding tick_periodic
periodic-keeps l e h =
    let p = registered-parts l (sound-in l Registered e h) in
    either (λ (x : Stepped). Keeps l x.link) (ticked l.periodic).rang _ _ (λ _. gate-keeps l None h)
    (λ t. regated l e h (ticked l.periodic).timer (ticked-runs l.periodic periodic p.3 t))

after : {l m n : Link} → Keeps l m → Keeps m n → Keeps l n
after f g = record { sound = g.sound; within = λ a h. f.within a (g.within a h) }

watchdog-keeps : (l : Link) (port : ℕ) → l.state ≡ Registered → sound_of l ≡ true → Keeps l (tick_watchdog l port).link
unfolding tick_watchdog
watchdog-keeps l port e h =
    let p = registered-parts l (sound-in l Registered e h) in
    let u = (ticked l.watchdog).timer in
    either (λ (x : Stepped). Keeps l x.link) (ticked l.watchdog).rang _ _ (λ _. dropped l)
    (λ t.
    let k = rewatched l e h u (ticked-runs l.watchdog watchdog p.2 t) in
    after k (periodic-keeps (with_watchdog l u) e k.sound))

tick-in : (s : State) (l : Link) (port : ℕ) → l.state ≡ s → sound_of l ≡ true → Keeps l (tick_in s l port).link
tick-in Idle l port e h = unmoved l h
tick-in Waiting l port e h = wait-keeps l port e h
tick-in Registered l port e h = watchdog-keeps l port e h

-- what a change asks of the link that it is made of, and of the table
abbrev pub Allowed : Change → Link → List Link → Type 0
Allowed (Change.Admit a pending sync) l xs = (is_individual a ≡ true) × (any_holds a xs ≡ false)
Allowed (Change.Reregister sync) l xs = is_registered l.state ≡ true
Allowed Change.Deregister l xs = Unit {0}
Allowed (Change.Gate grants) l xs = Unit {0}
Allowed Change.Register l xs = is_held l.state ≡ true
Allowed Change.Report l xs = is_registered l.state ≡ true

-- m, in the place of l, is sound and held at no address of another link
pub record Suits (l m : Link) (xs : List Link) : Type 0 where
  pub sound : sound_of m ≡ true
  pub alone : (a : Address) → holds a m ≡ true → any_holds a xs ≡ true → holds a l ≡ true

suits : {l m : Link} (xs : List Link) → Keeps l m → Suits l m xs
suits xs k = record { sound = k.sound; alone = λ a h _. k.within a h }

-- a tick leaves a sound link sound, and held at no address that it was not held at
pub tick-keeps : (l : Link) (port : ℕ) → sound_of l ≡ true → Keeps l (tick_of l port).link
tick-keeps l port h = tick-in l.state l port refl h

-- so does a change where it is allowed, but that an admitted link has an address that no link held
pub change-suits : (c : Change) (l : Link) (port : ℕ) (xs : List Link) → Allowed c l xs → sound_of l ≡ true
    → Suits l (change_of c l port).link xs
unfolding runs
change-suits (Change.Admit a pending sync) l port xs f h =
    record { sound = waiting-sound a f.0; alone = λ b k t. absurd (false≢true (sym f.1 ∙ rw (held_at b (waiting_at a) k).1 t)) }
change-suits (Change.Reregister sync) l port xs f h =
    let i = registered-held l.state f in
    suits xs (stays l (waiting_at l.address) i refl (waiting-sound l.address (individual l i h)))
change-suits Change.Deregister l port xs f h = suits xs (dropped l)
change-suits (Change.Gate grants) l port xs f h = suits xs (gate-keeps l grants h)
change-suits Change.Register l port xs f h =
    suits xs (stays l (registered_at l.address) f refl (registered-sound l.address (individual l f h)))
change-suits Change.Report l port xs f h = suits xs (rewatched l (registered-is l.state f) h (record { left = watchdog }) refl)
