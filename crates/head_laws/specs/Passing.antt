-- Lemmas: ticks at which no link rings, passed at once: the table stays sound, and a leap is a tick of the table so passed.
-- Assumes nothing.
use Rattle.std.specs.Prelude.{ℕ, suc, ◌+◌, ◌≤◌, ◌<◌, ◌%◌, ◌^◌, ◌≡◌, refl, true, List, [], ◌∷◌, length}
use Rattle.std.proofs.Common.{ap, ⊎_elim, arith, lt-ltb, le-ltb, eq-eqb, ne_eqb}
use Rattle.std.proofs.lemmas.Bool.{lt-leb}
use Rattle.laws.specs.Cases.{cut}
use Rattle.clock.specs.Counts.{next_of, later_of}
use Rattle.clock.specs.Laws.{passed_none as timer-none}
use Rattle.clock.specs.declared.Quanta.{Quanta}
use Rattle.clock.specs.declared.Timer.{Timer}
use Rattle.frame.specs.declared.Address.{Address}
use Rattle.head_state.specs.Head.{tick_of as head_tick, after_of}
use Rattle.head_state.specs.Window.{inside_after, before_after, window_after}
use Rattle.head_state.specs.declared.Head.{Head}
use Rattle.head_state.specs.declared.Window.{Window}
use Rattle.head_state.specs.declared.Window.TheVariants.{Idle, Before, Inside}
use Rattle.lent.specs.Folds.{places, each}
use Rattle.head_links.proofs.Laws.{passed_none, passed-sound, passed-joins}
use Rattle.head_links.specs.Pass.{passed_of}
use Rattle.head_links.specs.declared.Link.{Link}
use Rattle.head_survey.specs.Facts.{holds, any_holds, are_all_sound, different, quiet_all}
use Rattle.head_table.specs.Events.{reacted}
use Rattle.head_table.specs.Output.{Output, note_link}
use Rattle.head_table.specs.declared.Event.{Event}
use Rattle.head_table.specs.declared.Sender.{Sender}
use Rattle.head_laws.specs.Table.{sound-first}

abbrev pub passed_all : List Link → ℕ → List Link
passed_all [] k = []
passed_all (l ∷ ls) k = passed_of l k ∷ passed_all ls k

pub passed_length : (xs : List Link) (k : ℕ) → length (passed_all xs k) ≡ length xs
passed_length [] k = refl
passed_length (l ∷ ls) k = ap suc (passed_length ls k)

pub all-joins : (xs : List Link) (k : ℕ) → passed_all (passed_all xs 1) k ≡ passed_all xs (suc k)
all-joins [] k = refl
all-joins (l ∷ ls) k = rw (passed-joins l k, all-joins ls k)

-- no tick passed
pub all_none : (xs : List Link) → passed_all xs 0 ≡ xs
all_none [] = refl
all_none (l ∷ ls) = rw (passed_none l, all_none ls)

inside-none : (t : Timer) → inside_after t 0 ≡ Inside t
unfolding inside_after
inside-none t =
    ⊎_elim (λ (h : t.left < 1). rw (le-ltb 0 t.left (omega arith), timer-none t))
    (λ (h : 1 ≤ t.left). rw (lt-leb t.left 0 h, lt-ltb 0 t.left h, timer-none t))
    (cut t.left 1)

before-none : (t : Timer) (length : Quanta) → before_after t length 0 ≡ Before t length
unfolding before_after
before-none t length =
    ⊎_elim (λ (h : t.left < 1). rw (eq-eqb t.left 0 (omega arith), timer-none t))
    (λ (h : 1 ≤ t.left). rw (ne_eqb t.left 0 (omega arith), lt-leb t.left 0 h, timer-none t))
    (cut t.left 1)

pub window-none : (w : Window) → window_after w 0 ≡ w
window-none Idle = refl
window-none (Before t length) = before-none t length
window-none (Inside t) = inside-none t

pub head-none : (h : Head) → head_tick (after_of h 0) ≡ head_tick h
unfolding next_of later_of
head-none h =
    let z : ((h.count.0 + 0) % 2 ^ 32 + 1) % 2 ^ 32 ≡ (h.count.0 + 1) % 2 ^ 32 = omega arith in
    rw (window-none h.window, z)

-- soundness
pub all_sound : (xs : List Link) (k : ℕ) → are_all_sound xs ≡ true → k ≤ quiet_all xs → are_all_sound (passed_all xs k) ≡ true
all_sound [] k s h = refl
all_sound (l ∷ ls) k s h =
    let p = sound-first l ls s in
    rw (passed-sound l k p.0 (omega arith), all_sound ls k p.1 (omega arith))

any-passed : (a : Address) (xs : List Link) (k : ℕ) → any_holds a (passed_all xs k) ≡ any_holds a xs
unfolding holds passed_of
any-passed a [] k = refl
any-passed a (l ∷ ls) k = rw (any-passed a ls k)

pub all-different : (xs : List Link) (k : ℕ) → different (passed_all xs k) ≡ different xs
unfolding passed_of
all-different [] k = refl
all-different (l ∷ ls) k = rw (any-passed l.address ls k, all-different ls k)

-- a leap
pub leap-driven : (k j : ℕ) (xs : List Link) → places (reacted (Event.Leap k)) j xs ≡ places (reacted Event.Tick) j (passed_all xs k)
unfolding places
leap-driven k j [] = refl
leap-driven k j (l ∷ ls) = ap (λ (ms : List Link). reacted Event.Tick j (passed_of l k) ∷ ms) (leap-driven k (suc j) ls)

pub leap-sent : (k : ℕ) (w : Sender) (j : ℕ) (xs : List Link) (st : Output)
    → each (note_link (Event.Leap k) w) j xs st ≡ each (note_link Event.Tick w) j (passed_all xs k) st
unfolding each
leap-sent k w j [] st = refl
leap-sent k w j (l ∷ ls) st = leap-sent k w (suc j) ls (note_link (Event.Leap k) w j l st)
