-- Lemmas: R191 to R195 at the head: so many single ticks, stopping after the first that hands out a frame, are the ticks before the first link
-- rings, passed at once, and one more.
-- Assumes nothing.
use Prim.Native.Nat.{ℕ, zero, suc, ◌+◌, ◌-◌, ◌*◌, ◌/◌, ◌≤◌, ◌<◌, min}
use Rattle.std.specs.Prelude.{Option, None, Some, ◌≡◌, Bool, true, false, cond, ◌&&◌, List, [], ◌∷◌, eqb, ltb, leb}
use Rattle.std.proofs.Math.Path.{refl}
use Rattle.std.proofs.Common.{sym, ap, ◌∙◌, ⊎_elim}
use Rattle.std.proofs.Math.Bool.{and-eq-true_iff}
use native.Mathlib.Omega.{arith}
use borrow.Author.Tests.{lt-ltb, le-leb, leb-true, ne_eqb}
use Rattle.std.proofs.Math.ListN.{length}
use Rattle.frame.specs.declared.Address.{Address}
use Rattle.frame.specs.declared.Body.{Body}
use Rattle.laws.specs.Cases.{either, cut}
use Rattle.laws.specs.Jump.{Jumps, ticks-told, ticks-end, leap-next, turn-next}
use Rattle.laws.specs.Ticks.{ticks}
use Rattle.clock.specs.Counts.{next_of}
use Rattle.clock.specs.Laws.{passed-left, quiet-off, quiet-on, reach-parts}
use Rattle.clock.specs.Numbers.{furthest_advance, is_in_reach}
use Rattle.clock.specs.Timers.{passed_of as timer_passed, quiet_of as timer_quiet}
use Rattle.clock.specs.declared.Timer.{Timer}
use Rattle.frame.specs.Card.{◌unless◌, given}
use Rattle.frame.specs.declared.Reply.{Reply}
use Rattle.frame.specs.declared.Reply.TheVariants as number
use Rattle.head_state.specs.Head.{tick_of as head_tick, sound_of as head_sound, after_of}
use Rattle.head_state.proofs.Laws.{head-tick, head-join}
use Rattle.head_state.specs.declared.Head.{Head}
use Rattle.lent.specs.Folds.{places, each}
use Rattle.head_links.proofs.Laws.{Sends, tick-quiet, tick-sends, quiet-less}
use Rattle.head_links.specs.Pass.{passed_of, quiet_of}
use Rattle.head_links.specs.Tick.{tick_of}
use Rattle.head_links.specs.declared.Link.{Link}
use Rattle.head_links.specs.declared.Stepped.{Stepped}
use Rattle.head_survey.specs.Facts.{is_few, are_all_sound, sound_table, quiet_all}
use Rattle.head_table.specs.Events.{port_of, react_of, reacted}
use Rattle.head_table.specs.Output.{Output, output, pasted, note_of, note_link, message_of}
use Rattle.head_table.specs.declared.Event.{Event}
use Rattle.head_table.specs.declared.Sender.{Sender}
use Rattle.head_plans.specs.Plan.{refused, accepted}
use Rattle.head_plans.specs.declared.Plan.{Plan}
use Rattle.head_judging.specs.Judge.{look_of, leapt, has_room}
use Rattle.head_judging.specs.declared.Call.{Call}
use Rattle.frame_writer.specs.Write.{write_of}
use Rattle.head_calls.specs.Serve.{Served, served, sent_of, done_of, serve_of}
use Rattle.head_laws.specs.Calls.{known, plan-is}
use Rattle.head_laws.specs.Events.{table-parts}
use Rattle.head_laws.specs.Passing.{passed_all, passed_length, all-joins, all_none, head-none, leap-driven, leap-sent}
use Rattle.head_laws.specs.Refusals.{done_refused}
use Rattle.head_laws.specs.Stated.{telling}
use Rattle.head_laws.specs.Sound.{Sound, facts-quiet, call-keeps}
use Rattle.head_laws.specs.Table.{sound-first}
use Rattle.head_laws.specs.Advanced.{still_at, again, is_done, is_silent, Made, out, with_made, advanced_of}

-- ---- the table
all-less : (xs : List Link) → 1 ≤ quiet_all xs → quiet_all xs ≤ suc (quiet_all (passed_all xs 1))
all-less [] h = omega arith
all-less (l ∷ ls) h =
    let a = quiet-less l (omega arith) in
    let b = all-less ls (omega arith) in
    omega arith

-- a timer that runs has just one less to come
timer-falls : (t : Timer) → 1 ≤ timer_quiet t → timer_quiet t < furthest_advance → suc (timer_quiet (timer_passed t 1)) ≤ timer_quiet t
timer-falls t h u =
    let l = passed-left t 1 in
    ⊎_elim (λ (k : t.left < 1).
    let a = quiet-off t (omega arith) in
    absurd (omega arith))
    (λ (k : 1 ≤ t.left).
    let a = quiet-on t k in
    let b = quiet-on (timer_passed t 1) (omega arith) in
    omega arith)
    (cut t.left 1)

-- of two that fall, the smaller does
both-fall : (m a b c d : ℕ) → (a < m → suc c ≤ a) → (b < m → suc d ≤ b) → min a b < m → suc (min c d) ≤ min a b
both-fall m a b c d f g h =
    ⊎_elim (λ (x : a < m).
    let p = f x in
    ⊎_elim (λ (y : b < m).
    let q = g y in
    omega arith) (λ (y : m ≤ b). omega arith) (cut b m))
    (λ (x : m ≤ a).
    ⊎_elim (λ (y : b < m).
    let q = g y in
    omega arith) (λ (y : m ≤ b). absurd (omega arith)) (cut b m))
    (cut a m)

link-falls : (l : Link) → 1 ≤ quiet_of l → quiet_of l < furthest_advance → suc (quiet_of (passed_of l 1)) ≤ quiet_of l
unfolding quiet_of passed_of
link-falls l h u =
    both-fall furthest_advance _ _ _ _ (λ x. timer-falls l.wait (omega arith) x)
    (λ x.
    both-fall furthest_advance _ _ _ _ (λ y. timer-falls l.watchdog (omega arith) y) (λ y. timer-falls l.periodic (omega arith) y) x)
    u

all-falls : (xs : List Link) → 1 ≤ quiet_all xs → quiet_all xs < furthest_advance → suc (quiet_all (passed_all xs 1)) ≤ quiet_all xs
all-falls [] h u = absurd (omega arith)
all-falls (l ∷ ls) h u =
    both-fall furthest_advance _ _ _ _ (λ x. link-falls l (omega arith) x) (λ x. all-falls ls (omega arith) x) u

-- a quiet tick passes every link, and none sends
quiet-driven : (k : ℕ) (xs : List Link) → are_all_sound xs ≡ true → 1 ≤ quiet_all xs → places (reacted Event.Tick) k xs ≡ passed_all xs 1
unfolding places
quiet-driven k [] s h = refl
quiet-driven k (l ∷ ls) s h =
    let p = sound-first l ls s in
    let a = ap (λ (t : Stepped). t.link) (tick-quiet l (port_of k) p.0 (omega arith)) in
    let b = quiet-driven (suc k) ls p.1 (omega arith) in
    ap (λ (m : Link). m ∷ places (reacted Event.Tick) (suc k) ls) a ∙ ap (λ (ms : List Link). passed_of l 1 ∷ ms) b

quiet-sent : (w : Sender) (k : ℕ) (xs : List Link) (st : Output) → are_all_sound xs ≡ true → 1 ≤ quiet_all xs → each (note_link Event.Tick w) k xs st ≡ st
unfolding each
quiet-sent w k [] st s h = refl
quiet-sent w k (l ∷ ls) st s h =
    let p = sound-first l ls s in
    rw (tick-quiet l (port_of k) p.0 (omega arith)) (quiet-sent w (suc k) ls st p.1 (omega arith))

-- ---- frames are never taken back, and the first has room
pasted-more : (st : Output) (f : List ℕ) → st.frames ≤ (pasted st f).frames
unfolding pasted
pasted-more st f =
    either (λ (o : Output). st.frames ≤ o.frames) (ltb st.frames (length st.octets / 60)) _ _ (λ _. omega arith) (λ _. omega arith)

note-more : (w : Sender) (st : Output) (x : Option (Address × Body)) → st.frames ≤ (note_of w st x).frames
note-more w st None = omega arith
note-more w st (Some (a, body)) = pasted-more st (write_of (message_of w a body)).octets

each_more : (e : Event) (w : Sender) (k : ℕ) (xs : List Link) (st : Output) → st.frames ≤ (each (note_link e w) k xs st).frames
unfolding each
each_more e w k [] st = omega arith
each_more e w k (l ∷ ls) st =
    let a = note-more w st (react_of e l k).sent in
    let b = each_more e w (suc k) ls (note_link e w k l st) in
    omega arith

note-some : (w : Sender) (st : Output) (x : Option (Address × Body)) → Sends x → st.frames ≡ 0 → 60 ≤ length st.octets → 1 ≤ (note_of w st x).frames
unfolding pasted
note-some w st None s z h = absurd s
note-some w st (Some (a, body)) s z h = rw (lt-ltb st.frames (length st.octets / 60) (omega arith)) (omega arith)

-- where no quiet tick is left a frame is handed out
first-sent : (w : Sender) (k : ℕ) (xs : List Link) (st : Output) → are_all_sound xs ≡ true → quiet_all xs ≡ 0 → st.frames ≡ 0 → 60 ≤ length st.octets
    → 1 ≤ (each (note_link Event.Tick w) k xs st).frames
unfolding each
first-sent w k [] st s q z h = absurd (omega arith)
first-sent w k (l ∷ ls) st s q z h =
    let p = sound-first l ls s in
    ⊎_elim (λ (o : quiet_of l < 1).
    let a = note-some w st (tick_of l (port_of k)).sent (tick-sends l (port_of k) p.0 (omega arith)) z h in
    let b = each_more Event.Tick w (suc k) ls (note_link Event.Tick w k l st) in
    omega arith)
    (λ (o : 1 ≤ quiet_of l).
    let a = ap (λ (t : Stepped). (each (note_link Event.Tick w) (suc k) ls (note_of w st t.sent)).frames) (tick-quiet l (port_of k) p.0 o) in
    let b = first-sent w (suc k) ls st p.1 (omega arith) z h in
    omega arith)
    (cut (quiet_of l) 1)

few-some : (n m : ℕ) → is_few n ≡ true → 60 * n ≤ m → 60 ≤ m
unfolding is_few
few-some n m f h =
    let p = leb-true 1 n ((and-eq-true_iff (leb 1 n) (leb n 64)).0 f).0 in
    omega arith

-- ---- a call
unfoldable pub leap_of : ℕ → Served → Served
leap_of k s = cond (eqb k 0) s (still_at (after_of s.answer.next k) (passed_all s.table k) s.octets)

-- neither 13 nor 12 is answered
pub record Ready (s : Served) : Type 0 where
  pub sound : Sound s.answer.next s.table
  pub room : has_room (length s.table) (length s.octets) ≡ true

abbrev ready_test : Served → Bool
ready_test s = head_sound s.answer.next && sound_table s.table && has_room (length s.table) (length s.octets)

unfoldable pub quiet_after : Served → ℕ
quiet_after s = cond (ready_test s) (quiet_all s.table) 0

ready_of : (s : Served) → ready_test s ≡ true → Ready s
ready_of s h =
    let p = (and-eq-true_iff (head_sound s.answer.next && sound_table s.table) (has_room (length s.table) (length s.octets))).0 h in
    let q = (and-eq-true_iff (head_sound s.answer.next) (sound_table s.table)).0 p.0 in
    record { sound = record { head = q.0; table = q.1 }; room = p.1 }

quiet-ready : (s : Served) → 1 ≤ quiet_after s → Ready s
unfolding quiet_after
quiet-ready s =
    either (λ (n : ℕ). 1 ≤ n → Ready s) (ready_test s) (quiet_all s.table) 0 (λ e _. ready_of s e) (λ _ h. absurd (omega arith))

quiet_is : (s : Served) → Ready s → quiet_after s ≡ quiet_all s.table
unfolding quiet_after
quiet_is s r = rw (r.sound.head, r.sound.table, r.room)

module _ (s : Served) (r : Ready s) where
  links-sound : are_all_sound s.table ≡ true
  links-sound = (table-parts s.table r.sound.table).1

  tick-serve : again s ≡ done_of (accepted (head_tick s.answer.next) Event.Tick) s.table s.octets
  unfolding serve_of
  tick-serve = rw (plan-is s.answer.next s.table Call.Tick (length s.octets), r.sound.head, r.sound.table, r.room)

  tick-done : is_done (again s) ≡ true
  unfolding is_done done_of
  tick-done = rw tick-serve

  -- the first law
  tick-one : 1 ≤ quiet_all s.table → again s ≡ leap_of 1 s
  unfolding done_of sent_of leap_of
  tick-one q =
      let w : Sender = record { source = s.answer.next.address; timestamp = next_of s.answer.next.count } in
      rw (tick-serve, quiet-sent w 1 s.table (output s.octets 0) links-sound q, quiet-driven 1 s.table links-sound q, head-tick s.answer.next)

  leap-ready : 1 ≤ quiet_all s.table → Ready (leap_of 1 s)
  unfolding leap_of
  leap-ready q =
      record {
        sound = rw (tick-one q) at (call-keeps s.answer.next s.table Call.Tick s.octets r.sound);
        room = rw (passed_length s.table 1) r.room;
      }

  -- where no quiet tick is left, the next is not silent
  pub tick-told : quiet_all s.table ≡ 0 → is_silent (again s) ≡ false
  unfolding is_silent done_of sent_of has_room
  tick-told q =
      let w : Sender = record { source = s.answer.next.address; timestamp = next_of s.answer.next.count } in
      let few = (table-parts s.table r.sound.table).0 in
      let some : 60 ≤ length s.octets = octets few (leb-true _ _ r.room) in
      let sent = first-sent w 1 s.table (output s.octets 0) links-sound q refl some in
      rw tick-serve (rw (ne_eqb _ 0 (positive sent)))
    where
      positive : {n : ℕ} → 1 ≤ n → n ≡ 0 → ⊥
      positive h e = omega arith

      octets : is_few (length s.table) ≡ true → 60 * length s.table ≤ length s.octets → 60 ≤ length s.octets
      octets f h = few-some (length s.table) (length s.octets) f h

leap-some : (k : ℕ) (s : Served) → leap_of (suc k) s ≡ still_at (after_of s.answer.next (suc k)) (passed_all s.table (suc k)) s.octets
unfolding leap_of
leap-some k s = rw (ne_eqb (suc k) 0 (omega arith))

leaps-join : (k : ℕ) (s : Served) → leap_of k (leap_of 1 s) ≡ leap_of (suc k) s
unfolding leap_of
leaps-join zero s = refl
leaps-join (suc k) s =
    leap-some k (leap_of 1 s)
    ∙ rw (head-join s.answer.next (suc k), all-joins s.table (suc k)) (sym (leap-some (suc k) s))

leap-table : (s : Served) → (leap_of 1 s).table ≡ passed_all s.table 1
unfolding leap_of
leap-table s = refl

-- so the head can jump
pub head-jumps : Jumps again is_done is_silent out leap_of quiet_after
unfolding leap_of is_done is_silent
head-jumps =
    record {
      none = λ s. refl;
      one = λ s h. (one s h, refl, refl);
      joined = leaps-join;
      falls = falls;
    }
  where
    one : (s : Served) → 1 ≤ quiet_after s → again s ≡ leap_of 1 s
    one s h =
        let r = quiet-ready s h in
        tick-one s r (rw (quiet_is s r) at h)

    falls : (s : Served) → 1 ≤ quiet_after s → quiet_after s ≤ suc (quiet_after (leap_of 1 s))
    falls s h =
        let r = quiet-ready s h in
        let q : 1 ≤ quiet_all s.table = rw (quiet_is s r) at h in
        rw (quiet_is s r, quiet_is (leap_of 1 s) (leap-ready s r q)) (all-less s.table q)

-- what is so after k quiet ticks
pub record Reached (k : ℕ) (s t : Served) : Type 0 where
  pub ready : Ready t
  pub left : quiet_all s.table < furthest_advance → quiet_all t.table + k ≡ quiet_all s.table

pub reach : (k : ℕ) (s : Served) → Ready s → k ≤ quiet_all s.table → Reached k s (leap_of k s)
unfolding leap_of
reach zero s r h = record { ready = r; left = λ _. omega arith }
reach (suc k) s r h =
    let q : 1 ≤ quiet_all s.table = omega arith in
    let e = leap-table s in
    let a = all-less s.table q in
    let p = reach k (leap_of 1 s) (leap-ready s r q) (omega arith) in
    rw (← leaps-join k s)
    (record {
      ready = p.ready;
      left =
          λ (u : quiet_all s.table < furthest_advance).
          let b = all-falls s.table q u in
          let c = p.left (omega arith) in
          omega arith;
    })

-- the theorem: of n single ticks the head makes those before the first link rings, and one more, unless n are made before
module _ (h : Head) (xs : List Link) (os : List ℕ) (r : Ready (still_at h xs os)) (n : ℕ) (lo : 1 ≤ n) (hi : n ≤ furthest_advance) where
  abbrev pub passing : ℕ
  passing = min (quiet_all xs) (n - 1)

  abbrev pub ending : Served
  ending = again (leap_of passing (still_at h xs os))

  begins : ticks again is_done is_silent out n (still_at h xs os) 0 ≡ ticks again is_done is_silent out (n - (passing + 1)) ending (passing + 1)
  unfolding is_silent
  begins =
      let s = still_at h xs os in
      let c : Reached passing s (leap_of passing s) = reach passing s r (omega arith) in
      let z : n - 0 ≡ n = omega arith in
      let y : 0 + passing ≡ passing = omega arith in
      rw (z, y) at (turn-next again is_done is_silent out leap_of quiet_after head-jumps n 0 passing s refl (rw (quiet_is s r) (omega arith)) (omega arith) ending refl
      (tick-done (leap_of passing s) c.ready))

  pub advance-is-ticks : ticks again is_done is_silent out n (still_at h xs os) 0 ≡ out ending (passing + 1)
  advance-is-ticks =
      let s = still_at h xs os in
      let c : Reached passing s (leap_of passing s) = reach passing s r (omega arith) in
      begins ∙
      ⊎_elim (λ (u : quiet_all xs < n - 1).
      let l = c.left (omega arith) in
      ticks-told again is_done is_silent out (n - (passing + 1)) (passing + 1) ending
      (tick-told (leap_of passing s) c.ready (omega arith)))
      (λ (u : n - 1 ≤ quiet_all xs). ticks-end again is_done is_silent out (n - (passing + 1)) (passing + 1) ending (omega arith))
      (cut (quiet_all xs) (n - 1))

  -- the call
  ends : (k : ℕ) → Ready (leap_of k (still_at h xs os))
      → again (leap_of k (still_at h xs os)) ≡ done_of (accepted (head_tick (after_of h k)) Event.Tick) (passed_all xs k) os
  unfolding leap_of
  ends zero c = tick-serve (still_at h xs os) c ∙ rw (head-none h, all_none xs)
  ends (suc k) c =
      let e = leap-some k (still_at h xs os) in
      rw e (tick-serve (still_at (after_of h (suc k)) (passed_all xs (suc k)) os) (rw e at c))

  leapt-is : (k : ℕ) → done_of (leapt h k) xs os ≡ with_made (k + 1) (done_of (accepted (head_tick (after_of h k)) Event.Tick) (passed_all xs k) os)
  unfolding done_of sent_of
  leapt-is k =
      let w : Sender = record { source = h.address; timestamp = next_of (after_of h k).count } in
      rw (leap-driven k 1 xs, leap-sent k w 1 xs (output os 0))

  pub serve-advance : serve_of h xs (Call.Advance n) os ≡ with_made (passing + 1) ending
  unfolding serve_of is_in_reach
  serve-advance =
      let s = still_at h xs os in
      let few = (table-parts xs r.sound.table).0 in
      let c : Reached passing s (leap_of passing s) = reach passing s r (omega arith) in
      rw (
        plan-is h xs (Call.Advance n) (length os),
        r.sound.head,
        r.sound.table,
        r.room,
        le-leb 1 n lo,
        le-leb n furthest_advance hi,
        facts-quiet xs (look_of (Call.Advance n)) few,
        ends passing c.ready,
      )
      (leapt-is passing)

-- the call is answered as the page has it, whatever is handed in
module _ (h : Head) (xs : List Link) (n : ℕ) (os : List ℕ) where
  abbrev refusal : Reply → Served
  refusal x = served (telling x h) xs os

  abbrev tested : Bool → Bool → Bool → Served → Served
  tested s k i r = given (number.Unsound unless s ∷ number.Output unless k ∷ number.Grant unless i ∷ []) refusal r

  abbrev leaping : Plan
  leaping = leapt h (min (known xs (Call.Advance n)).quiet (n - 1))

  abbrev last : Served
  last = let m = ticks again is_done is_silent out n (still_at h xs os) 0 in with_made m.made m.last

  pick : (s k i : Bool) → done_of (given (number.Unsound unless s ∷ number.Output unless k ∷ number.Grant unless i ∷ []) (refused h) leaping) xs os
      ≡ tested s k i (done_of leaping xs os)
  pick false k i = done_refused h number.Unsound xs os
  pick true false i = done_refused h number.Output xs os
  pick true true false = done_refused h number.Grant xs os
  pick true true true = refl

  as-planned : serve_of h xs (Call.Advance n) os
      ≡ tested (head_sound h && sound_table xs) (has_room (length xs) (length os)) (is_in_reach n) (done_of leaping xs os)
  unfolding serve_of
  as-planned =
      rw (plan-is h xs (Call.Advance n) (length os)) (pick (head_sound h && sound_table xs) (has_room (length xs) (length os)) (is_in_reach n))

  as-made : (s : Bool) → (head_sound h && sound_table xs) ≡ s → (k : Bool) → has_room (length xs) (length os) ≡ k → (i : Bool) → is_in_reach n ≡ i
      → tested s k i (done_of leaping xs os) ≡ tested s k i last
  as-made false e k f i g = refl
  as-made true e false f i g = refl
  as-made true e true f false g = refl
  as-made true e true f true g =
      let p = reach-parts n g in
      let r = ready_of (still_at h xs os) (rw (e, f)) in
      sym (rw (e, f, g) at as-planned)
      ∙ serve-advance h xs os r n p.0 p.1
      ∙ ap (λ (m : Made). with_made m.made m.last) (sym (advance-is-ticks h xs os r n p.0 p.1))

  pub advance-page : serve_of h xs (Call.Advance n) os ≡ advanced_of h xs n os
  unfolding advanced_of
  advance-page = as-planned ∙ as-made (head_sound h && sound_table xs) refl (has_room (length xs) (length os)) refl (is_in_reach n) refl

-- quiet ticks, one and many
module _ (h : Head) (xs : List Link) (os : List ℕ) (r : Ready (still_at h xs os)) where
  pub quiet-tick : 1 ≤ quiet_all xs → serve_of h xs Call.Tick os ≡ still_at (after_of h 1) (passed_all xs 1) os
  unfolding leap_of
  quiet-tick q = tick-one (still_at h xs os) r q

  pub quiet-advance : (n : ℕ) → is_in_reach n ≡ true → n ≤ quiet_all xs
      → serve_of h xs (Call.Advance n) os ≡ with_made n (still_at (after_of h n) (passed_all xs n) os)
  quiet-advance n i q =
      let s = still_at h xs os in
      let p = reach-parts n i in
      some n p.0 q p.1
    where
      some : (k : ℕ) → 1 ≤ k → k ≤ quiet_all xs → k ≤ furthest_advance
          → serve_of h xs (Call.Advance k) os ≡ with_made k (still_at (after_of h k) (passed_all xs k) os)
      some zero l q u = absurd (omega arith)
      some (suc k) l q u =
          let s = still_at h xs os in
          let e : min (quiet_all xs) (suc k - 1) ≡ k = omega arith in
          let d : k + 1 ≡ suc k = omega arith in
          let f = leap-next again is_done is_silent out leap_of quiet_after head-jumps k s (rw (quiet_is s r) q) ∙ leap-some k s in
          rw (e, d, f) at (serve-advance h xs os r (suc k) l u)
