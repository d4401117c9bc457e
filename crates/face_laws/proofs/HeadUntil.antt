-- Ticks of the head in the words that are sure to hand out nothing, and the one after them, which hands out a frame.
-- Assumes nothing.
use Prim.Native.Nat.{ℕ, ◌+◌, ◌-◌, ◌*◌, ◌≤◌, ◌<◌, min}
use mathlib.Core.Path.{◌≡◌, sym, ap, subst, ◌∙◌}
use mathlib.Core.Bool.{true, false, ◌&&◌, and-eq-true_iff, true≢false}
use mathlib.Core.List.{List, [], ◌∷◌}
use native.Mathlib.Omega.{arith}
use borrow.Author.Tests.{leb-true, le-leb, eq-eqb}
use lib.Dec.{leb}
use lib.ListN.{length, replicate, get_or, length-replicate}
use mathlib.Core.Logic.{⊎_elim}
use Rattle.laws.specs.Cases.{either, cut}
use Rattle.clock.specs.Numbers.{furthest_advance}
use Rattle.frame.specs.Card.{number_of}
use Rattle.frame.specs.declared.Reply.TheVariants.{Done}
use Rattle.head_state.specs.Head.{sound_of}
use Rattle.head_state.specs.declared.Head.{Head}
use Rattle.head_links.specs.declared.Link.{Link}
use Rattle.head_survey.specs.Facts.{sound_table, quiet_all}
use Rattle.head_judging.specs.Judge.{has_room}
use Rattle.head_judging.specs.declared.Call.{Call}
use Rattle.head_plans.specs.Plan.{quiet}
use Rattle.head_plans.specs.declared.Notice.{Notice}
use Rattle.head_plans.specs.declared.Plan.{Plan}
use Rattle.head_calls.specs.Serve.{Served, serve_of, done_of}
use Rattle.head_laws.specs.Advance.{Ready, leap_of, reach, tick-told, serve-advance, quiet-advance}
use Rattle.head_laws.specs.Advanced.{still_at, again, is_silent, is_none, with_made}
use Rattle.head_laws.specs.Refusals.{call-reply, call-accepted}
use Rattle.face_words.specs.Words.{laid}
use Rattle.face_head.proofs.Laws.{length-links}
use Rattle.face_head.specs.Table.{links_in, links_at}
use Rattle.face_head.specs.Told.{notice_words, told_words}
use Rattle.face_head_calls.specs.Calls.{Left, AdvanceLeft, advance_left, head_at, handed, served_of, advance_call, quiet_of, until_call}
use Rattle.face_laws.specs.Head.{HeadJudged, HeadRepacked}
use Rattle.face_laws.specs.Until.{HeadPasses, HeadUntil, HeadUntilSound, HeadSends, HeadUntilEnds}
use Rattle.face_laws.proofs.BoxUntil.{in_reach}
use Rattle.face_laws.proofs.HeadAdvance.{as-request, as-handed}
use Rattle.face_laws.proofs.HeadCalls.{told-number}
use Rattle.face_laws.proofs.HeadStands.{enough, head-judged, head-repacked}

table-far : (xs : List Link) → quiet_all xs ≤ furthest_advance
table-far [] = omega arith
table-far (l ∷ ls) = let f = table-far ls in omega arith

until-far : (head links : List ℕ) → until_call head links ≤ 65536
unfolding until_call quiet_of
until-far head links =
    either (λ (n : ℕ). n ≤ 65536) (leb 5 (length head)) _ _
    (λ _. either (λ (n : ℕ). n ≤ 65536) (sound_of (head_at head) && sound_table (links_at links)) _ _ (λ _. table-far (links_at links)) (λ _. omega arith))
    (λ _. omega arith)

-- where there are such ticks the head and the table are sound
record Calm (head links : List ℕ) : Type 0 where
  long : 5 ≤ length head
  sound : (sound_of (head_at head) && sound_table (links_at links)) ≡ true
  many : until_call head links ≡ quiet_all (links_at links)

calm_of : (head links : List ℕ) → 5 ≤ length head → (sound_of (head_at head) && sound_table (links_at links)) ≡ true → Calm head links
unfolding until_call quiet_of
calm_of head links h s = record { long = h; sound = s; many = rw (le-leb 5 (length head) h, s) }

calm : (head links : List ℕ) → 1 ≤ until_call head links → Calm head links
unfolding until_call quiet_of
calm head links =
    either (λ (n : ℕ). 1 ≤ n → Calm head links) (leb 5 (length head)) _ _
    (λ e. either (λ (n : ℕ). 1 ≤ n → Calm head links) (sound_of (head_at head) && sound_table (links_at links)) _ _
    (λ s _. calm_of head links (leb-true 5 (length head) e) s)
    (λ _ h. absurd (omega arith)))
    (λ _ h. absurd (omega arith))

module _ (head links output reply made : List ℕ) (c : Calm head links) (room : 60 * links_in (length links) ≤ length output)
    (a : 10 ≤ length reply) (d : 1 ≤ length made) where
  abbrev h : Head
  h = head_at head

  abbrev xs : List Link
  xs = links_at links

  ready : Ready (still_at h xs output)
  unfolding has_room
  ready =
      let s = (and-eq-true_iff (sound_of h) (sound_table xs)).0 c.sound in
      let n : length xs ≡ links_in (length links) = length-links (links_in (length links)) links in
      record {
        sound = record { head = s.0; table = s.1 };
        room = le-leb (60 * length xs) (length output) (rw n room);
      }

  call-is : (k : ℕ) (x : Served) → serve_of h xs (Call.Advance k) output ≡ x
      → advance_call k head links output reply made ≡ advance_left (handed x head links reply) (laid (x.answer.made ∷ []) made)
  call-is k x e = as-handed k head links output reply made (enough head reply c.long a) (le-leb 1 (length made) d) x e

  passes : (k : ℕ) → 1 ≤ k → k ≤ until_call head links → HeadPasses k head links output reply made
  unfolding handed told_words notice_words
  passes k lo hi =
      let q : k ≤ quiet_all xs = omega (arith, c.many) in
      let i = in_reach k lo (omega (arith, table-far xs)) in
      let is = call-is k _ (quiet-advance h xs output ready k i q) in
      record {
        done = ap (λ (l : AdvanceLeft). l.call.number) is;
        all_made = ap (λ (l : AdvanceLeft). l.made) is;
        no-frame = ap (λ (l : AdvanceLeft). l.call.output) is;
        nothing-told = ap (λ (l : AdvanceLeft). l.call.reply) is;
      }

  -- the tick after them
  module _ (less : quiet_all xs < furthest_advance) where
    abbrev u : ℕ
    u = quiet_all xs

    abbrev t : Served
    t = leap_of u (still_at h xs output)

    last-ready : Ready t
    last-ready = (reach u (still_at h xs output) ready (omega arith)).ready

    none_left : quiet_all t.table ≡ 0
    none_left = let k = (reach u (still_at h xs output) ready (omega arith)).left less in omega arith

    told : is_silent (again t) ≡ false
    told = tick-told t last-ready none_left

    last_done : (again t).answer.reply ≡ Done
    last_done =
        call-reply t.answer.next t.table Call.Tick t.octets
        ∙ rw (last-ready.sound.head, last-ready.sound.table, last-ready.room)

    -- a tick gives no notice
    last-notice : (again t).answer.notice ≡ quiet
    unfolding serve_of done_of
    last-notice = ap (λ (p : Plan). p.notice) (call-accepted t.answer.next t.table Call.Tick t.octets last_done).plan

    some-frame : 1 ≤ (again t).answer.frames
    unfolding is_silent
    some-frame =
        ⊎_elim
        (λ (z : (again t).answer.frames < 1).
        let silent : is_silent (again t) ≡ true =
        rw (eq-eqb (again t).answer.frames 0 (omega arith)) (ap (λ (n : Notice). is_none n.kind) last-notice) in
        absurd (true≢false (sym silent ∙ told)))
        (λ (z : 1 ≤ (again t).answer.frames). z)
        (cut (again t).answer.frames 1)

    sends : HeadSends u head links output reply made
    unfolding handed
    sends =
        let n : min u (u + 1 - 1) ≡ u = omega arith in
        let y : serve_of h xs (Call.Advance (u + 1)) output ≡ with_made (u + 1) (again t) =
        rw n at (serve-advance h xs output ready (u + 1) (omega arith) (omega arith)) in
        let is = call-is (u + 1) _ y in
        record {
          done = ap (λ (l : AdvanceLeft). l.call.number) is ∙ ap number_of last_done;
          all_made = ap (λ (l : AdvanceLeft). l.made) is;
          a-frame =
              let f : get_or (advance_call (u + 1) head links output reply made).call.reply 0 0 ≡ (again t).answer.frames =
              ap (λ (l : AdvanceLeft). get_or l.call.reply 0 0) is ∙ told-number (with_made (u + 1) (again t)).answer reply a in
              omega (arith, f, some-frame);
        }

pub head-until : HeadUntil
unfolding HeadUntil
head-until head links =
    (until-far head links, λ output reply made k room a d lo hi. passes head links output reply made (calm head links (omega arith)) room a d k lo hi)

-- an advance by one, in memory of its own, is not 13
pub head-until-sound : HeadUntilSound
unfolding HeadUntilSound HeadJudged
head-until-sound head links some =
    let c = calm head links some in
    let output : List ℕ = replicate (60 * links_in (length links)) 0 in
    let reply : List ℕ = replicate 10 0 in
    let made : List ℕ = 0 ∷ [] in
    let room : 60 * links_in (length links) ≤ length output = omega (arith, length-replicate {A = ℕ} (60 * links_in (length links)) 0) in
    let p = passes head links output reply made c room (omega arith) (omega arith) 1 (omega arith) some in
    let is = as-request 1 head links output reply made (le-leb 1 (length made) (omega arith)) in
    (head-judged (Call.Advance 1) head links output reply c.long (omega arith)).1
    (λ (z : (served_of (Call.Advance 1) head links output reply).number ≡ 13). omega (arith, p.done, ap (λ (l : Left). l.number) is, z))

pub head-until-ends : HeadUntilEnds
unfolding HeadUntilEnds HeadRepacked
head-until-ends head links output reply made s h room a d less =
    let r = head-repacked head links s in
    let sound : (sound_of (head_at head) && sound_table (links_at links)) ≡ true =
    rw (ap sound_of r.its ∙ s.its-sound, ap sound_table r.table ∙ s.table-sound) in
    let c = calm_of head links h sound in
    subst (λ (n : ℕ). HeadSends n head links output reply made) (sym c.many) (sends head links output reply made c room a d (omega (arith, c.many, less)))
