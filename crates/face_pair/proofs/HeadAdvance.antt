-- An advance of the head over words that a run left is the single ticks that it made, each over the words that the last one left.
-- Assumes nothing.
use Prim.Native.Nat.{ℕ, zero, suc, ◌+◌, ◌-◌, ◌*◌, ◌≤◌, ◌<◌, min}
use mathlib.Core.Path.{◌≡◌, refl, sym, ap, subst, ◌∙◌}
use mathlib.Core.Bool.{Bool, true, false, cond}
use mathlib.Core.List.{List, [], ◌∷◌}
use mathlib.Core.Logic.{◌≢◌, ⊎_elim}
use native.Mathlib.Omega.{arith}
use borrow.Author.Tests.{leb-true, ne_eqb}
use lib.Dec.{eqb, leb}
use lib.ListN.{length, take, replicate, get_or}
use Rattle.laws.specs.Cases.{decided}
use Rattle.laws.specs.Jump.{leap-next}
use Rattle.clock.specs.Laws.{reach-parts}
use Rattle.clock.specs.Numbers.{is_in_reach}
use Rattle.frame.specs.Card.{number_of}
use Rattle.frame.specs.declared.Address.{Address}
use Rattle.frame.specs.declared.Reply.TheVariants.{Done, Output}
use Rattle.head_state.specs.declared.Head.{Head as Core}
use Rattle.head_links.specs.Link.{is_held}
use Rattle.head_links.specs.Pass.{passed_of}
use Rattle.head_links.specs.declared.Link.{Link}
use Rattle.head_survey.specs.Facts.{link_from, quiet_all}
use Rattle.head_judging.specs.Judge.{has_room}
use Rattle.head_judging.specs.declared.Call.{Call}
use Rattle.head_calls.specs.Fresh.{is_done}
use Rattle.head_calls.specs.Serve.{Served, serve_of}
use Rattle.head_laws.specs.Advance.{Ready, leap_of, quiet_after, head-jumps, serve-advance}
use Rattle.head_laws.specs.Advanced as advanced
use Rattle.head_laws.specs.Advanced.{still_at, again, out}
use Rattle.head_laws.specs.Passing.{passed_all, passed_length, all_none}
use Rattle.head_laws.specs.Runs.{run_sound, run-never-unsound, run-tick}
use Rattle.head_laws.specs.Stated.{Run, calls}
use Rattle.head_laws.specs.Sound.{call_length}
use Rattle.face_words.specs.Laws.{laid-whole}
use Rattle.face_words.specs.Words.{laid}
use Rattle.pair_demand.specs.Run as run
use Rattle.pair_demand.specs.Singly.{untold, Alike, Singly}
use Rattle.pair_demand.proofs.Small.{carried}
use Rattle.pair_head.specs.End.{HeadState, frames_in, link_at}
use Rattle.face_head.specs.Head.{head_words}
use Rattle.face_head.proofs.Laws.{links-few, length-links, length-table}
use Rattle.face_head.specs.Table.{table_words, links_in, links_at}
use Rattle.face_head_calls.specs.Calls.{Left, AdvanceLeft, advance_left, head_at, is_lent, laid_head, kept_head, kept_links, handed}
use Rattle.face_laws.proofs.HeadAdvance.{as-request, as_short, as-handed, narrow, far}
use Rattle.face_laws.proofs.HeadCalls.{is-handed}
use Rattle.face_pair.specs.Advances.{HeadAsked, head_advance, HeadAdvances}
use Rattle.face_pair.specs.Head.{Words, state_at, Lent, answered, served, HeadWords}
use Rattle.face_pair.proofs.Head.{Good, over-is, laid-good, short, number_is, sent_is}
use Rattle.face_pair.proofs.Laid.{length-laid, laid-twice, laid-own, first_word}
use Rattle.face_pair.proofs.Read.{head-tells}

-- what passes keeps every link's address and state
passed-link : (n k i : ℕ) (xs : List Link)
    → ((link_from n k (passed_all xs i)).state ≡ (link_from n k xs).state) × ((link_from n k (passed_all xs i)).address ≡ (link_from n k xs).address)
unfolding passed_of
passed-link n k i [] = (refl, refl)
passed-link n k i (x ∷ xs) =
    let more = passed-link n (suc k) i xs in
    ⊎_elim (λ (e : eqb k n ≡ true). rw e (refl, refl)) (λ (e : eqb k n ≡ false). rw e more) (decided (eqb k n))

-- and so what the words tell
alike : (A : Address) (w t : Words) → Good w → Good t → ((n : ℕ) → ((link_at (state_at t) n).state ≡ (link_at (state_at w) n).state) × ((link_at (state_at t) n).address ≡ (link_at (state_at w) n).address))
    → Alike (HeadWords A) w t
alike A w t g h u =
    record {
      held = λ n.
          let x = (u n).0 in
          let y = (u n).1 in
          carried ((head-tells A).held w g n) ((head-tells A).held t h n)
          ((λ k. (ap is_held x ∙ k.0, y ∙ k.1)), (λ k. (ap is_held (sym x) ∙ k.0, sym y ∙ k.1)));
      registered = λ n.
          let x = (u n).0 in
          let y = (u n).1 in
          carried ((head-tells A).registered w g n) ((head-tells A).registered t h n)
          ((λ k. (x ∙ k.0, y ∙ k.1)), (λ k. (sym x ∙ k.0, sym y ∙ k.1)));
      waiting = λ n.
          let x = (u n).0 in
          carried ((head-tells A).waiting w g n) ((head-tells A).waiting t h n) ((λ k. x ∙ k), (λ k. sym x ∙ k));
    }

-- an answer of the core, laid over words
abbrev shown_in : Words → Served → run.Answer Words (List ℕ)
shown_in w t =
    record {
      reply = number_of t.answer.reply;
      next = record { head = laid (head_words t.answer.next) w.head; links = laid (table_words t.table) w.links };
      sent = frames_in t.answer.frames t.octets;
    }

-- is what a request leaves that is done
module _ (r : Call) (w : Words) (l : Lent) (e : is_lent (length w.head) (length l.reply) ≡ true) where
  abbrev x : Served
  x = serve_of (head_at w.head) (links_at w.links) r l.output

  laid-is : is_done x.answer.reply ≡ true → answered (served w r l) ≡ shown_in w x
  unfolding handed kept_head kept_links laid_head
  laid-is n =
      let at = is-handed r w.head w.links l.output l.reply e in
      let m : (served w r l).number ≡ number_of x.answer.reply = ap (λ (y : Left). y.number) at in
      let h : (served w r l).head ≡ laid (head_words x.answer.next) w.head = ap (λ (y : Left). y.head) at ∙ rw n in
      let k : (served w r l).links ≡ laid (table_words x.table) w.links = ap (λ (y : Left). y.links) at ∙ rw n in
      rw (sent_is r w l e, m, h, k)

head-size : (h : Core) → length (head_words h) ≡ 5
unfolding head_words
head-size h = refl

module _ (A : Address) (w : Words) (g : Good w) (l : Lent) where
  abbrev number : ℕ
  number = links_in (length w.links)

  abbrev xs : List Link
  xs = links_at w.links

  -- before the first tick
  abbrev s : Served
  s = still_at (head_at w.head) xs l.output

  abbrev shown : Served → run.Answer Words (List ℕ)
  shown t = shown_in w t

  -- single ticks over words that are like the first
  abbrev Chain : ℕ → run.Answer Words (List ℕ) → run.Answer Words (List ℕ) → Type 0
  Chain k a b = Singly (HeadWords A) (Alike (HeadWords A) w) l k a b

  shown-start : shown s ≡ untold (HeadWords A) w
  shown-start =
      let front : take 5 w.head ≡ head_words (head_at w.head) = sym (laid-whole w.head (replicate 5 0) g.room) ∙ g.head-packed in
      let size : length (table_words xs) ≡ 5 * number = length-table xs ∙ ap (λ (k : ℕ). 5 * k) (length-links number w.links) in
      let h : laid (head_words (head_at w.head)) w.head ≡ w.head = laid-own (head_words (head_at w.head)) w.head 5 (head-size (head_at w.head)) g.room front in
      let k : laid (table_words xs) w.links ≡ w.links = laid-own (table_words xs) w.links (5 * number) size (links-few (length w.links)).1 g.links-packed in
      rw (h, k)

  module _ (e : is_lent (length w.head) (length l.reply) ≡ true) (room : leb (60 * length xs) (length l.output) ≡ true) where
    ready : Ready s
    unfolding has_room
    ready = record { sound = run_sound g.reached; room = room }

    -- what holds on the way
    record Fine (t : Served) : Type 0 where
      reached : Run t.answer.next t.table
      many : length t.table ≡ length xs
      octets : t.octets ≡ l.output

    module _ (t : Served) (f : Fine t) where
      abbrev at : Words
      at = (shown t).next

      as_many : length t.table ≡ number
      as_many = f.many ∙ length-links number w.links

      at-is : state_at at ≡ record { head = t.answer.next; table = t.table }
      at-is = over-is f.reached w g.room as_many

      at-good : Good at
      at-good = laid-good f.reached w g.room as_many

      next-done : (again t).answer.reply ≡ Done
      next-done =
          run-tick f.reached t.octets
          ∙ ap (λ (k : Bool). cond k Done Output) (ap (λ (n : ℕ). leb (60 * n) (length t.octets)) f.many ∙ ap (λ (o : List ℕ). leb (60 * length xs) (length o)) f.octets ∙ room)

      -- a tick over the words of one is the next
      ticked : (HeadWords A).tick at l ≡ shown (again t)
      ticked =
          let y = again t in
          let u : is_lent (length at.head) (length l.reply) ≡ true =
          ap (λ (k : ℕ). is_lent k (length l.reply)) (length-laid (head_words t.answer.next) w.head) ∙ e in
          let same : serve_of (head_at at.head) (links_at at.links) Call.Tick l.output ≡ y =
          ap (λ (z : HeadState). serve_of z.head z.table Call.Tick l.output) at-is
          ∙ ap (λ (o : List ℕ). serve_of t.answer.next t.table Call.Tick o) (sym f.octets) in
          let d : is_done (serve_of (head_at at.head) (links_at at.links) Call.Tick l.output).answer.reply ≡ true =
          ap (λ (z : Served). is_done z.answer.reply) same ∙ ap is_done next-done in
          let a = length-table t.table ∙ ap (λ (k : ℕ). 5 * k) as_many in
          let b = length-table y.table ∙ ap (λ (k : ℕ). 5 * k) (call_length t.answer.next t.table Call.Tick t.octets) ∙ sym (length-table t.table) in
          let h : laid (head_words y.answer.next) at.head ≡ laid (head_words y.answer.next) w.head =
          laid-twice (head_words y.answer.next) (head_words t.answer.next) w.head (head-size y.answer.next ∙ sym (head-size t.answer.next))
          (omega (arith, head-size t.answer.next, g.room)) in
          let k : laid (table_words y.table) at.links ≡ laid (table_words y.table) w.links =
          laid-twice (table_words y.table) (table_words t.table) w.links b (omega (arith, a, (links-few (length w.links)).1)) in
          laid-is Call.Tick at l u d ∙ ap (shown_in at) same ∙ rw (h, k)

    -- quiet ticks
    leap-is : (j : ℕ) → leap_of j s ≡ still_at (leap_of j s).answer.next (passed_all xs j) l.output
    unfolding leap_of
    leap-is zero = rw (all_none xs)
    leap-is (suc j) = rw (ne_eqb (suc j) 0 (omega arith))

    quiet_is : quiet_after s ≡ quiet_all xs
    unfolding quiet_after
    quiet_is = rw (ready.sound.head, ready.sound.table, ready.room)

    leap-on : (j : ℕ) → j < quiet_all xs → again (leap_of j s) ≡ leap_of (suc j) s
    leap-on j h = leap-next again advanced.is_done advanced.is_silent out leap_of quiet_after head-jumps j s (rw quiet_is h)

    leap-run : (j : ℕ) → j ≤ quiet_all xs → Run (leap_of j s).answer.next (leap_of j s).table
    unfolding leap_of
    leap-run zero h = g.reached
    leap-run (suc j) h =
        subst (λ (t : Served). Run t.answer.next t.table) (leap-on j (omega arith))
        (calls (leap_of j s).answer.next (leap_of j s).table (leap-run j (omega arith)) Call.Tick (leap_of j s).octets)

    leap-fine : (j : ℕ) → j ≤ quiet_all xs → Fine (leap_of j s)
    leap-fine j h =
        record {
          reached = leap-run j h;
          many = ap (λ (t : Served). length t.table) (leap-is j) ∙ passed_length xs j;
          octets = ap (λ (t : Served). t.octets) (leap-is j);
        }

    leap-alike : (j : ℕ) (h : j ≤ quiet_all xs) → Alike (HeadWords A) w (shown (leap_of j s)).next
    leap-alike j h =
        let f = leap-fine j h in
        let table : (state_at (shown (leap_of j s)).next).table ≡ passed_all xs j =
        ap (λ (z : HeadState). z.table) (at-is (leap_of j s) f) ∙ ap (λ (t : Served). t.table) (leap-is j) in
        alike A w (shown (leap_of j s)).next g (at-good (leap_of j s) f)
        (λ n. (
          ap (λ (ys : List Link). (link_from n 1 ys).state) table ∙ (passed-link n 1 j xs).0,
          ap (λ (ys : List Link). (link_from n 1 ys).address) table ∙ (passed-link n 1 j xs).1,
        ))

    -- so many of them, and one more
    module _ (p : ℕ) (h : p ≤ quiet_all xs) where
      abbrev Leads : ℕ → run.Answer Words (List ℕ) → Type 0
      Leads k a = Chain k a (shown (again (leap_of p s)))

      made_of : (j : ℕ) → j ≤ quiet_all xs
          → Alike (HeadWords A) w (shown (leap_of j s)).next
          × ((shown (leap_of j s)).sent ≡ [])
          × (((HeadWords A).tick (shown (leap_of j s)).next l).reply ≡ 0)
      made_of j v =
          let f = leap-fine j v in (
            leap-alike j v,
            ap (λ (z : Served). (shown z).sent) (leap-is j),
            ap (λ (a : run.Answer Words (List ℕ)). a.reply) (ticked (leap_of j s) f) ∙ ap number_of (next-done (leap_of j s) f),
          )

      leads : (i j : ℕ) → j + i ≡ p → Leads (suc i) (shown (leap_of j s))
      leads zero j u =
          let v : j ≤ quiet_all xs = omega (arith, h, u) in
          let same : j ≡ p = omega arith in
          let m = made_of j v in
          (m.0, m.1, m.2, ticked (leap_of j s) (leap-fine j v) ∙ ap (λ (k : ℕ). shown (again (leap_of k s))) same)
      leads (suc i) j u =
          let v : j ≤ quiet_all xs = omega (arith, h, u) in
          let m = made_of j v in
          let on = ticked (leap_of j s) (leap-fine j v) ∙ ap shown (leap-on j (omega (arith, h, u))) in
          (m.0, m.1, m.2, subst (Leads (suc i)) (sym on) (leads i (suc j) (omega arith)))

    -- the call
    module _ (n : ℕ) (i : is_in_reach n ≡ true) (made : List ℕ) (h : leb 1 (length made) ≡ true) where
      abbrev asked : HeadAsked
      asked = record { ticks = n; lent = l; made = made }

      abbrev lo : 1 ≤ n
      lo = (reach-parts n i).0

      abbrev k : ℕ
      k = min (quiet_all xs) (n - 1)

      abbrev y : Served
      y = serve_of (head_at w.head) xs (Call.Advance n) l.output

      y-is : y ≡ advanced.with_made (k + 1) (again (leap_of k s))
      y-is = serve-advance (head_at w.head) xs l.output ready n lo (reach-parts n i).1

      call-is : head_advance w asked ≡ advance_left (served w (Call.Advance n) l) (laid (y.answer.made ∷ []) made)
      call-is =
          as-handed n w.head w.links l.output l.reply made e h y refl
          ∙ ap (λ (z : Left). advance_left z (laid (y.answer.made ∷ []) made)) (sym (is-handed (Call.Advance n) w.head w.links l.output l.reply e))

      made-is : (HeadAdvances A).made w asked ≡ k + 1
      made-is =
          ap (λ (z : AdvanceLeft). get_or z.made 0 0) call-is
          ∙ first_word y.answer.made made (leb-true 1 (length made) h)
          ∙ ap (λ (z : Served). z.answer.made) y-is

      last_done : (again (leap_of k s)).answer.reply ≡ Done
      last_done = next-done (leap_of k s) (leap-fine k (omega arith))

      shown-is : (HeadAdvances A).advance w asked ≡ shown (again (leap_of k s))
      shown-is =
          let d : is_done y.answer.reply ≡ true = ap (λ (z : Served). is_done z.answer.reply) y-is ∙ ap is_done last_done in
          ap (λ (z : AdvanceLeft). answered z.call) call-is ∙ laid-is (Call.Advance n) w l e d ∙ ap shown y-is

      pub advance-made : (((HeadAdvances A).advance w asked).reply ≡ 0) × (1 ≤ (HeadAdvances A).made w asked) × ((HeadAdvances A).made w asked ≤ n)
      advance-made = (
        ap (λ (a : run.Answer Words (List ℕ)). a.reply) shown-is ∙ ap number_of last_done,
        rw made-is (omega arith),
        rw made-is (omega (arith, lo)),
      )

      advance-singly : Chain ((HeadAdvances A).made w asked) (untold (HeadWords A) w) ((HeadAdvances A).advance w asked)
      unfolding leap_of
      advance-singly =
          let c = leads k (omega arith) k 0 (omega arith) in
          let m : suc k ≡ (HeadAdvances A).made w asked = omega (arith, made-is) in
          subst (Chain ((HeadAdvances A).made w asked) (untold (HeadWords A) w)) (sym shown-is)
          (subst (λ (a : run.Answer Words (List ℕ)). Chain ((HeadAdvances A).made w asked) a (shown (again (leap_of k s)))) shown-start
          (subst (λ (n : ℕ). Chain n (shown s) (shown (again (leap_of k s)))) m c))

-- one that is answered 0 was lent enough, and asked for a number in reach
module _ (A : Address) (w : Words) (g : Good w) (q : HeadAsked) where
  abbrev enough : Bool
  enough = is_lent (length w.head) (length q.lent.reply)

  abbrev worded : Bool
  worded = leb 1 (length q.made)

  abbrev table : List Link
  table = links_at w.links

  abbrev roomy : Bool
  roomy = leb (60 * length table) (length q.lent.output)

  unworded : worded ≡ false → (head_advance w q).call.number ≡ 100
  unworded h = ap (λ (y : AdvanceLeft). y.call.number) (as_short q.ticks w.head w.links q.lent.output q.lent.reply q.made h)

  request : worded ≡ true → (head_advance w q).call ≡ served w (Call.Advance q.ticks) q.lent
  request h = as-request q.ticks w.head w.links q.lent.output q.lent.reply q.made h

  unlent : worded ≡ true → enough ≡ false → (head_advance w q).call.number ≡ 100
  unlent h e = ap (λ (y : Left). y.number) (request h ∙ short (Call.Advance q.ticks) w q.lent e)

  number-of : worded ≡ true → enough ≡ true
      → (head_advance w q).call.number ≡ number_of (serve_of (head_at w.head) table (Call.Advance q.ticks) q.lent.output).answer.reply
  number-of h e = ap (λ (y : Left). y.number) (request h) ∙ number_is (Call.Advance q.ticks) w q.lent e

  pub head_never : (head_advance w q).call.number ≢ 13
  head_never z =
      ⊎_elim
      (λ (h : worded ≡ true).
      ⊎_elim
      (λ (e : enough ≡ true). run-never-unsound g.reached (Call.Advance q.ticks) q.lent.output (sym (number-of h e) ∙ z))
      (λ (e : enough ≡ false). omega (arith, unlent h e, z))
      (decided enough))
      (λ (h : worded ≡ false). omega (arith, unworded h, z))
      (decided worded)

  pub head-singly : ((HeadAdvances A).advance w q).reply ≡ 0
      → Singly (HeadWords A) (Alike (HeadWords A) w) q.lent ((HeadAdvances A).made w q) (untold (HeadWords A) w) ((HeadAdvances A).advance w q)
  head-singly z =
      let s = run_sound g.reached in
      ⊎_elim
      (λ (h : worded ≡ true).
      ⊎_elim
      (λ (e : enough ≡ true).
      ⊎_elim
      (λ (r : roomy ≡ true).
      ⊎_elim (λ (i : is_in_reach q.ticks ≡ true). advance-singly A w g q.lent e r q.ticks i q.made h)
      (λ (i : is_in_reach q.ticks ≡ false).
      absurd (omega (arith, number-of h e, far (head_at w.head) table q.ticks q.lent.output s.head s.table r i, z)))
      (decided (is_in_reach q.ticks)))
      (λ (r : roomy ≡ false).
      absurd (omega (arith, number-of h e, narrow (head_at w.head) table q.ticks q.lent.output s.head s.table r, z)))
      (decided roomy))
      (λ (e : enough ≡ false). absurd (omega (arith, unlent h e, z)))
      (decided enough))
      (λ (h : worded ≡ false). absurd (omega (arith, unworded h, z)))
      (decided worded)
