-- An advance of the box over words that a run left is the single ticks that it made, each over the words that the last one left.
-- Assumes nothing.
use Prim.Native.Nat.{ℕ, zero, suc, ◌+◌, ◌≤◌}
use mathlib.Core.Path.{◌≡◌, refl, sym, ap, subst, ◌∙◌}
use mathlib.Core.Bool.{Bool, true, false, ◌&&◌, and-eq-true_iff}
use mathlib.Core.List.{List, [], ◌∷◌}
use mathlib.Core.Logic.{◌≢◌, ⊎_elim}
use native.Mathlib.Omega.{arith}
use borrow.Author.Tests.{leb-true, eq-eqb, eqb-true}
use lib.Dec.{eqb, leb}
use lib.ListN.{length, get_or}
use Rattle.laws.specs.Cases.{decided}
use Rattle.laws.specs.Jump.{ticks-next, ticks-told, ticks-end}
use Rattle.clock.specs.Laws.{reach-parts}
use Rattle.clock.specs.Numbers.{is_in_reach}
use Rattle.frame.specs.Card.{number_of}
use Rattle.frame.specs.declared.Address.{Address}
use Rattle.frame.specs.declared.Reply.TheVariants.{Done}
use Rattle.box_telling.specs.Told.{is_nothing}
use Rattle.face_box.specs.Box.{box_words}
use Rattle.box_calls.specs.Advance.{again, is_done, is_silent, out, advance_of}
use Rattle.box_calls.specs.Answer.{bare}
use Rattle.box_calls.specs.Box.{tick_of}
use Rattle.box_calls.specs.Turns.{box_ticks}
use Rattle.box_calls.specs.declared.Advanced.{Advanced}
use Rattle.box_calls.specs.declared.Answer.{Answer}
use Rattle.box_calls.specs.declared.FloorBox.{FloorBox}
use Rattle.box_laws.specs.Stated as calls
use Rattle.box_laws.proofs.Runs.{holds-sound}
use Rattle.face_words.specs.Words.{laid}
use Rattle.pair_demand.specs.Run as run
use Rattle.pair_demand.specs.Singly.{untold, Alike, Singly}
use Rattle.pair_demand.proofs.Small.{carried}
use Rattle.pair_box.specs.End as core
use Rattle.pair_box.specs.End.{state_of}
use Rattle.pair_box.proofs.Exact.{tick-done}
use Rattle.pair_box.proofs.Gauge.{Ok}
use Rattle.face_box_calls.specs.Calls.{AdvanceLeft, advance_left, box_at, is_lent}
use Rattle.face_laws.proofs.BoxAdvance.{advancing, as_call, as_short, never, far}
use Rattle.face_laws.proofs.BoxStands.{number_is}
use Rattle.face_laws.proofs.Calls.{size, stands-long}
use Rattle.face_pair.specs.Advances.{BoxAsked, box_advance, BoxAdvances}
use Rattle.face_pair.specs.Box.{Lent, sent_in, answered, BoxWords}
use Rattle.face_pair.proofs.Box.{Good, there, laid-good, front, call_ok}
use Rattle.face_pair.proofs.BoxLeft.{Sixties, no-sixties, call-sixties, got, done-number, done-block, done-sent}
use Rattle.face_pair.proofs.Laid.{laid-twice, laid-own, first_word}
use Rattle.face_pair.proofs.Neat.{Neat, call-neat}
use Rattle.face_pair.proofs.Read.{box-tells}
use Rattle.face_pair.proofs.Still.{silent-still}

-- in the same state a box tells the same of its link
alike : (A : Address) (s t : List ℕ) → Good A s → Good A t → state_of (box_at t) ≡ state_of (box_at s) → Alike (BoxWords A) s t
alike A s t g h u =
    record {
      held = λ p. carried ((box-tells A).held s g p) ((box-tells A).held t h p) ((λ k. u ∙ k), (λ k. sym u ∙ k));
      registered = λ p. carried ((box-tells A).registered s g p) ((box-tells A).registered t h p) ((λ k. u ∙ k), (λ k. sym u ∙ k));
      waiting = λ p. carried ((box-tells A).waiting s g p) ((box-tells A).waiting t h p) ((λ k. u ∙ k), (λ k. sym u ∙ k));
    }

module _ (A : Address) (block : List ℕ) (g : Good A block) (l : Lent) where
  abbrev b : FloorBox
  b = box_at block

  -- an answer of the core, over the words of the block
  abbrev shown : Answer → run.Answer (List ℕ) (List ℕ)
  shown r =
      record {
        reply = number_of r.reply;
        next = laid (box_words r.next) block;
        sent = core.frames_in r.frames.number r.frames;
      }

  -- single ticks over words that are like the first
  abbrev Chain : ℕ → run.Answer (List ℕ) (List ℕ) → run.Answer (List ℕ) (List ℕ) → Type 0
  Chain k a c = Singly (BoxWords A) (Alike (BoxWords A) block) l k a c

  -- what holds of each on the way
  record Fine (r : Answer) : Type 0 where
    ok : Ok A r.next
    neat : Neat r.next.processes
    sixties : Sixties r.frames
    done : number_of r.reply ≡ 0
    still : is_silent r ≡ true → state_of r.next ≡ state_of b

  begins : Fine (bare b Done)
  begins = record { ok = g.ok; neat = g.neat; sixties = no-sixties; done = refl; still = λ _. refl }

  goes_on : (r : Answer) → Fine r → is_silent r ≡ true → Fine (again r)
  goes_on r f s =
      record {
        ok = call_ok A calls.tick r.next tt f.ok;
        neat = call-neat calls.tick r.next tt f.neat;
        sixties = call-sixties calls.tick r.next;
        done = tick-done A r.next f.ok;
        still = λ h. silent-still r.next h ∙ f.still s;
      }

  done-again : (r : Answer) → Fine r → is_done (again r) ≡ true
  unfolding is_done
  done-again r f = eq-eqb (number_of (again r).reply) 0 (tick-done A r.next f.ok)

  none-sent : (r : Answer) → is_silent r ≡ true → (shown r).sent ≡ []
  unfolding is_silent
  none-sent r s =
      let n : r.frames.number ≡ 0 = eqb-true r.frames.number 0 ((and-eq-true_iff (eqb r.frames.number 0) (is_nothing r.notices.first)).0 s).0 in
      rw n

  shown-start : shown (bare b Done) ≡ untold (BoxWords A) block
  shown-start =
      let n : length (box_words b) ≡ 29 = size b g.ok.holds.processes.sound.places in
      let same : laid (box_words b) block ≡ block = laid-own (box_words b) block 29 n g.room (front A block [] g) in
      rw same

  module _ (e : is_lent (length block) (length l.frames) (length l.reply) ≡ true) where
    -- a tick over the words of one is the next
    module _ (r : Answer) (f : Fine r) where
      abbrev at : List ℕ
      at = laid (box_words r.next) block

      is : box_at at ≡ r.next
      is = there A r.next f.ok f.neat block g.room

      at-good : Good A at
      at-good = laid-good A r.next f.ok f.neat block g.room

      ticked : (BoxWords A).tick at l ≡ shown (tick_of r.next)
      ticked =
          let x = tick_of r.next in
          let o = call_ok A calls.tick r.next tt f.ok in
          let a = size r.next f.ok.holds.processes.sound.places in
          let c = size x.next o.holds.processes.sound.places in
          let u : is_lent (length at) (length l.frames) (length l.reply) ≡ true =
          ap (λ (k : ℕ). is_lent k (length l.frames) (length l.reply)) (stands-long r.next block f.ok.holds.processes.sound.places g.room) ∙ e in
          let v : eqb (number_of (tick_of (box_at at)).reply) 0 ≡ true =
          eq-eqb (number_of (tick_of (box_at at)).reply) 0 (ap (λ (z : FloorBox). number_of (tick_of z).reply) is ∙ tick-done A r.next f.ok) in
          let n : (got tick_of at l).number ≡ number_of x.reply = done-number tick_of at l u v ∙ ap (λ (z : FloorBox). number_of (tick_of z).reply) is in
          let k : (got tick_of at l).block ≡ laid (box_words x.next) block =
          done-block tick_of at l u v
          ∙ ap (λ (z : FloorBox). laid (box_words (tick_of z).next) at) is
          ∙ laid-twice (box_words x.next) (box_words r.next) block (c ∙ sym a) (omega (arith, a, g.room)) in
          let s : sent_in (got tick_of at l) ≡ core.frames_in x.frames.number x.frames =
          done-sent tick_of at l u v (call-sixties calls.tick (box_at at))
          ∙ ap (λ (z : FloorBox). core.frames_in (tick_of z).frames.number (tick_of z).frames) is in
          rw (s, n, k)

    -- at most j ticks more, where m are made
    record Comes (j : ℕ) (r : Answer) (m : ℕ) (x : Advanced) : Type 0 where
      made : ℕ
      counted : x.made ≡ m + made
      few : made ≤ j
      fine : Fine x.answer
      singly : Chain made (shown r) (shown x.answer)

    stops : (j : ℕ) (r : Answer) (m : ℕ) → Fine r → Comes j r m (out r m)
    stops j r m f = record { made = 0; counted = omega arith; few = omega arith; fine = f; singly = refl }

    comes : (j : ℕ) (r : Answer) (m : ℕ) → Fine r → Comes j r m (box_ticks j r m)
    comes zero r m f = subst (Comes 0 r m) (sym (ticks-end again is_done is_silent out 0 m r refl)) (stops 0 r m f)
    comes (suc j) r m f =
        ⊎_elim
        (λ (s : is_silent r ≡ true).
        let c = comes j (again r) (m + 1) (goes_on r f s) in
        subst (Comes (suc j) r m) (sym (ticks-next again is_done is_silent out j m r (again r) s refl (done-again r f)))
        (record {
          made = suc c.made;
          counted = omega (arith, c.counted);
          few = omega (arith, c.few);
          fine = c.fine;
          singly = (
            alike A block (at r f) g (at-good r f) (ap state_of (is r f) ∙ f.still s),
            none-sent r s,
            ap (λ (a : run.Answer (List ℕ) (List ℕ)). a.reply) (ticked r f) ∙ tick-done A r.next f.ok,
            subst (λ (a : run.Answer (List ℕ) (List ℕ)). Chain c.made a (shown (box_ticks j (again r) (m + 1)).answer)) (sym (ticked r f)) c.singly,
          );
        }))
        (λ (s : is_silent r ≡ false).
        subst (Comes (suc j) r m) (sym (ticks-told again is_done is_silent out (suc j) m r s)) (stops (suc j) r m f))
        (decided (is_silent r))

    -- at least one is made
    some : (n : ℕ) → 1 ≤ n → 1 ≤ (box_ticks n (bare b Done) 0).made
    unfolding is_silent
    some zero h = absurd (omega arith)
    some (suc j) h =
        let c = comes j (tick_of b) 1 (goes_on (bare b Done) begins refl) in
        rw (ticks-next again is_done is_silent out j 0 (bare b Done) (tick_of b) refl refl (done-again (bare b Done) begins)) (omega (arith, c.counted))

    -- the call
    module _ (n : ℕ) (i : is_in_reach n ≡ true) (made : List ℕ) (h : leb 1 (length made) ≡ true) where
      abbrev asked : BoxAsked
      asked = record { ticks = n; lent = l; made = made }

      abbrev x : Advanced
      x = advance_of b n

      x-is : x ≡ box_ticks n (bare b Done) 0
      unfolding advance_of
      x-is = rw (holds-sound g.ok.holds, i)

      x-comes : Comes n (bare b Done) 0 x
      x-comes = subst (Comes n (bare b Done) 0) (sym x-is) (comes n (bare b Done) 0 begins)

      call-is : box_advance block asked ≡ advance_left (got (advancing n) block l) (laid (x.made ∷ []) made)
      call-is = as_call n block l.frames l.reply made e h

      pub made-is : (BoxAdvances A).made block asked ≡ x.made
      made-is = ap (λ (y : AdvanceLeft). get_or y.made 0 0) call-is ∙ first_word x.made made (leb-true 1 (length made) h)

      shown-is : (BoxAdvances A).advance block asked ≡ shown x.answer
      shown-is =
          let v = eq-eqb (number_of x.answer.reply) 0 x-comes.fine.done in
          ap (λ (y : AdvanceLeft). answered y.call) call-is
          ∙ rw (done-sent (advancing n) block l e v x-comes.fine.sixties, done-number (advancing n) block l e v, done-block (advancing n) block l e v)

      pub advance-made : (((BoxAdvances A).advance block asked).reply ≡ 0) × (1 ≤ (BoxAdvances A).made block asked) × ((BoxAdvances A).made block asked ≤ n)
      advance-made =
          let c = x-comes in
          let m : 1 ≤ x.made = subst (λ (y : Advanced). 1 ≤ y.made) (sym x-is) (some n (reach-parts n i).0) in (
            ap (λ (a : run.Answer (List ℕ) (List ℕ)). a.reply) shown-is ∙ c.fine.done,
            rw made-is m,
            rw made-is (omega (arith, c.counted, c.few)),
          )

      pub advance-there : Good A (box_advance block asked).call.block × (box_at (box_advance block asked).call.block ≡ (advancing n b).next)
      advance-there =
          let f = x-comes.fine in
          let at : (box_advance block asked).call.block ≡ laid (box_words x.answer.next) block = ap (λ (a : run.Answer (List ℕ) (List ℕ)). a.next) shown-is in
          (subst (Good A) (sym at) (at-good x.answer f), ap box_at at ∙ is x.answer f)

      advance-singly : Chain ((BoxAdvances A).made block asked) (untold (BoxWords A) block) ((BoxAdvances A).advance block asked)
      advance-singly =
          let c = x-comes in
          let k : c.made ≡ (BoxAdvances A).made block asked = omega (arith, c.counted, made-is) in
          subst (Chain ((BoxAdvances A).made block asked) (untold (BoxWords A) block)) (sym shown-is)
          (subst (λ (a : run.Answer (List ℕ) (List ℕ)). Chain ((BoxAdvances A).made block asked) a (shown x.answer)) shown-start
          (subst (λ (m : ℕ). Chain m (shown (bare b Done)) (shown x.answer)) k c.singly))

-- one that is answered 0 was lent enough, and asked for a number in reach
module _ (A : Address) (block : List ℕ) (g : Good A block) (q : BoxAsked) where
  abbrev pub enough : Bool
  enough = is_lent (length block) (length q.lent.frames) (length q.lent.reply) && leb 1 (length q.made)

  short : enough ≡ false → (box_advance block q).call.number ≡ 100
  short e = ap (λ (y : AdvanceLeft). y.call.number) (as_short q.ticks block q.lent.frames q.lent.reply q.made e)

  pub number : enough ≡ true → (box_advance block q).call.number ≡ number_of (advancing q.ticks (box_at block)).reply
  number e =
      let p = (and-eq-true_iff (is_lent (length block) (length q.lent.frames) (length q.lent.reply)) (leb 1 (length q.made))).0 e in
      ap (λ (y : AdvanceLeft). y.call.number) (as_call q.ticks block q.lent.frames q.lent.reply q.made p.0 p.1)
      ∙ number_is (advancing q.ticks) block q.lent.frames q.lent.reply p.0

  pub box-never : (box_advance block q).call.number ≢ 13
  box-never z =
      ⊎_elim (λ (e : enough ≡ true). never (box_at block) q.ticks (holds-sound g.ok.holds) (sym (number e) ∙ z))
      (λ (e : enough ≡ false). omega (arith, short e, z))
      (decided enough)

  pub box-singly : ((BoxAdvances A).advance block q).reply ≡ 0
      → Singly (BoxWords A) (Alike (BoxWords A) block) q.lent ((BoxAdvances A).made block q) (untold (BoxWords A) block) ((BoxAdvances A).advance block q)
  box-singly z =
      ⊎_elim
      (λ (e : enough ≡ true).
      let p = (and-eq-true_iff (is_lent (length block) (length q.lent.frames) (length q.lent.reply)) (leb 1 (length q.made))).0 e in
      ⊎_elim (λ (i : is_in_reach q.ticks ≡ true). advance-singly A block g q.lent p.0 q.ticks i q.made p.1)
      (λ (i : is_in_reach q.ticks ≡ false). absurd (omega (arith, number e, far (box_at block) q.ticks (holds-sound g.ok.holds) i, z)))
      (decided (is_in_reach q.ticks)))
      (λ (e : enough ≡ false). absurd (omega (arith, short e, z)))
      (decided enough)
