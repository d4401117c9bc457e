-- The promises of a C program's calls on one box or one head are kept, by induction over its calls.
-- Assumes nothing.
use Prim.Native.Nat.{ℕ, ◌≤◌}
use mathlib.Core.Path.{◌≡◌, refl, sym, ap, subst, ◌∙◌}
use mathlib.Core.Bool.{Bool, true, false}
use mathlib.Core.List.{List, ◌∷◌}
use mathlib.Core.Logic.{◌≢◌, ⊎_elim}
use mathlib.Core.Option.{Option, none, some}
use native.Mathlib.Omega.{arith}
use borrow.Author.Tests.{le-leb, eq-eqb, ne_eqb}
use lib.Dec.{eqb, leb}
use lib.ListN.{length}
use Rattle.laws.specs.Cases.{decided}
use Rattle.clock.specs.Numbers.{is_in_reach}
use Rattle.frame_queues.specs.Asked.{asked_of}
use Rattle.frame_queues.specs.Asking.{asked-typed}
use Rattle.frame.specs.Card.{number_of}
use Rattle.frame.specs.declared.Address.{Address}
use Rattle.frame.specs.declared.Message.{Message}
use Rattle.frame_range.specs.Fits.{is_individual}
use Rattle.frame_reader.specs.Decode.{read_of}
use Rattle.box_calls.specs.Box.{sound_of}
use Rattle.box_calls.specs.Hear.{hear_of}
use Rattle.box_calls.specs.declared.Advanced.{Advanced}
use Rattle.box_calls.specs.declared.Answer.{Answer}
use Rattle.box_calls.specs.declared.FloorBox.{FloorBox}
use Rattle.box_laws.proofs.Advance.{run-advance}
use Rattle.box_laws.specs.Stated as box-calls
use Rattle.box_laws.specs.Stated.{Call, answer, CallTyped}
use Rattle.box_laws.proofs.Runs as core
use Rattle.head_judging.specs.declared.Call.{Call as HeadCall}
use Rattle.head_laws.specs.Fresh.{fresh-done}
use Rattle.head_calls.specs.Fresh.{Freshly}
use Rattle.pair_wire.specs.Carried.{octets-of}
use Rattle.pair_wire.specs.Message.{are_octets, message_in}
use Rattle.pair_demand.specs.Faithful.{As, Untouched}
use Rattle.pair_box.specs.End as end
use Rattle.pair_box.specs.End.{BoxEnd}
use Rattle.pair_head.specs.End as head-end
use Rattle.face_head.specs.Table.{links_at}
use Rattle.face_head_calls.specs.Calls as hc
use Rattle.face_box_calls.specs.Calls.{Left, AdvanceLeft, left, advance_left, box_at, is_lent, heard_of}
use Rattle.face_laws.proofs.BoxAdvance.{advancing, as_short, far-is, far}
use Rattle.face_pair.specs.Advances.{BoxAsked, box_advance}
use Rattle.face_pair.specs.Box as box
use Rattle.face_pair.specs.Box.{BoxFace}
use Rattle.face_pair.specs.Head as head
use Rattle.face_pair.specs.Head.{HeadFace}
use Rattle.face_pair.specs.Runs as runs
use Rattle.face_pair.specs.Runs.{BoxCall, fresh, register, deregister, tick, report, hear, advance, lent_box, Handed, core_of, box_left, Block, BoxPromise, BoxRuns, HeadHanded, HeadWordsLeft, HeadRuns}
use Rattle.face_pair.specs.Refusals.{AdvanceRefusals}
use Rattle.face_pair.proofs.Box as boxes
use Rattle.face_pair.proofs.BoxAdvance as advances
use Rattle.face_pair.proofs.BoxLeft as lefts
use Rattle.face_pair.proofs.Head as heads
use Rattle.face_pair.proofs.Never as nevers
use Rattle.face_pair.proofs.Refusals.{advance-refusals}
use Rattle.face_pair.proofs.Ticks as ticked

not-lent : (t : Bool) → ¬ (t ≡ true) → t ≡ false
not-lent true n = absurd (n refl)
not-lent false n = refl

-- THE BOX
module _ (A : Address) where
  -- what is kept: the words of a box that a run of the core reaches
  record Holds (block : List ℕ) : Type 0 where
    good : boxes.Good A block
    reached : box-calls.Run (box_at block)

  module _ (block : List ℕ) (k : Holds block) where
    abbrev b : FloorBox
    b = box_at block

    abbrev individual : is_individual A ≡ true
    individual = ap is_individual (sym k.good.ok.address) ∙ k.good.ok.holds.address

    same-holds : (now : List ℕ) → now ≡ block → Holds now
    same-holds now e = subst Holds (sym e) k

    -- one of the core's calls
    core-holds : (c : Call) (l : box.Lent) → CallTyped c → Holds (lefts.got (answer c) block l).block
    core-holds c l t =
        ⊎_elim
        (λ (e : lefts.lent (answer c) block l ≡ true).
        let a = boxes.lent-as A c block l t k.good e in
        record { good = a.good; reached = subst box-calls.Run (sym a.next) (box-calls.calls b k.reached c) })
        (λ (e : lefts.lent (answer c) block l ≡ false). same-holds _ (ap (λ (y : Left). y.block) (lefts.short (answer c) block l e)))
        (decided (lefts.lent (answer c) block l))

    -- octets
    heard-run : (x : Option Message) (random : ℕ) → box-calls.Run (end.heard_in hear_of x b random).next
    heard-run none random = k.reached
    heard-run (some m) random = box-calls.calls b k.reached (box-calls.hear m random)

    octets-hold : (os : List ℕ) (random : ℕ) (l : box.Lent) → are_octets os ≡ true → Holds (lefts.got (heard_of os random) block l).block
    octets-hold os random l h =
        ⊎_elim
        (λ (a : As (BoxFace A) (boxes.Good A) (box.answered (lefts.got (heard_of os random) block l)) ((BoxEnd A).hear b random os)).
        record { good = a.good; reached = subst box-calls.Run (sym a.next) (heard-run (message_in os) random) })
        (λ (u : Untouched (BoxFace A) (boxes.Good A) block (box.answered (lefts.got (heard_of os random) block l))).
        record { good = u.good; reached = subst box-calls.Run (sym u.next) k.reached })
        (boxes.octets-out A block random l os h k.good)

    fresh_holds : (l : box.Lent) → Holds (boxes.made A block l).block
    fresh_holds l =
        ⊎_elim
        (λ (e : boxes.enough A block l ≡ true).
        record {
          good = boxes.made-good A block l e individual;
          reached = subst box-calls.Run (sym (boxes.made-fresh A block l e individual).1) (box-calls.fresh A individual);
        })
        (λ (e : boxes.enough A block l ≡ false). same-holds _ (ap (λ (y : Left). y.block) (boxes.made-short A block l e)))
        (decided (boxes.enough A block l))

    -- an advance
    module _ (n : ℕ) (made : List ℕ) (l : box.Lent) (m : 1 ≤ length made) where
      abbrev q : BoxAsked
      q = record { ticks = n; lent = l; made = made }

      abbrev lent : Bool
      lent = is_lent (length block) (length l.frames) (length l.reply)

      abbrev worded : leb 1 (length made) ≡ true
      worded = le-leb 1 (length made) m

      not-enough : lent ≡ false → box_advance block q ≡ advance_left (left 100 block l.frames l.reply) made
      not-enough e = as_short n block l.frames l.reply made (rw e)

      sound : sound_of b ≡ true
      sound = core.run_sound k.reached

      advance-number : lent ≡ true → (box_advance block q).call.number ≡ number_of (advancing n b).reply
      advance-number e = advances.number A block k.good q (rw (e, worded))

      advance-same : lent ≡ true → is_in_reach n ≡ false → (box_advance block q).call.block ≡ block
      unfolding AdvanceRefusals
      advance-same e i =
          advance-refusals.0 n block l.frames l.reply made
          (λ (z : (box_advance block q).call.number ≡ 0). omega (arith, advance-number e, far b n sound i, z))

      advance-holds : Holds (box_advance block q).call.block
      advance-holds =
          ⊎_elim
          (λ (e : lent ≡ true).
          ⊎_elim
          (λ (i : is_in_reach n ≡ true).
          let t = advances.advance-there A block k.good l e n i made worded in
          record { good = t.0; reached = subst box-calls.Run (sym t.1) (run-advance k.reached n i).0 })
          (λ (i : is_in_reach n ≡ false). same-holds _ (advance-same e i))
          (decided (is_in_reach n)))
          (λ (e : lent ≡ false). same-holds _ (ap (λ (y : AdvanceLeft). y.call.block) (not-enough e)))
          (decided lent)

      advance-is : lent ≡ true → ((box_advance block q).call.number ≡ number_of (advancing n b).reply) × (box_at (box_advance block q).call.block ≡ (advancing n b).next)
      advance-is e =
          ⊎_elim
          (λ (i : is_in_reach n ≡ true). (advance-number e, (advances.advance-there A block k.good l e n i made worded).1))
          (λ (i : is_in_reach n ≡ false). (advance-number e, ap box_at (advance-same e i) ∙ sym (ap (λ (y : Advanced). y.answer.next) (far-is b n sound i))))
          (decided (is_in_reach n))

    call-holds : (c : BoxCall) → Handed c → Holds (box_left A block c).block
    call-holds (fresh l) h = fresh_holds l
    call-holds (register l) h = core-holds box-calls.register l tt
    call-holds (deregister l) h = core-holds box-calls.deregister l tt
    call-holds (tick l) h = core-holds box-calls.tick l tt
    call-holds (report number sets l) h =
        core-holds (box-calls.report (asked_of number sets)) l (asked-typed number sets (octets-of (number ∷ sets) h))
    call-holds (hear os random l) h = octets-hold os random l h
    call-holds (advance n made l) h = advance-holds n made l h

    abbrev Is : BoxCall → Type 0
    Is c = ((box_left A block c).number ≡ number_of (core_of A c b).reply) × (box_at (box_left A block c).block ≡ (core_of A c b).next)

    heard-is : (os : List ℕ) (random : ℕ) → eqb (number_of (read_of os).reply) 0 ≡ true → heard_of os random b ≡ hear_of b (read_of os).message random
    unfolding heard_of
    heard-is os random u = rw u

    unheard-is : (os : List ℕ) (random : ℕ) → eqb (number_of (read_of os).reply) 0 ≡ false → (heard_of os random b).next ≡ b
    unfolding heard_of
    unheard-is os random u = rw u

    octets-are : (os : List ℕ) (random : ℕ) (l : box.Lent) → are_octets os ≡ true → lefts.lent (heard_of os random) block l ≡ true → Is (hear os random l)
    octets-are os random l h e =
        ⊎_elim
        (λ (u : eqb (number_of (read_of os).reply) 0 ≡ true).
        let m = (read_of os).message in
        let c = box-calls.hear m random in
        let t = boxes.read-typed A block random l os h k.good u in
        let a = boxes.lent-as A c block l t k.good e in
        let at = boxes.as-heard A block random l os h k.good u in
        let is = heard-is os random u in (
          ap (λ (y : Left). y.number) at ∙ a.reply ∙ sym (ap (λ (y : Answer). number_of y.reply) is),
          ap (λ (y : Left). box_at y.block) at ∙ a.next ∙ sym (ap (λ (y : Answer). y.next) is),
        ))
        (λ (u : eqb (number_of (read_of os).reply) 0 ≡ false).
        let n = boxes.unread A block random l os h k.good u in
        let f = heard_of os random in (
          lefts.refuse-number f block l e n,
          ap box_at (lefts.refuse-block f block l e n) ∙ sym (unheard-is os random u),
        ))
        (decided (eqb (number_of (read_of os).reply) 0))

    call-is : (c : BoxCall) → Handed c → is_lent (length block) (length (lent_box c).frames) (length (lent_box c).reply) ≡ true → Is c
    call-is (fresh l) h e = (boxes.made-number A block l e, (boxes.made-fresh A block l e individual).1)
    call-is (register l) h e = let a = boxes.lent-as A box-calls.register block l tt k.good e in (a.reply, a.next)
    call-is (deregister l) h e = let a = boxes.lent-as A box-calls.deregister block l tt k.good e in (a.reply, a.next)
    call-is (tick l) h e = let a = boxes.lent-as A box-calls.tick block l tt k.good e in (a.reply, a.next)
    call-is (report number sets l) h e =
        let c = box-calls.report (asked_of number sets) in
        let t = asked-typed number sets (octets-of (number ∷ sets) h) in
        let a = boxes.lent-as A c block l t k.good e in
        (a.reply, a.next)
    call-is (hear os random l) h e = octets-are os random l h e
    call-is (advance n made l) h e = advance-is n made l h e

    abbrev Spared : BoxCall → Type 0
    Spared c = ((box_left A block c).number ≡ 100) × ((box_left A block c).block ≡ block)

    spared : (f : FloorBox → Answer) (l : box.Lent) → lefts.lent f block l ≡ false
        → ((lefts.got f block l).number ≡ 100) × ((lefts.got f block l).block ≡ block)
    spared f l e = (ap (λ (y : Left). y.number) (lefts.short f block l e), ap (λ (y : Left). y.block) (lefts.short f block l e))

    call-short : (c : BoxCall) → is_lent (length block) (length (lent_box c).frames) (length (lent_box c).reply) ≡ false → Spared c
    call-short (fresh l) e =
        (ap (λ (y : Left). y.number) (boxes.made-short A block l e), ap (λ (y : Left). y.block) (boxes.made-short A block l e))
    call-short (register l) e = spared (answer box-calls.register) l e
    call-short (deregister l) e = spared (answer box-calls.deregister) l e
    call-short (tick l) e = spared (answer box-calls.tick) l e
    call-short (report number sets l) e = spared (answer (box-calls.report (asked_of number sets))) l e
    call-short (hear os random l) e = spared (heard_of os random) l e
    call-short (advance n made l) e =
        let is = as_short n block l.frames l.reply made (rw e) in
        (ap (λ (y : AdvanceLeft). y.call.number) is, ap (λ (y : AdvanceLeft). y.call.block) is)

    call-never : (c : BoxCall) → (box_left A block c).number ≢ 13
    call-never (fresh l) = nevers.box-asks A block k.good (box.fresh l)
    call-never (register l) = nevers.box-asks A block k.good (box.register l)
    call-never (deregister l) = nevers.box-asks A block k.good (box.deregister l)
    call-never (tick l) = nevers.box-ticks A block k.good l
    call-never (report number sets l) = nevers.box-asks A block k.good (box.report number sets l)
    call-never (hear os random l) = nevers.face-never A (heard_of os random) block l (nevers.heard-never A os random b k.good.ok)
    call-never (advance n made l) = advances.box-never A block k.good (record { ticks = n; lent = l; made = made })

    promised : BoxPromise A block
    promised =
        record {
          words = k.good.packed;
          reached = k.reached;
          call = call-is;
          short = λ c n. call-short c (not-lent (is_lent (length block) (length (lent_box c).frames) (length (lent_box c).reply)) n);
          never = call-never;
          ticks = λ l h j. ticked.box-tick-done A 0 block l k.good h j;
        }

  block-holds : {block : List ℕ} → Block A block → Holds block
  block-holds (runs.begun old l z) =
      let s = boxes.fresh-stands A old l z in
      let i : is_individual A ≡ true = ap is_individual (sym s.0.ok.address) ∙ s.0.ok.holds.address in
      record { good = s.0; reached = subst box-calls.Run (sym s.1.1) (box-calls.fresh A i) }
  block-holds (runs.calls block u c h) = call-holds block (block-holds u) c h
  block-holds (runs.moves block u behind) =
      let k = block-holds u in
      record {
        good = boxes.moved-good A block behind k.good;
        reached = subst box-calls.Run (sym (boxes.moved-box A block behind k.good)) k.reached;
      }

  pub box-runs : BoxRuns A
  unfolding BoxRuns
  box-runs block u = promised block (block-holds u)

-- THE HEAD
-- an address that no proof below looks at
abbrev any : Address
any = record { 0 = 0 }

asked-good : (w : head.Words) (c : head.Asked) → heads.Good w → HeadHanded c → heads.Good (head.asked w c).next
asked-good w (head.asks r l) g h =
    ⊎_elim (λ (e : heads.lent r w l ≡ true). heads.next-good r w l e g)
    (λ (e : heads.lent r w l ≡ false). subst heads.Good (sym (ap (λ (y : hc.Left). (head.answered y).next) (heads.short r w l e))) g)
    (decided (heads.lent r w l))
asked-good w (head.hears link os l) g h =
    rw h
    (⊎_elim
    (λ (a : As (HeadFace any) heads.Good (head.answered (heads.is any w link os l h)) (head-end.heard (head.state_at w) link l.output (message_in os))). a.good)
    (λ (u : Untouched (HeadFace any) heads.Good w (head.answered (heads.is any w link os l h))). u.good)
    (heads.octets-out any w link os l h g))
asked-good w (head.fresh a reply) g i =
    ⊎_elim
    (λ (e : heads.enough any a w reply ≡ true).
    (heads.made-stands any a w reply e (ap (λ (f : Freshly). f.answer.reply) (fresh-done a (links_at w.links) (heads.few any w g) i))).0)
    (λ (e : heads.enough any a w reply ≡ false).
    subst heads.Good (sym (ap (λ (y : hc.BegunLeft). (head.begun y).next) (heads.made-short any a w reply e))) g)
    (decided (heads.enough any a w reply))
asked-good w (head.again made f) g h = (heads.fresh-faithful any made f).0
asked-good w (head.moves behind beyond) g less = heads.moved-good w behind beyond less g

words-good : {w : head.Words} → HeadWordsLeft w → heads.Good w
words-good (runs.begun a old reply z) = (heads.fresh-faithful any (head.begun (hc.begun_of a old.head old.links reply)).next (a, old, reply, z, refl)).0
words-good (runs.calls w u c h) = asked-good w c (words-good u) h

module _ (w : head.Words) (link : ℕ) (os : List ℕ) (l : head.Lent) where
  abbrev hearing : hc.Left
  hearing = hc.heard_of link os w.head w.links l.output l.reply

  octets-heard : number_of (read_of os).reply ≡ 0 → hearing ≡ head.served w (HeadCall.Hear link (read_of os).message) l
  unfolding hc.heard_of
  octets-heard z = rw (eq-eqb (number_of (read_of os).reply) 0 z)

  noise-spares : number_of (read_of os).reply ≢ 0 → (head.answered hearing).next ≡ w
  unfolding hc.heard_of
  noise-spares z = rw (ne_eqb (number_of (read_of os).reply) 0 z)

pub head-runs : HeadRuns
unfolding HeadRuns
head-runs w u =
    let g = words-good u in
    record {
      head-words = g.head-packed;
      links-words = g.links-packed;
      reached = g.reached;
      request = λ r l e. (heads.number_is r w l e, heads.next-is r w l e g, heads.sent_is r w l e);
      short = λ r l n. heads.short r w l (not-lent (hc.is_lent (length w.head) (length l.reply)) n);
      octets = octets-heard w;
      noise = noise-spares w;
      never = nevers.head-asks any w g;
      ticks = ticked.head-tick-done any 0 w g;
    }
