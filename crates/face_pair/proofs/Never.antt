-- No call over words that a run left is answered 13.
-- Assumes nothing.
use Prim.Native.Nat.{ℕ}
use mathlib.Core.Path.{◌≡◌, refl, sym, ap, ◌∙◌}
use mathlib.Core.Bool.{true, false, ◌&&◌, true≢false}
use mathlib.Core.List.{List}
use mathlib.Core.Logic.{◌≢◌, ⊎_elim}
use native.Mathlib.Omega.{arith}
use lib.Dec.{eqb, leb}
use lib.ListN.{length}
use Rattle.laws.specs.Cases.{either, decided}
use Rattle.octets.specs.Octets.{field_of}
use Rattle.frame_queues.specs.Asked.{asked_of}
use Rattle.frame.specs.Card.{number_of}
use Rattle.frame.specs.Reading.{body_in_range, source_in_range}
use Rattle.frame.specs.declared.Address.{Address}
use Rattle.frame.specs.declared.Reading.{Reading}
use Rattle.frame_range.specs.Fits.{is_individual}
use Rattle.frame_reader.specs.Decode.{read_control, read_of}
use Rattle.head_judging.specs.declared.Call.{Call as HeadCall}
use Rattle.head_calls.specs.Fresh.{fresh_of}
use Rattle.box_calls.specs.Answer.{accepted}
use Rattle.box_calls.specs.declared.Answer.{Answer}
use Rattle.box_calls.specs.declared.FloorBox.{FloorBox}
use Rattle.box_laws.specs.Stated as calls
use Rattle.box_laws.specs.Calls.{Outcome, unsound, refuses, accepts, outcome}
use Rattle.box_laws.specs.Stated.{Call, answer}
use Rattle.box_laws.proofs.Runs.{holds-sound}
use Rattle.head_laws.specs.Fresh.{fresh-range, fresh-done}
use Rattle.head_laws.specs.Runs.{run-never-unsound}
use Rattle.pair_wire.specs.Message.{are_octets, stamped}
use Rattle.pair_demand.specs.Run as run
use Rattle.pair_box.proofs.Gauge.{Ok}
use Rattle.face_box_calls.specs.Calls.{Left, box_at, heard_of}
use Rattle.face_head_calls.specs.Calls as hc
use Rattle.face_head.specs.Table.{links_at}
use Rattle.face_pair.specs.Box as box
use Rattle.face_pair.specs.Demand.{NeverUnsound}
use Rattle.face_pair.specs.Head as head
use Rattle.face_pair.proofs.Box as boxes
use Rattle.face_pair.proofs.BoxAdvance.{box-never}
use Rattle.face_pair.proofs.BoxLeft as lefts
use Rattle.face_pair.proofs.Head as heads
use Rattle.face_pair.proofs.HeadAdvance.{head_never}

hundred : {n : ℕ} → n ≡ 100 → n ≢ 13
hundred {n} e z = omega arith

-- the reader gives 0 to 4
abbrev Other : Reading → Type 0
Other r = number_of r.reply ≢ 13

control-never : (l : List ℕ) → Other (read_control l)
unfolding read_control
control-never l =
    either Other (leb 2 (field_of l 14 2) && leb (field_of l 14 2) 6) _ _
    (λ _. either Other (source_in_range l && body_in_range (field_of l 14 2) l) _ _ (λ _. omega arith) (λ _. omega arith))
    (λ _. omega arith)

read-never : (l : List ℕ) → Other (read_of l)
unfolding read_of
read-never l =
    either Other (eqb (length l) 60) _ _
    (λ _. either Other (eqb (field_of l 12 2) 0x8808) _ _ (λ _. control-never l) (λ _. omega arith))
    (λ _. omega arith)

-- the box
module _ (A : Address) where
  core-by : (c : Call) (b : FloorBox) (x : Answer) → Ok A b → Outcome c b x → number_of x.reply ≢ 13
  unfolding accepted
  core-by c b x o (unsound s e) = absurd (true≢false (sym (holds-sound o.holds) ∙ s))
  core-by c b x o (refuses s r n u e) = rw e u
  core-by c b x o (accepts s h e) = rw e (omega arith)

  core-never : (c : Call) (b : FloorBox) → Ok A b → number_of (answer c b).reply ≢ 13
  core-never c b o = core-by c b (answer c b) o (outcome c b)

  -- whatever the core's call is, if the core doesn't answer 13
  pub face-never : (f : FloorBox → Answer) (block : List ℕ) (l : box.Lent) → number_of (f (box_at block)).reply ≢ 13
      → (lefts.got f block l).number ≢ 13
  face-never f block l k =
      ⊎_elim
      (λ (e : lefts.lent f block l ≡ true).
      ⊎_elim
      (λ (n : lefts.is_done f block l ≡ true). rw (lefts.done-number f block l e n) k)
      (λ (n : lefts.is_done f block l ≡ false). rw (lefts.refuse-number f block l e n) k)
      (decided (lefts.is_done f block l)))
      (λ (e : lefts.lent f block l ≡ false). hundred (ap (λ (y : Left). y.number) (lefts.short f block l e)))
      (decided (lefts.lent f block l))

  pub heard-never : (os : List ℕ) (random : ℕ) (b : FloorBox) → Ok A b → number_of (heard_of os random b).reply ≢ 13
  unfolding heard_of
  heard-never os random b o =
      either (λ (x : Answer). number_of x.reply ≢ 13) (eqb (number_of (read_of os).reply) 0) _ _
      (λ _. core-never (calls.hear (read_of os).message random) b o)
      (λ _. read-never os)

  module _ (block : List ℕ) (g : boxes.Good A block) where
    pub box-asks : (c : box.Asked A) → ((box.BoxWords A).call block c).reply ≢ 13
    box-asks (box.register l) = face-never (answer calls.register) block l (core-never calls.register (box_at block) g.ok)
    box-asks (box.deregister l) = face-never (answer calls.deregister) block l (core-never calls.deregister (box_at block) g.ok)
    box-asks (box.report number sets l) =
        let c = calls.report (asked_of number sets) in
        face-never (answer c) block l (core-never c (box_at block) g.ok)
    box-asks (box.fresh l) = boxes.fresh-number A block l g
    box-asks (box.again made f) = omega arith
    box-asks (box.moves behind) = omega arith

    box-hears : (v : box.Heard) (os : List ℕ) → ((box.BoxWords A).hear block v os).reply ≢ 13
    box-hears v os =
        let s = stamped v.stamp os in
        either (λ (a : run.Answer (List ℕ) (List ℕ)). a.reply ≢ 13) (are_octets os) _ _
        (λ _. face-never (heard_of s v.random) block v.lent (heard-never s v.random (box_at block) g.ok))
        (λ _. omega arith)

    pub box-ticks : (l : box.Lent) → ((box.BoxWords A).tick block l).reply ≢ 13
    box-ticks l = face-never (answer calls.tick) block l (core-never calls.tick (box_at block) g.ok)

-- the head
module _ (A : Address) (w : head.Words) (g : heads.Good w) where
  served-never : (r : HeadCall) (l : head.Lent) → (head.served w r l).number ≢ 13
  served-never r l =
      ⊎_elim
      (λ (e : heads.lent r w l ≡ true). rw (heads.number_is r w l e) (run-never-unsound g.reached r l.output))
      (λ (e : heads.lent r w l ≡ false). hundred (ap (λ (y : hc.Left). y.number) (heads.short r w l e)))
      (decided (heads.lent r w l))

  octets-never : (link : ℕ) (os : List ℕ) (l : head.Lent) → (hc.heard_of link os w.head w.links l.output l.reply).number ≢ 13
  unfolding hc.heard_of hc.refused_of
  octets-never link os l =
      either (λ (y : hc.Left). y.number ≢ 13) (eqb (number_of (read_of os).reply) 0) _ _
      (λ _. served-never (HeadCall.Hear link (read_of os).message) l)
      (λ _.
      either (λ (t : hc.Told). t.number ≢ 13) (hc.is_lent (length w.head) (length l.reply)) _ _
      (λ _. read-never os)
      (λ _. hundred refl))

  heard-head-never : (link : ℕ) (os : List ℕ) (l : head.Lent) → (head.heard w link os l).reply ≢ 13
  heard-head-never link os l =
      either (λ (a : run.Answer head.Words (List ℕ)). a.reply ≢ 13) (are_octets os) _ _ (λ _. octets-never link os l) (λ _. omega arith)

  begun-never : (a : Address) → number_of (fresh_of a (links_at w.links)).answer.reply ≢ 13
  begun-never a =
      let n = heads.few A w g in
      ⊎_elim
      (λ (i : is_individual a ≡ true). rw (fresh-done a (links_at w.links) n i) (omega arith))
      (λ (i : is_individual a ≡ false). rw (fresh-range a (links_at w.links) n i) (omega arith))
      (decided (is_individual a))

  pub head-asks : (c : head.Asked) → ((head.HeadWords A).call w c).reply ≢ 13
  head-asks (head.asks r l) = served-never r l
  head-asks (head.hears link os l) = heard-head-never link os l
  head-asks (head.fresh a reply) =
      ⊎_elim
      (λ (e : heads.enough A a w reply ≡ true). rw (heads.made-number A a w reply e) (begun-never a))
      (λ (e : heads.enough A a w reply ≡ false). hundred (ap (λ (y : hc.BegunLeft). y.number) (heads.made-short A a w reply e)))
      (decided (heads.enough A a w reply))
  head-asks (head.again made f) = omega arith
  head-asks (head.moves behind beyond) = omega arith

  head-hears : (v : head.Heard) (os : List ℕ) → ((head.HeadWords A).hear w v os).reply ≢ 13
  head-hears v os =
      either (λ (a : run.Answer head.Words (List ℕ)). a.reply ≢ 13) (are_octets os) _ _
      (λ _. heard-head-never v.link (stamped v.stamp os) v.lent)
      (λ _. omega arith)

-- the theorem
pub never-unsound : (A : Address) (w : head.Words) (block : List ℕ) → heads.Good w → boxes.Good A block → NeverUnsound A w block
never-unsound A w block g k =
    record {
      head-asks = head-asks A w g;
      head-hears = head-hears A w g;
      head-ticks = served-never A w g HeadCall.Tick;
      box-asks = box-asks A block k;
      box-hears = box-hears A block k;
      box-ticks = box-ticks A block k;
      head-advances = head_never A w g;
      box-advances = box-never A block k;
    }
