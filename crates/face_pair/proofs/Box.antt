-- The floor box in words is the floor box: every call over a block that a run left is the core's call, and leaves such a block again.
-- Assumes nothing.
use Prim.Native.Nat.{ℕ, ◌≤◌}
use mathlib.Core.Path.{◌≡◌, refl, sym, ap, subst, ◌∙◌}
use mathlib.Core.Bool.{Bool, true, false}
use mathlib.Core.List.{List, [], ◌∷◌, ◌++◌}
use mathlib.Core.Logic.{◌≢◌, ◌⊎◌, inl, inr, ⊎_elim}
use mathlib.Core.Option.{some}
use native.Mathlib.Omega.{arith}
use borrow.Author.Tests.{eqb-false}
use lib.Dec.{eqb}
use lib.ListN.{length, take, replicate, length-append, length-take}
use Rattle.laws.specs.Cases.{either, decided}
use Rattle.frame_queues.specs.Asked.{asked_of}
use Rattle.frame_queues.specs.Asking.{asked-typed}
use Rattle.frame.specs.Card.{number_of}
use Rattle.frame.specs.declared.Address.{Address}
use Rattle.frame.specs.declared.Message.{Message}
use Rattle.frame.specs.declared.Reply.TheVariants.{Done}
use Rattle.frame_range.specs.Fits.{is_individual}
use Rattle.frame_reader.specs.Decode.{read_of}
use Rattle.box_telling.specs.Told.{no_frames}
use Rattle.box_telling.specs.declared.Frames.{Frames}
use Rattle.face_box.specs.Box.{box_words}
use Rattle.box_calls.specs.Box.{fresh_of}
use Rattle.box_calls.specs.declared.Answer.{Answer}
use Rattle.box_calls.specs.declared.FloorBox.{FloorBox}
use Rattle.box_laws.specs.Stated as calls
use Rattle.box_laws.specs.Calls.{Outcome, unsound, refuses, accepts, outcome}
use Rattle.box_laws.proofs.Refused.{refused-unchanged}
use Rattle.box_laws.specs.Stated.{Call, answer, CallTyped}
use Rattle.face_words.specs.Laws.{laid-whole}
use Rattle.face_words.specs.Words.{laid}
use Rattle.pair_wire.specs.Carried.{octets-of, carries-valid}
use Rattle.pair_wire.specs.Message.{are_octets, message_in, stamped}
use Rattle.pair_wire.specs.Restarts.{calls_box, down_restarts}
use Rattle.pair_wire.proofs.Stamped.{stamped-octets, stamped-tested}
use Rattle.pair_demand.specs.Run as run
use Rattle.pair_demand.specs.Faithful.{As, Untouched, Does, does, spares, begins, Hears, hears, misses, Faithful}
use Rattle.pair_demand.proofs.Face.{unchanged}
use Rattle.pair_box.specs.End as core
use Rattle.pair_box.specs.End.{BoxEnd}
use Rattle.pair_box.proofs.Calls.{next-ok}
use Rattle.pair_box.proofs.Gauge.{Ok, fresh_ok}
use Rattle.pair_box.proofs.Typed.{typed-of}
use Rattle.face_box_calls.specs.Calls as face
use Rattle.face_box_calls.specs.Calls.{Left, left, words_at, box_at, is_lent, heard_of, fresh_call, box_call}
use Rattle.face_laws.proofs.Calls.{stands, stands-long, words-stand}
use Rattle.face_pair.specs.Box.{Lent, Fresh, Asked, register, deregister, report, fresh, Fair, again, moves, moved, Heard, answered, heard, BoxFace}
use Rattle.face_pair.proofs.BoxFits.{box-fits}
use Rattle.face_pair.proofs.BoxLeft.{no-sixties, call-sixties, handed-sent, lent-parts, lent, is_done, got, short, refuse-block, refuse-number, refuse-sent, short-sent, done-number, done-block, done-sent}
use Rattle.face_pair.proofs.Laid.{laid-again}
use Rattle.face_pair.proofs.Neat.{Neat, call-neat, fresh-neat}

module _ (A : Address) where
  -- what a run leaves in the block: the words of a box that a run of the core reaches
  pub record Good (block : List ℕ) : Type 0 where
    pub room : 29 ≤ length block
    pub packed : words_at block ≡ box_words (box_at block)
    pub ok : Ok A (box_at block)
    pub neat : Neat (box_at block).processes

  -- a box that a run of the core reaches, laid into a block
  module _ (b : FloorBox) (o : Ok A b) (w : Neat b.processes) (block : List ℕ) (h : 29 ≤ length block) where
    pub there : box_at (laid (box_words b) block) ≡ b
    there =
        let s = o.holds.processes.sound in
        stands b block (box-fits b s w o.count) h

    pub laid-good : Good (laid (box_words b) block)
    laid-good =
        let s = o.holds.processes.sound in
        record {
          room = rw (stands-long b block s.places h) h;
          packed = words-stand b block s.places h ∙ ap box_words (sym there);
          ok = subst (Ok A) (sym there) o;
          neat = subst (λ (x : FloorBox). Neat x.processes) (sym there) w;
        }

  -- in other memory the words are laid over themselves
  module _ (block behind : List ℕ) (g : Good block) where
    abbrev own : List ℕ
    own = box_words (box_at block)

    pub front : take 29 block ≡ own
    unfolding words_at
    front = sym (laid-whole block (replicate 29 0) g.room) ∙ g.packed

    long : 29 ≤ length (own ++ behind)
    long =
        let n : length own ≡ 29 = ap length (sym front) ∙ simp length-take (omega (arith, g.room)) in
        rw length-append (omega (arith, n))

    anew : moved block behind ≡ laid own (own ++ behind)
    anew = ap (λ (w : List ℕ). w ++ behind) front ∙ sym (laid-again own behind)

    pub moved-good : Good (moved block behind)
    moved-good = subst Good (sym anew) (laid-good (box_at block) g.ok g.neat (own ++ behind) long)

    pub moved-box : box_at (moved block behind) ≡ box_at block
    moved-box = ap box_at anew ∙ there (box_at block) g.ok g.neat (own ++ behind) long

  -- what the core's call keeps
  ok-by : (c : Call) (b : FloorBox) → CallTyped c → Ok A b → Outcome c b (answer c b) → Ok A (answer c b).next
  ok-by c b t o (unsound s e) = rw e o
  ok-by c b t o (refuses s r n u e) = rw e o
  ok-by c b t o (accepts s h e) = next-ok A c b o t h e

  pub call_ok : (c : Call) (b : FloorBox) → CallTyped c → Ok A b → Ok A (answer c b).next
  call_ok c b t o = ok-by c b t o (outcome c b)

  module _ (c : Call) (block : List ℕ) (l : Lent) (t : CallTyped c) (g : Good block) where
    abbrev b : FloorBox
    b = box_at block

    abbrev x : Answer
    x = answer c b

    abbrev is : run.Answer (List ℕ) (List ℕ)
    is = answered (box_call (answer c) block l.frames l.reply)

    done-as : lent (answer c) block l ≡ true → is_done (answer c) block l ≡ true → As (BoxFace A) Good is (core.told x)
    done-as e n =
        let room = (lent-parts (length block) (length l.frames) (length l.reply) e).0 in
        let o = call_ok c b t g.ok in
        let w = call-neat c b t g.neat in
        let at = done-block (answer c) block l e n in
        record {
          good = subst Good (sym at) (laid-good x.next o w block room);
          reply = done-number (answer c) block l e n;
          next = ap box_at at ∙ there x.next o w block room;
          sent = done-sent (answer c) block l e n (call-sixties c b);
        }

    refused_as : lent (answer c) block l ≡ true → is_done (answer c) block l ≡ false → As (BoxFace A) Good is (core.told x)
    refused_as e n =
        let at = refuse-block (answer c) block l e n in
        let u = refused-unchanged c b (λ (d : x.reply ≡ Done). eqb-false (number_of x.reply) 0 n (ap number_of d)) in
        record {
          good = subst Good (sym at) g;
          reply = refuse-number (answer c) block l e n;
          next = ap box_at at ∙ sym u.next;
          sent = refuse-sent (answer c) block l e n ∙ sym (ap (λ (f : Frames). core.frames_in f.number f) u.frames);
        }

    -- enough was lent: the call is the core's
    pub lent-as : lent (answer c) block l ≡ true → As (BoxFace A) Good is (core.told x)
    lent-as e = ⊎_elim (done-as e) (refused_as e) (decided (is_done (answer c) block l))

  -- too little: nothing is touched
  pub short-spares : (f : FloorBox → Answer) (block : List ℕ) (l : Lent) → Good block → lent f block l ≡ false
      → Untouched (BoxFace A) Good block (answered (got f block l))
  short-spares f block l g e = unchanged (BoxFace A) Good g (ap (λ (y : Left). y.block) (short f block l e)) (short-sent f block l e)

  call-does : (c : Call) (q : core.Request) (block : List ℕ) (l : Lent) → CallTyped c → core.Fair q → Good block
      → core.told (answer c (box_at block)) ≡ (BoxEnd A).call (box_at block) q
      → Does (BoxFace A) Good block (answered (box_call (answer c) block l.frames l.reply))
  call-does c q block l t f g e =
      ⊎_elim
      (λ (n : lent (answer c) block l ≡ true).
      does q f (subst (As (BoxFace A) Good (answered (box_call (answer c) block l.frames l.reply))) e (lent-as c block l t g n)))
      (λ (n : lent (answer c) block l ≡ false). spares (short-spares (answer c) block l g n))
      (decided (lent (answer c) block l))

  -- a fresh box
  individual : number_of (fresh_of A).reply ≡ 0 → is_individual A ≡ true
  unfolding fresh_of
  individual z =
      ⊎_elim (λ (i : is_individual A ≡ true). i)
      (λ (i : is_individual A ≡ false).
      let four : number_of (fresh_of A).reply ≡ 4 = rw i in
      absurd (omega arith))
      (decided (is_individual A))

  pub begun-done : is_individual A ≡ true → (fresh_of A).reply ≡ Done
  unfolding fresh_of
  begun-done i = rw i

  begun-frames : is_individual A ≡ true → (fresh_of A).frames ≡ no_frames
  unfolding fresh_of
  begun-frames i = rw i

  begun-neat : is_individual A ≡ true → Neat (fresh_of A).next.processes
  unfolding fresh_of
  begun-neat i = rw i fresh-neat

  module _ (block : List ℕ) (l : Lent) where
    abbrev pub made : Left
    made = fresh_call A.0 block l.frames l.reply

    abbrev pub enough : Bool
    enough = is_lent (length block) (length l.frames) (length l.reply)

    pub made-short : enough ≡ false → made ≡ left 100 block l.frames l.reply
    unfolding fresh_call
    made-short e = rw e

    made-handed : enough ≡ true → made ≡ face.handed (fresh_of A) block l.frames l.reply
    unfolding fresh_call
    made-handed e = rw e

    pub made-number : enough ≡ true → made.number ≡ number_of (fresh_of A).reply
    unfolding face.handed face.told_of
    made-number e = ap (λ (y : Left). y.number) (made-handed e)

    made-block : enough ≡ true → made.block ≡ laid (box_words (fresh_of A).next) block
    unfolding face.handed
    made-block e = ap (λ (y : Left). y.block) (made-handed e)

    module _ (e : enough ≡ true) (i : is_individual A ≡ true) where
      abbrev begun_ok : Ok A (fresh_of A).next
      begun_ok = fresh_ok A (fresh_of A).next (begun-done i, refl)

      abbrev wide : (29 ≤ length block) × (19 ≤ length l.reply)
      wide = lent-parts (length block) (length l.frames) (length l.reply) e

      pub made-good : Good made.block
      made-good = subst Good (sym (made-block e)) (laid-good (fresh_of A).next begun_ok (begun-neat i) block wide.0)

      pub made-fresh : (BoxEnd A).Fresh (box_at made.block)
      made-fresh =
          (begun-done i, ap box_at (made-block e) ∙ there (fresh_of A).next begun_ok (begun-neat i) block wide.0)

      pub made-sent : (answered made).sent ≡ []
      made-sent =
          ap (λ (y : Left). (answered y).sent) (made-handed e)
          ∙ handed-sent (fresh_of A) block l (rw (begun-done i)) wide.1 (rw (begun-frames i) no-sixties)
          ∙ ap (λ (f : Frames). core.frames_in f.number f) (begun-frames i)

    pub fresh-stands : made.number ≡ 0 → Good made.block × (BoxEnd A).Fresh (box_at made.block)
    fresh-stands z =
        ⊎_elim
        (λ (e : enough ≡ true).
        let i = individual (sym (made-number e) ∙ z) in
        (made-good e i, made-fresh e i))
        (λ (e : enough ≡ false).
        let far : made.number ≡ 100 = ap (λ (y : Left). y.number) (made-short e) in
        absurd (omega arith))
        (decided enough)

    pub fresh-does : Good block → Does (BoxFace A) Good block (answered made)
    fresh-does g =
        let i : is_individual A ≡ true = ap is_individual (sym g.ok.address) ∙ g.ok.holds.address in
        ⊎_elim
        (λ (e : enough ≡ true). begins (made-good e i) (made-fresh e i) (made-sent e i))
        (λ (e : enough ≡ false).
        spares (unchanged (BoxFace A) Good g (ap (λ (y : Left). y.block) (made-short e)) (ap (λ (y : Left). (answered y).sent) (made-short e))))
        (decided enough)

    pub fresh-number : Good block → made.number ≢ 13
    fresh-number g =
        let i : is_individual A ≡ true = ap is_individual (sym g.ok.address) ∙ g.ok.holds.address in
        ⊎_elim
        (λ (e : enough ≡ true). rw (made-number e, begun-done i) (omega arith))
        (λ (e : enough ≡ false). rw (made-short e) (omega arith))
        (decided enough)

  pub fresh-faithful : (block : List ℕ) → Fresh A block → Good block × (BoxEnd A).Fresh (box_at block)
  fresh-faithful block f =
      subst (λ (w : List ℕ). Good w × (BoxEnd A).Fresh (box_at w)) (sym f.3) (fresh-stands f.0 f.1 f.2)

  call-faithful : (block : List ℕ) (c : Asked A) → Good block → Fair A c → Does (BoxFace A) Good block ((BoxFace A).call block c)
  call-faithful block (register l) g f = call-does calls.register core.register block l tt tt g refl
  call-faithful block (deregister l) g f = call-does calls.deregister core.deregister block l tt tt g refl
  call-faithful block (report number sets l) g f =
      let s = asked_of number sets in
      let t = asked-typed number sets (octets-of (number ∷ sets) f) in
      call-does (calls.report s) (core.report s) block l t t g refl
  call-faithful block (fresh l) g f = fresh-does block l g
  call-faithful block (again made f) g k = let s = fresh-faithful made f in begins s.0 s.1 refl
  call-faithful block (moves behind) g f =
      spares (record { good = moved-good block behind g; next = moved-box block behind g; sent = refl })

  -- octets
  module _ (block : List ℕ) (random : ℕ) (l : Lent) (os : List ℕ) (h : are_octets os ≡ true) (g : Good block) where
    abbrev heeds : FloorBox → Answer
    heeds = heard_of os random

    abbrev read : Message
    read = (read_of os).message

    abbrev reads : Bool
    reads = eqb (number_of (read_of os).reply) 0

    carries : reads ≡ true → message_in os ≡ some read
    unfolding message_in
    carries u = rw (h, u)

    pub as-heard : reads ≡ true → box_call heeds block l.frames l.reply ≡ box_call (answer (calls.hear read random)) block l.frames l.reply
    unfolding box_call heard_of
    as-heard u = rw u

    pub unread : reads ≡ false → is_done heeds block l ≡ false
    unfolding heard_of
    unread u = rw (u, u)

    abbrev Out : Type 0
    Out = As (BoxFace A) Good (answered (got heeds block l)) ((BoxEnd A).hear (box_at block) random os)
        ⊎ Untouched (BoxFace A) Good block (answered (got heeds block l))

    pub read-typed : reads ≡ true → CallTyped (calls.hear read random)
    read-typed u = typed-of read (carries-valid os read (carries u))

    pub read_as : reads ≡ true → lent heeds block l ≡ true → As (BoxFace A) Good (answered (got heeds block l)) ((BoxEnd A).hear (box_at block) random os)
    read_as u e =
        let c = calls.hear read random in
        let t = read-typed u in
        subst (λ (y : Left). As (BoxFace A) Good (answered y) ((BoxEnd A).hear (box_at block) random os)) (sym (as-heard u))
        (rw (carries u) (lent-as c block l t g e))

    pub unread-spares : reads ≡ false → lent heeds block l ≡ true → Untouched (BoxFace A) Good block (answered (got heeds block l))
    unread-spares u e = unchanged (BoxFace A) Good g (refuse-block heeds block l e (unread u)) (refuse-sent heeds block l e (unread u))

    pub octets-out : Out
    octets-out =
        ⊎_elim
        (λ (e : lent heeds block l ≡ true).
        ⊎_elim (λ (u : reads ≡ true). inl (read_as u e)) (λ (u : reads ≡ false). inr (unread-spares u e)) (decided reads))
        (λ (e : lent heeds block l ≡ false). inr (short-spares heeds block l g e))
        (decided (lent heeds block l))

  -- a frame that is stamped anew restarts what it did
  restarts-again : (n : ℕ) (os : List ℕ) → are_octets os ≡ true → down_restarts A os ≡ false → down_restarts A (stamped n os) ≡ false
  restarts-again n os h z = stamped-tested (calls_box A) (λ x y a. rw (a.destination, a.body)) n os h ∙ z

  hear-faithful : (block : List ℕ) (v : Heard) (os : List ℕ) → Good block → Hears (BoxFace A) Good (down_restarts A) block os (heard A block v os)
  hear-faithful block v os g =
      let s = stamped v.stamp os in
      either (Hears (BoxFace A) Good (down_restarts A) block os) (are_octets os) _ _
      (λ h.
      ⊎_elim
      (λ (a : As (BoxFace A) Good (answered (got (heard_of s v.random) block v.lent)) ((BoxEnd A).hear (box_at block) v.random s)).
      hears v.random s (restarts-again v.stamp os h) a)
      (λ (u : Untouched (BoxFace A) Good block (answered (got (heard_of s v.random) block v.lent))). misses u)
      (octets-out block v.random v.lent s (stamped-octets v.stamp os h) g))
      (λ _. misses (unchanged (BoxFace A) Good g refl refl))

  tick-faithful : (block : List ℕ) (l : Lent) → Good block → ((BoxFace A).tick block l).reply ≡ 0
      → Unit {0} × As (BoxFace A) Good ((BoxFace A).tick block l) ((BoxEnd A).tick (box_at block) tt)
  tick-faithful block l g z =
      ⊎_elim
      (λ (e : lent (answer calls.tick) block l ≡ true). (tt, lent-as calls.tick block l tt g e))
      (λ (e : lent (answer calls.tick) block l ≡ false).
      let far : (got (answer calls.tick) block l).number ≡ 100 = ap (λ (y : Left). y.number) (short (answer calls.tick) block l e) in
      absurd (omega arith))
      (decided (lent (answer calls.tick) block l))

  pub box-faithful : Faithful (BoxFace A) Good (down_restarts A)
  box-faithful =
      record {
        fresh = fresh-faithful;
        of-call = call-faithful;
        of-hear = hear-faithful;
        of-tick = tick-faithful;
      }
