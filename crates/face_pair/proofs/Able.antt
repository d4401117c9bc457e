-- Head and box in words can do whatever those of the core do: it only takes enough memory, and a frame's own timestamp.
-- Assumes nothing.
use Prim.Native.Nat.{ℕ, suc, ◌+◌, ◌*◌, ◌≤◌}
use mathlib.Core.Path.{◌≡◌, refl, sym, ap, ◌∙◌}
use mathlib.Core.Bool.{true, false, and-eq-true_iff}
use mathlib.Core.List.{List, [], ◌∷◌}
use mathlib.Core.Logic.{⊎_elim}
use mathlib.Core.Option.{none}
use native.Mathlib.Omega.{arith}
use borrow.Author.Tests.{leb-true}
use lib.Dec.{eqb, leb}
use lib.ListN.{length, replicate, length-replicate}
use Rattle.laws.specs.Cases.{either, decided}
use Rattle.frame_queues.specs.Asked.{asked_of}
use Rattle.frame_queues.specs.Asking.{asked-typed}
use Rattle.frame.specs.Card.{number_of}
use Rattle.frame.specs.declared.Address.{Address}
use Rattle.frame.specs.declared.Reply.TheVariants.{Done}
use Rattle.frame_reader.specs.Decode.{read_of}
use Rattle.box_calls.specs.declared.FloorBox.{FloorBox}
use Rattle.box_laws.specs.Stated as calls
use Rattle.lent.specs.Folds.{places}
use Rattle.head_links.specs.Link.{idle}
use Rattle.head_links.specs.declared.Link.{Link}
use Rattle.head_judging.specs.declared.Call.{Call}
use Rattle.head_calls.specs.Fresh.{Freshly, fresh_of}
use Rattle.head_laws.specs.Events.{table-parts}
use Rattle.head_laws.specs.Runs.{run_sound}
use Rattle.pair_wire.specs.Carried.{octets-of}
use Rattle.pair_wire.specs.Message.{are_octets, message_in, stamped}
use Rattle.pair_wire.proofs.Stamped.{stamped-octets}
use Rattle.pair_demand.specs.Run.{Answer, End}
use Rattle.pair_demand.specs.Face.{Face}
use Rattle.pair_demand.specs.Faithful.{As, Untouched}
use Rattle.pair_demand.proofs.Face.{unchanged}
use Rattle.pair_demand.proofs.Plays.{Comes, Able}
use Rattle.pair_box.specs.End as box-end
use Rattle.pair_box.specs.End.{BoxEnd}
use Rattle.pair_head.specs.End as head-end
use Rattle.pair_head.specs.End.{HeadEnd}
use Rattle.pair_head.proofs.Fresh.{fresh-run}
use Rattle.face_head.specs.Table.{links_in, links_at}
use Rattle.face_head.proofs.Laws.{length-links}
use Rattle.face_head_calls.specs.Calls as headface
use Rattle.face_laws.proofs.HeadCalls.{fresh-length}
use Rattle.head_survey.specs.Facts.{is_few}
use Rattle.face_box_calls.specs.Calls.{is_lent, box_at, heard_of}
use Rattle.face_pair.specs.Box as box
use Rattle.face_pair.specs.Box.{BoxFace}
use Rattle.face_pair.specs.Head as head
use Rattle.face_pair.specs.Head.{HeadFace}
use Rattle.face_pair.proofs.Box as boxes
use Rattle.face_pair.proofs.BoxLeft as lefts
use Rattle.face_pair.proofs.Head as heads
use Rattle.face_pair.proofs.Reports.{worded}
use Rattle.face_pair.proofs.Stamp.{own, own-heard}
use Rattle.face_pair.proofs.Starts as starts
use Rattle.face_pair.proofs.Ticks as ticked

-- what is done as the end does it, or changes nothing where the end changes nothing
comes : {In Out : Type 0} {E : End In Out} {F : Face E} {Good : F.State → Type 0} {a : Answer F.State Out} {b : Answer E.State Out}
    → As F Good a b → Comes F Good a b
comes x = record { good = x.good; next = x.next; sent = x.sent }

stays : {In Out : Type 0} {E : End In Out} {F : Face E} {Good : F.State → Type 0} {s : F.State} {a : Answer F.State Out} (n : ℕ)
    → Untouched F Good s a → Comes F Good a (record { reply = n; next = F.stands s; sent = [] })
stays n u = record { good = u.good; next = u.next; sent = u.sent }

-- octets that the reader refuses carry nothing, nor does what isn't octets
unread-none : (os : List ℕ) → are_octets os ≡ true → eqb (number_of (read_of os).reply) 0 ≡ false → message_in os ≡ none
unfolding message_in
unread-none os h u = rw (h, u)

strange-none : (os : List ℕ) → are_octets os ≡ false → message_in os ≡ none
unfolding message_in
strange-none os h = rw h

-- THE BOX
module _ (A : Address) where
  abbrev BGood : List ℕ → Type 0
  BGood = boxes.Good A

  module _ (block : List ℕ) (g : BGood block) where
    abbrev b : FloorBox
    b = box_at block

    enough : is_lent (length block) (length (starts.lent).frames) (length (starts.lent).reply) ≡ true
    enough = ticked.box-lent-of (length block) (length (starts.lent).frames) (length (starts.lent).reply) g.room (omega arith) (omega arith)

    box-heard : (random : ℕ) (os : List ℕ) → are_octets os ≡ true
        → Comes (BoxFace A) BGood (box.answered (lefts.got (heard_of os random) block starts.lent)) ((BoxEnd A).hear b random os)
    box-heard random os h =
        ⊎_elim
        (λ (u : eqb (number_of (read_of os).reply) 0 ≡ true).
        comes (boxes.read_as A block random starts.lent os h g u enough))
        (λ (u : eqb (number_of (read_of os).reply) 0 ≡ false).
        rw (unread-none os h u) (stays 1 (boxes.unread-spares A block random starts.lent os h g u enough)))
        (decided (eqb (number_of (read_of os).reply) 0))

    box-calls : (c : box-end.Request) → box-end.Fair c → (d : box.Asked A) × box.Fair A d × Comes (BoxFace A) BGood (box.asked A block d) ((BoxEnd A).call b c)
    box-calls box-end.register f =
        (box.register starts.lent, tt, comes (boxes.lent-as A calls.register block starts.lent tt g enough))
    box-calls box-end.deregister f =
        (box.deregister starts.lent, tt, comes (boxes.lent-as A calls.deregister block starts.lent tt g enough))
    box-calls (box-end.report sets) f =
        let a = worded b sets f in
        let c = calls.report (asked_of a.number a.sets) in
        let t = asked-typed a.number a.sets (octets-of (a.number ∷ a.sets) a.octets) in
        (box.report a.number a.sets starts.lent, a.octets, rw a.same (comes (boxes.lent-as A c block starts.lent t g enough)))

    box-hears : (random : ℕ) (os : List ℕ) → (v : box.Heard) × Comes (BoxFace A) BGood (box.heard A block v os) ((BoxEnd A).hear b random os)
    box-hears random os = (
      record { random = random; stamp = own os; lent = starts.lent },
      either (λ (a : Answer (List ℕ) (List ℕ)). Comes (BoxFace A) BGood a ((BoxEnd A).hear b random os)) (are_octets os) _ _
          (λ h.
          rw (← own-heard os h)
          (box-heard random (stamped (own os) os) (stamped-octets (own os) os h)))
          (λ h. rw (strange-none os h) (stays 1 (unchanged (BoxFace A) BGood g refl refl))),
    )

  box-starts : (e : FloorBox) → (BoxEnd A).Fresh e → (s : List ℕ) × box.Fresh A s × BGood s × (box_at s ≡ e)
  box-starts e f =
      let s = (boxes.made A starts.blank starts.lent).block in
      let k : box.Fresh A s = (starts.blank, starts.lent, boxes.made-number A starts.blank starts.lent starts.enough ∙ ap number_of f.0, refl) in
      let j = boxes.fresh-faithful A s k in
      (s, k, j.0, j.1.1 ∙ sym f.1)

  pub box-able : Able (BoxFace A) BGood
  box-able =
      record {
        starts = box-starts;
        calls = box-calls;
        hears = box-hears;
        ticks = λ block g x z.
            let a = boxes.lent-as A calls.tick block starts.lent tt g (enough block g) in
            (starts.lent, a.reply ∙ z, comes a);
      }

-- THE HEAD
-- fresh links are as many as there were
idle-by : (k : ℕ) (xs ys : List Link) → length xs ≡ length ys → places (λ j l. idle) k xs ≡ places (λ j l. idle) k ys
unfolding places
idle-by k [] [] e = refl
idle-by k [] (y ∷ ys) e = absurd (omega arith)
idle-by k (x ∷ xs) [] e = absurd (omega arith)
idle-by k (x ∷ xs) (y ∷ ys) e = ap (λ (l : List Link). idle ∷ l) (idle-by (suc k) xs ys (omega arith))

fresh-alike : (a : Address) (xs ys : List Link) → length ys ≡ length xs → (fresh_of a xs).answer.reply ≡ Done → fresh_of a ys ≡ fresh_of a xs
unfolding fresh_of
fresh-alike a xs ys e d = rw (e, d, idle-by 1 ys xs e)

few-is : (n : ℕ) → is_few n ≡ true → n ≤ 64
unfolding is_few
few-is n h = leb-true n 64 ((and-eq-true_iff (leb 1 n) (leb n 64)).0 h).1

-- memory for so many links
abbrev memory : ℕ → List ℕ
memory n = replicate (5 * n) 0

memory-holds : (n : ℕ) → n ≤ 64 → links_in (length (memory n)) ≡ n
memory-holds n h =
    let e : length (memory n) ≡ 5 * n + 0 = rw length-replicate (omega arith) in
    ap links_in e ∙ heads.links-in n 0 h (omega arith)

module _ (A : Address) where
  abbrev lends : List ℕ → head.Lent
  lends out = record { output = out; reply = starts.told }

  module _ (w : head.Words) (g : heads.Good w) where
    room : headface.is_lent (length w.head) (length starts.told) ≡ true
    room = ticked.lent_of (length w.head) (length starts.told) g.room (omega arith)

    head-heard : (link : ℕ) (os out : List ℕ) → are_octets os ≡ true
        → Comes (HeadFace A) heads.Good (head.heard w link os (lends out)) (head-end.heard (head.state_at w) link out (message_in os))
    head-heard link os out h =
        rw h
        (⊎_elim
        (λ (u : eqb (number_of (read_of os).reply) 0 ≡ true).
        comes (heads.read_as A w link os (lends out) h g u room))
        (λ (u : eqb (number_of (read_of os).reply) 0 ≡ false).
        rw (unread-none os h u) (stays 1 (heads.unread-spares A w link os (lends out) h g u)))
        (decided (eqb (number_of (read_of os).reply) 0)))

    -- what isn't octets
    nothing : (link : ℕ) (os out : List ℕ) → are_octets os ≡ false
        → Comes (HeadFace A) heads.Good (record { reply = 1; next = w; sent = [] }) (head-end.heard (head.state_at w) link out (message_in os))
    nothing link os out h = rw (strange-none os h) (stays 1 (unchanged (HeadFace A) heads.Good g refl refl))

    head-calls : (c : head-end.HeadCall) → head-end.Fair A c
        → (d : head.Asked) × head.Fair A d × Comes (HeadFace A) heads.Good (head.asked w d) (head-end.call_of (head.state_at w) c)
    head-calls (head-end.asks r out) f = (head.asks r (lends out), f, comes (heads.lent-as A r w (lends out) g room))
    head-calls (head-end.hears link os out) f = (
      head.hears link os (lends out),
      f,
      ⊎_elim (head-heard link os out) (λ (h : are_octets os ≡ false). rw h (nothing link os out h)) (decided (are_octets os)),
    )

    head-hears : (v : head-end.HeadVia) (os : List ℕ)
        → (u : head.Heard) × Comes (HeadFace A) heads.Good ((HeadFace A).hear w u os) ((HeadEnd A).hear (head.state_at w) v os)
    head-hears v os = (
      record { link = v.link; stamp = own os; lent = lends v.output },
      either (λ (a : Answer head.Words (List ℕ)). Comes (HeadFace A) heads.Good a ((HeadEnd A).hear (head.state_at w) v os)) (are_octets os) _ _
          (λ h.
          rw (← own-heard os h)
          (head-heard v.link (stamped (own os) os) v.output (stamped-octets (own os) os h)))
          (nothing v.link os v.output),
    )

  head-starts : (e : head-end.HeadState) → head-end.Fresh e → (w : head.Words) × head.Fresh w × heads.Good w × (head.state_at w ≡ e)
  head-starts e f =
      let a = f.0 in
      let xs = f.1 in
      let n = length (fresh_of a xs).table in
      let u = fresh-run (record { head = (fresh_of a xs).answer.next; table = (fresh_of a xs).table }) (a, xs, f.2, refl) in
      let few = (table-parts (fresh_of a xs).table (run_sound u).table).0 in
      let zeros : head.Words = record { head = replicate 5 0; links = memory n } in
      let size : length (links_at zeros.links) ≡ length xs =
      length-links (links_in (length zeros.links)) zeros.links ∙ memory-holds n (few-is n few) ∙ fresh-length a xs in
      let same = fresh-alike a xs (links_at zeros.links) size f.2 in
      let done : (fresh_of a (links_at zeros.links)).answer.reply ≡ Done = ap (λ (y : Freshly). y.answer.reply) same ∙ f.2 in
      let k = heads.made-is A a zeros starts.told starts.room done in (
        (head.begun (heads.made A a zeros starts.told)).next,
        (a, zeros, starts.told, heads.made-number A a zeros starts.told starts.room ∙ ap number_of done, refl),
        k.0,
        k.1 ∙ ap (λ (y : Freshly). record { head = y.answer.next; table = y.table }) same ∙ sym f.3,
      )

  pub head-able : Able (HeadFace A) heads.Good
  head-able =
      record {
        starts = head-starts;
        calls = head-calls;
        hears = head-hears;
        ticks = λ w g out z.
            let a = heads.lent-as A Call.Tick w (lends out) g (room w g) in
            (lends out, a.reply ∙ z, comes a);
      }
