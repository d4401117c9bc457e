-- The head in words is the head: every call over words that a run left is the core's call, and leaves such words again.
-- Assumes nothing.
use Prim.Native.Nat.{ℕ, ◌+◌, ◌*◌, ◌/◌, ◌≤◌, ◌<◌}
use mathlib.Core.Path.{◌≡◌, refl, sym, ap, subst, ◌∙◌}
use mathlib.Core.Bool.{Bool, true, false, and-eq-true_iff}
use mathlib.Core.List.{List, [], ◌++◌}
use mathlib.Core.Logic.{◌≢◌, ◌⊎◌, inl, inr, ⊎_elim}
use mathlib.Core.Option.{some}
use native.Mathlib.Omega.{arith}
use borrow.Author.Tests.{leb-true, le-leb, eqb-false}
use lib.Dec.{eqb, leb}
use lib.ListN.{length, take, drop, replicate, length-append, length-take}
use lib.Seq.{take_at}
use Rattle.laws.specs.Cases.{either, decided}
use Rattle.frame.specs.Card.{number_of}
use Rattle.frame.specs.declared.Address.{Address}
use Rattle.frame.specs.declared.Message.{Message}
use Rattle.frame.specs.declared.Reply.TheVariants.{Done}
use Rattle.frame_range.specs.Fits.{is_individual}
use Rattle.frame_reader.specs.Decode.{read_of}
use Rattle.head_state.specs.declared.Head.{Head as Core}
use Rattle.head_links.specs.declared.Link.{Link}
use Rattle.head_survey.specs.Facts.{is_few}
use Rattle.head_judging.specs.declared.Call.{Call}
use Rattle.head_calls.specs.Fresh.{Freshly, is_done, fresh_of}
use Rattle.head_calls.specs.Serve.{Served, serve_of}
use Rattle.head_laws.specs.Events.{table-parts}
use Rattle.head_laws.specs.Fresh.{fresh-unsound, fresh-range, fresh-done}
use Rattle.head_laws.specs.Refusals.{refused-unchanged}
use Rattle.head_laws.specs.Runs.{run_sound}
use Rattle.head_laws.specs.Stated.{Run, calls}
use Rattle.head_laws.specs.Sound.{call_length}
use Rattle.face_words.specs.Laws.{laid-over, laid-whole}
use Rattle.face_words.specs.Words.{laid}
use Rattle.pair_wire.specs.Message.{are_octets, message_in, stamped}
use Rattle.pair_wire.specs.Restarts.{restarts_head, up_restarts}
use Rattle.pair_wire.proofs.Stamped.{stamped-octets, stamped-tested}
use Rattle.pair_demand.specs.Faithful.{As, Untouched, Does, does, spares, begins, Hears, misses, Faithful}
use Rattle.pair_demand.specs.Faithful as face
use Rattle.pair_demand.proofs.Face.{unchanged}
use Rattle.pair_head.specs.End as end
use Rattle.pair_head.specs.End.{HeadState, frames_in, HeadEnd}
use Rattle.pair_head.proofs.Fresh.{fresh-run}
use Rattle.face_head.specs.Head.{head_words}
use Rattle.face_head.proofs.Laws.{links-few, length-links, length-table}
use Rattle.face_head.specs.Table.{table_words, links_in, links_at}
use Rattle.face_head_calls.specs.Calls.{Left, left, BegunLeft, begun_left, head_at, is_lent, laid_head, kept_head, kept_links, begun_head, handed, served_of, refused_of, heard_of, cleared, begun_of}
use Rattle.face_laws.proofs.HeadCalls as trip
use Rattle.face_laws.proofs.HeadCalls.{fresh-length, is-handed, left_there, told-number}
use Rattle.face_pair.specs.Head.{Words, state_at, Lent, Asked, asks, hears, fresh, again, moves, moved, Heard, sent_in, answered, begun, served, asked, Fair, HeadFace}
use Rattle.face_pair.proofs.HeadFits.{head-fits, links-fit}
use Rattle.face_pair.proofs.Laid.{length-laid, laid-again}

-- what a run leaves in the words: those of a head and a table that a run of the core reaches
pub record Good (w : Words) : Type 0 where
  pub room : 5 ≤ length w.head
  pub reached : Run (head_at w.head) (links_at w.links)
  pub head-packed : laid w.head (replicate 5 0) ≡ head_words (head_at w.head)
  pub links-packed : take (5 * links_in (length w.links)) w.links ≡ table_words (links_at w.links)

-- laid into words, they stand there
head-stand : (h : Core) (block : List ℕ) → 5 ≤ length block → laid (laid (head_words h) block) (replicate 5 0) ≡ head_words h
unfolding head_words
head-stand h block n =
    let long : 5 ≤ length (head_words h ++ drop 5 block) = rw length-append (omega arith) in
    ap (λ (w : List ℕ). laid w (replicate 5 0)) (laid-over (head_words h) block n)
    ∙ laid-whole (head_words h ++ drop 5 block) (replicate 5 0) long
    ∙ take_at (head_words h) (drop 5 block) 5 refl

-- as many words as before, so as many links
links-stand : (xs : List Link) (ws : List ℕ) → length xs ≡ links_in (length ws)
    → take (5 * links_in (length (laid (table_words xs) ws))) (laid (table_words xs) ws) ≡ table_words xs
links-stand xs ws e =
    let n = links_in (length ws) in
    let size : length (table_words xs) ≡ 5 * n = length-table xs ∙ ap (λ (k : ℕ). 5 * k) e in
    let room : length (table_words xs) ≤ length ws = omega (arith, size, (links-few (length ws)).1) in
    ap (λ (k : ℕ). take (5 * links_in k) (laid (table_words xs) ws)) (length-laid (table_words xs) ws)
    ∙ ap (take (5 * n)) (laid-over (table_words xs) ws room)
    ∙ take_at (table_words xs) (drop (length (table_words xs)) ws) (5 * n) size

-- a head and a table that a run of the core reaches, laid over words that hold as many links
module _ {h : Core} {xs : List Link} (u : Run h xs) (w : Words) (room : 5 ≤ length w.head) (e : length xs ≡ links_in (length w.links)) where
  abbrev pub over : Words
  over = record { head = laid (head_words h) w.head; links = laid (table_words xs) w.links }

  pub over-is : state_at over ≡ record { head = h; table = xs }
  over-is = rw (trip.head-stands h w.head (head-fits u) room, trip.links-stand xs w.links (links-fit u) e)

  pub laid-good : Good over
  laid-good =
      record {
        room = rw (length-laid (head_words h) w.head) room;
        reached = subst (λ (s : HeadState). Run s.head s.table) (sym over-is) u;
        head-packed = head-stand h w.head room ∙ ap (λ (s : HeadState). head_words s.head) (sym over-is);
        links-packed = links-stand xs w.links e ∙ ap (λ (s : HeadState). table_words s.table) (sym over-is);
      }

-- fewer than five words are no link
pub links-in : (n t : ℕ) → n ≤ 64 → t < 5 → links_in (5 * n + t) ≡ n
unfolding links_in
links-in n t few less =
    let n-is : (5 * n + t) / 5 ≡ n = omega arith in
    rw (n-is, le-leb n 64 few)

-- in other memory the words are laid over themselves
module _ (w : Words) (behind beyond : List ℕ) (less : length beyond < 5) where
  abbrev number : ℕ
  number = links_in (length w.links)

  moved-links : links_in (length (moved w behind beyond).links) ≡ number
  moved-links =
      let k = links-few (length w.links) in
      let n : length (moved w behind beyond).links ≡ 5 * number + length beyond = simp (length-append, length-take) (omega (arith, k.1)) in
      rw n (links-in number (length beyond) k.0 less)

  module _ (g : Good w) where
    abbrev own : List ℕ
    own = head_words (head_at w.head)

    abbrev table : List Link
    table = links_at w.links

    front : take 5 w.head ≡ own
    front = sym (laid-whole w.head (replicate 5 0) g.room) ∙ g.head-packed

    abbrev m : Words
    m = moved w behind beyond

    wide : 5 ≤ length m.head
    wide = simp (length-append, length-take) (omega (arith, g.room))

    as_many : length table ≡ links_in (length m.links)
    as_many = length-links number w.links ∙ sym moved-links

    anew : over g.reached m wide as_many ≡ m
    anew =
        let h : laid own m.head ≡ m.head =
        ap (λ (f : List ℕ). laid own (f ++ behind)) front ∙ laid-again own behind ∙ ap (λ (f : List ℕ). f ++ behind) (sym front) in
        let k : laid (table_words table) m.links ≡ m.links =
        ap (λ (f : List ℕ). laid (table_words table) (f ++ beyond)) g.links-packed
        ∙ laid-again (table_words table) beyond
        ∙ ap (λ (f : List ℕ). f ++ beyond) (sym g.links-packed) in
        rw (h, k)

    pub moved-good : Good m
    moved-good = subst Good anew (laid-good g.reached m wide as_many)

    pub moved-state : state_at m ≡ state_at w
    moved-state = ap state_at (sym anew) ∙ over-is g.reached m wide as_many

five : (a b : ℕ) → is_lent a b ≡ true → 5 ≤ a
unfolding is_lent
five a b e = leb-true 5 a ((and-eq-true_iff (leb 5 a) (leb 10 b)).0 e).0

ten-told : (a b : ℕ) → is_lent a b ≡ true → 10 ≤ b
unfolding is_lent
ten-told a b e = leb-true 10 b ((and-eq-true_iff (leb 5 a) (leb 10 b)).0 e).1

module _ (r : Call) (w : Words) (l : Lent) where
  abbrev pub lent : Bool
  lent = is_lent (length w.head) (length l.reply)

  abbrev x : Served
  x = serve_of (head_at w.head) (links_at w.links) r l.output

  abbrev got : Left
  got = served w r l

  pub short : lent ≡ false → got ≡ left 100 w.head w.links l.output l.reply
  unfolding served_of
  short e = rw e

  module _ (e : lent ≡ true) where
    pub number_is : got.number ≡ number_of x.answer.reply
    unfolding handed
    number_is = ap (λ (y : Left). y.number) (is-handed r w.head w.links l.output l.reply e)

    done-sent : is_done x.answer.reply ≡ true → sent_in got ≡ frames_in x.answer.frames x.octets
    unfolding handed
    done-sent n =
        ap sent_in (is-handed r w.head w.links l.output l.reply e)
        ∙ rw (n, told-number x.answer l.reply (ten-told (length w.head) (length l.reply) e))

    refused-sent : is_done x.answer.reply ≡ false → sent_in got ≡ frames_in x.answer.frames x.octets
    refused-sent n =
        let other : x.answer.reply ≢ Done = λ (d : x.answer.reply ≡ Done). eqb-false (number_of x.answer.reply) 0 n (ap number_of d) in
        let none : sent_in got ≡ [] = rw (number_is, n) in
        none ∙ sym (ap (λ (y : Served). frames_in y.answer.frames y.octets) (refused-unchanged (head_at w.head) (links_at w.links) r l.output other))

    pub sent_is : sent_in got ≡ frames_in x.answer.frames x.octets
    sent_is = ⊎_elim done-sent refused-sent (decided (is_done x.answer.reply))

    module _ (g : Good w) where
      next-run : Run x.answer.next x.table
      next-run = calls (head_at w.head) (links_at w.links) g.reached r l.output

      abbrev there : (head_at got.head ≡ x.answer.next) × (links_at got.links ≡ x.table)
      there = left_there r w.head w.links l.output l.reply e (head-fits next-run) (links-fit next-run)

      pub next-is : state_at (answered got).next ≡ (end.asked (state_at w) r l.output).next
      next-is = let k = there in rw (k.0, k.1)

      -- done: the words of the head and of its links are laid over the old ones
      done-good : is_done x.answer.reply ≡ true → Good (answered got).next
      unfolding handed kept_head kept_links laid_head
      done-good n =
          let at = is-handed r w.head w.links l.output l.reply e in
          let h : got.head ≡ laid (head_words x.answer.next) w.head = ap (λ (y : Left). y.head) at ∙ rw n in
          let k : got.links ≡ laid (table_words x.table) w.links = ap (λ (y : Left). y.links) at ∙ rw n in
          let few : length x.table ≡ links_in (length w.links) =
          call_length (head_at w.head) (links_at w.links) r l.output ∙ length-links (links_in (length w.links)) w.links in
          let is : (answered got).next ≡ over next-run w g.room few = rw (h, k) in
          subst Good (sym is) (laid-good next-run w g.room few)

      -- refused: the words are as they were
      refused-good : is_done x.answer.reply ≡ false → Good (answered got).next
      unfolding handed kept_head kept_links
      refused-good n =
          let at = is-handed r w.head w.links l.output l.reply e in
          let h : got.head ≡ w.head = ap (λ (y : Left). y.head) at ∙ rw n in
          let k : got.links ≡ w.links = ap (λ (y : Left). y.links) at ∙ rw n in
          let same : (answered got).next ≡ w = rw (h, k) in
          subst Good (sym same) g

      pub next-good : Good (answered got).next
      next-good = ⊎_elim done-good refused-good (decided (is_done x.answer.reply))

-- what a call does, enough lent or not
module _ (A : Address) where
  pub lent-as : (r : Call) (w : Words) (l : Lent) → Good w → lent r w l ≡ true
      → As (HeadFace A) Good (answered (served w r l)) (end.asked (state_at w) r l.output)
  lent-as r w l g e =
      record { good = next-good r w l e g; reply = number_is r w l e; next = next-is r w l e g; sent = sent_is r w l e }

  pub short-spares : (r : Call) (w : Words) (l : Lent) → Good w → lent r w l ≡ false → Untouched (HeadFace A) Good w (answered (served w r l))
  short-spares r w l g e =
      unchanged (HeadFace A) Good g (ap (λ (y : Left). (answered y).next) (short r w l e)) (ap sent_in (short r w l e))

  -- octets
  module _ (w : Words) (link : ℕ) (os : List ℕ) (l : Lent) (h : are_octets os ≡ true) where
    abbrev read : Message
    read = (read_of os).message

    abbrev reads : Bool
    reads = eqb (number_of (read_of os).reply) 0

    abbrev pub is : Left
    is = heard_of link os w.head w.links l.output l.reply

    carries : reads ≡ true → message_in os ≡ some read
    unfolding message_in
    carries u = rw (h, u)

    as-heard : reads ≡ true → is ≡ served w (Call.Hear link read) l
    unfolding heard_of
    as-heard u = rw u

    unread : reads ≡ false
        → is ≡ left (refused_of (read_of os).reply w.head l.reply).number w.head w.links l.output (refused_of (read_of os).reply w.head l.reply).reply
    unfolding heard_of
    unread u = rw u

    pub unread-number : reads ≡ false → (is.number ≡ 100) ⊎ (is.number ≡ number_of (read_of os).reply)
    unfolding refused_of
    unread-number u =
        ⊎_elim
        (λ (e : is_lent (length w.head) (length l.reply) ≡ true). inr (ap (λ (y : Left). y.number) (unread u) ∙ rw e))
        (λ (e : is_lent (length w.head) (length l.reply) ≡ false). inl (ap (λ (y : Left). y.number) (unread u) ∙ rw e))
        (decided (is_lent (length w.head) (length l.reply)))

    unread-sent : reads ≡ false → sent_in is ≡ []
    unread-sent u =
        ⊎_elim (λ (n : is.number ≡ 100). rw n) (λ (n : is.number ≡ number_of (read_of os).reply). rw (n, u)) (unread-number u)

    pub unread-spares : Good w → reads ≡ false → Untouched (HeadFace A) Good w (answered is)
    unread-spares g u = unchanged (HeadFace A) Good g (ap (λ (y : Left). (answered y).next) (unread u)) (unread-sent u)

    abbrev Out : Type 0
    Out = As (HeadFace A) Good (answered is) (end.heard (state_at w) link l.output (message_in os)) ⊎ Untouched (HeadFace A) Good w (answered is)

    pub read_as : Good w → reads ≡ true → lent (Call.Hear link read) w l ≡ true
        → As (HeadFace A) Good (answered is) (end.heard (state_at w) link l.output (message_in os))
    read_as g u e = rw (as-heard u, carries u) (lent-as (Call.Hear link read) w l g e)

    read_out : Good w → reads ≡ true → Out
    read_out g u =
        let r = Call.Hear link read in
        ⊎_elim
        (λ (e : lent r w l ≡ true). inl (read_as g u e))
        (λ (e : lent r w l ≡ false). inr (rw (as-heard u) (short-spares r w l g e)))
        (decided (lent r w l))

    pub octets-out : Good w → Out
    octets-out g =
        ⊎_elim (read_out g) (λ (u : reads ≡ false). inr (unread-spares g u)) (decided reads)

  -- a fresh head
  module _ (a : Address) (w : Words) (reply : List ℕ) where
    abbrev pub made : BegunLeft
    made = begun_of a w.head w.links reply

    abbrev pub enough : Bool
    enough = is_lent (length w.head) (length reply)

    pub made-short : enough ≡ false → made ≡ begun_left 100 w.head w.links reply
    unfolding begun_of
    made-short e = rw e

    pub made-number : enough ≡ true → made.number ≡ number_of (fresh_of a (links_at w.links)).answer.reply
    unfolding begun_of cleared
    made-number e = rw e

    -- what `fresh` promises
    abbrev from : HeadState
    from = record { head = (fresh_of a (links_at w.links)).answer.next; table = (fresh_of a (links_at w.links)).table }

    made-handed : enough ≡ true → made ≡ cleared (fresh_of a (links_at w.links)) w.head w.links reply
    unfolding begun_of
    made-handed e = rw e

    pub made-is : enough ≡ true → (fresh_of a (links_at w.links)).answer.reply ≡ Done
        → Good (begun made).next × (state_at (begun made).next ≡ from)
    unfolding cleared begun_head kept_links laid_head
    made-is e d =
        let y = fresh_of a (links_at w.links) in
        let f : end.Fresh from = (a, links_at w.links, d, refl) in
        let u = fresh-run from f in
        let h : made.head ≡ laid (head_words y.answer.next) w.head = ap (λ (z : BegunLeft). z.head) (made-handed e) ∙ rw d in
        let j : made.links ≡ laid (table_words y.table) w.links = ap (λ (z : BegunLeft). z.links) (made-handed e) ∙ rw d in
        let few : length y.table ≡ links_in (length w.links) =
        fresh-length a (links_at w.links) ∙ length-links (links_in (length w.links)) w.links in
        let room = five (length w.head) (length reply) e in
        let is : (begun made).next ≡ over u w room few = rw (h, j) in
        (subst Good (sym is) (laid-good u w room few), ap state_at is ∙ over-is u w room few)

    pub made-stands : enough ≡ true → (fresh_of a (links_at w.links)).answer.reply ≡ Done
        → Good (begun made).next × end.Fresh (state_at (begun made).next)
    made-stands e d = let k = made-is e d in (k.0, (a, links_at w.links, d, k.1))

  -- one that was answered 0 is done
  done-by : (a : Address) (xs : List Link) → number_of (fresh_of a xs).answer.reply ≡ 0 → (fresh_of a xs).answer.reply ≡ Done
  done-by a xs z =
      ⊎_elim
      (λ (n : is_few (length xs) ≡ true).
      ⊎_elim (λ (i : is_individual a ≡ true). ap (λ (f : Freshly). f.answer.reply) (fresh-done a xs n i))
      (λ (i : is_individual a ≡ false). absurd (omega (arith, ap (λ (f : Freshly). number_of f.answer.reply) (fresh-range a xs n i))))
      (decided (is_individual a)))
      (λ (n : is_few (length xs) ≡ false). absurd (omega (arith, ap (λ (f : Freshly). number_of f.answer.reply) (fresh-unsound a xs n))))
      (decided (is_few (length xs)))

  pub fresh-faithful : (w : Words) → (HeadFace A).Fresh w → Good w × end.Fresh (state_at w)
  fresh-faithful w f =
      let a = f.0 in
      let old = f.1 in
      let reply = f.2 in
      subst (λ (v : Words). Good v × end.Fresh (state_at v)) (sym f.4)
      (⊎_elim
      (λ (e : enough a old reply ≡ true).
      made-stands a old reply e (done-by a (links_at old.links) (sym (made-number a old reply e) ∙ f.3)))
      (λ (e : enough a old reply ≡ false).
      let far : (made a old reply).number ≡ 100 = ap (λ (y : BegunLeft). y.number) (made-short a old reply e) in
      absurd (omega (arith, f.3)))
      (decided (enough a old reply)))

  pub few : (w : Words) → Good w → is_few (length (links_at w.links)) ≡ true
  few w g = (table-parts (links_at w.links) (run_sound g.reached).table).0

  call-faithful : (w : Words) (c : Asked) → Good w → Fair A c → Does (HeadFace A) Good w (asked w c)
  call-faithful w (asks r l) g f =
      ⊎_elim (λ (e : lent r w l ≡ true). does (end.asks r l.output) f (lent-as r w l g e))
      (λ (e : lent r w l ≡ false). spares (short-spares r w l g e))
      (decided (lent r w l))
  call-faithful w (hears link os l) g f =
      either (Does (HeadFace A) Good w) (are_octets os) _ _
      (λ h.
      ⊎_elim
      (λ (a : As (HeadFace A) Good (answered (is w link os l h)) (end.heard (state_at w) link l.output (message_in os))).
      does (end.hears link os l.output) f a)
      (λ (u : Untouched (HeadFace A) Good w (answered (is w link os l h))). spares u)
      (octets-out w link os l h g))
      (λ _. spares (unchanged (HeadFace A) Good g refl refl))
  call-faithful w (fresh a reply) g i =
      ⊎_elim
      (λ (e : enough a w reply ≡ true).
      let k = made-stands a w reply e (ap (λ (f : Freshly). f.answer.reply) (fresh-done a (links_at w.links) (few w g) i)) in
      begins k.0 k.1 refl)
      (λ (e : enough a w reply ≡ false). spares (unchanged (HeadFace A) Good g (ap (λ (y : BegunLeft). (begun y).next) (made-short a w reply e)) refl))
      (decided (enough a w reply))
  call-faithful w (again made f) g i = let s = fresh-faithful made f in begins s.0 s.1 refl
  call-faithful w (moves behind beyond) g less =
      spares (record { good = moved-good w behind beyond less g; next = moved-state w behind beyond less g; sent = refl })

  restarts-again : (n : ℕ) (os : List ℕ) → are_octets os ≡ true → up_restarts os ≡ false → up_restarts (stamped n os) ≡ false
  restarts-again n os h z = stamped-tested (λ m. restarts_head m.body) (λ x y a. rw a.body) n os h ∙ z

  hear-faithful : (w : Words) (v : Heard) (os : List ℕ) → Good w → Hears (HeadFace A) Good up_restarts w os ((HeadFace A).hear w v os)
  hear-faithful w v os g =
      let s = stamped v.stamp os in
      either (Hears (HeadFace A) Good up_restarts w os) (are_octets os) _ _
      (λ h.
      let k = stamped-octets v.stamp os h in
      rw k
      (⊎_elim
      (λ (a : As (HeadFace A) Good (answered (is w v.link s v.lent k)) (end.heard (state_at w) v.link v.lent.output (message_in s))).
      face.hears (record { link = v.link; output = v.lent.output }) s (restarts-again v.stamp os h) a)
      (λ (u : Untouched (HeadFace A) Good w (answered (is w v.link s v.lent k))). misses u)
      (octets-out w v.link s v.lent k g)))
      (λ _. misses (unchanged (HeadFace A) Good g refl refl))

  tick-faithful : (w : Words) (l : Lent) → Good w → ((HeadFace A).tick w l).reply ≡ 0
      → (out : List ℕ) × As (HeadFace A) Good ((HeadFace A).tick w l) ((HeadEnd A).tick (state_at w) out)
  tick-faithful w l g z =
      ⊎_elim
      (λ (e : lent Call.Tick w l ≡ true). (l.output, lent-as Call.Tick w l g e))
      (λ (e : lent Call.Tick w l ≡ false).
      let far : (served w Call.Tick l).number ≡ 100 = ap (λ (y : Left). y.number) (short Call.Tick w l e) in
      absurd (omega arith))
      (decided (lent Call.Tick w l))

  pub head-faithful : Faithful (HeadFace A) Good up_restarts
  head-faithful = record { fresh = fresh-faithful; of-call = call-faithful; of-hear = hear-faithful; of-tick = tick-faithful }
