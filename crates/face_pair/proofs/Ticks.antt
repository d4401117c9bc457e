-- What holds at the end of every span: no tick is refused that is lent enough, and no call is answered 13.
-- Assumes nothing.
use Prim.Native.Nat.{ℕ, ◌*◌, ◌≤◌}
use mathlib.Core.Path.{◌≡◌, ap, ◌∙◌}
use mathlib.Core.Bool.{true}
use mathlib.Core.List.{List, [], ◌∷◌}
use borrow.Author.Tests.{le-leb}
use lib.Dec.{leb}
use lib.ListN.{length}
use Rattle.clock.specs.Numbers.{watchdog, wait}
use Rattle.frame.specs.Card.{number_of}
use Rattle.frame.specs.declared.Address.{Address}
use Rattle.head_judging.specs.declared.Call.{Call}
use Rattle.head_laws.specs.Runs.{run-tick}
use Rattle.pair_wire.specs.Restarts.{down_restarts, up_restarts}
use Rattle.pair_demand.specs.Run as run
use Rattle.pair_demand.specs.Run.{Holds, HasRegistered, Moment, Event, both-tick, after, Allowed, play, Lawful, Start, Span, first, last}
use Rattle.pair_demand.proofs.Falls.{Oks, ok_step}
use Rattle.box_laws.specs.Stated as calls
use Rattle.pair_box.proofs.Exact.{tick-done}
use Rattle.face_head.proofs.Laws.{length-links}
use Rattle.face_head.specs.Table.{links_in, links_at}
use Rattle.face_head_calls.specs.Calls.{is_lent}
use Rattle.face_box_calls.specs.Calls as face
use Rattle.face_box_calls.specs.Calls.{box_at}
use Rattle.face_pair.specs.Box as box
use Rattle.face_pair.specs.Box.{BoxWords}
use Rattle.face_pair.specs.Demand.{WordsTicks, WordsSound}
use Rattle.face_pair.specs.Head as head
use Rattle.face_pair.specs.Head.{HeadWords}
use Rattle.face_pair.proofs.Box as boxes
use Rattle.face_pair.proofs.Demand.{box-gauge, head-gauge, box-words-laws, head-words-laws}
use Rattle.face_pair.proofs.Head as heads
use Rattle.face_pair.proofs.Never.{never-unsound}

pub lent_of : (a b : ℕ) → 5 ≤ a → 10 ≤ b → is_lent a b ≡ true
unfolding is_lent
lent_of a b h k = rw (le-leb 5 a h, le-leb 10 b k)

pub box-lent-of : (b f r : ℕ) → 29 ≤ b → 120 ≤ f → 19 ≤ r → face.is_lent b f r ≡ true
unfolding face.is_lent
box-lent-of b f r h k j = rw (le-leb 29 b h, le-leb 120 f k, le-leb 19 r j)

module _ (A : Address) (D : ℕ) where
  abbrev HW : run.End (List ℕ) (List ℕ)
  HW = HeadWords A

  abbrev BW : run.End (List ℕ) (List ℕ)
  BW = BoxWords A

  abbrev M : Type 0
  M = Moment HW BW

  -- what runs reach
  abbrev Fine : M → Type 0
  Fine =
      Oks HW BW D (head-gauge A) (box-gauge A) (Holds HW) (HasRegistered BW) (down_restarts A) up_restarts
      watchdog wait (head-words-laws A) (box-words-laws A)

  pub step-fine : (m : M) (e : Event HW BW) → Allowed HW BW D m e → Fine m → Fine (after HW BW m e)
  step-fine m e a f =
      ok_step HW BW D (head-gauge A) (box-gauge A) (Holds HW) (HasRegistered BW) (down_restarts A) up_restarts
      watchdog wait (head-words-laws A) (box-words-laws A) m e a f

  stays-fine : (m : M) (es : List (Event HW BW)) → Fine m → Lawful HW BW D m es → Fine (play HW BW m es)
  stays-fine m [] f l = f
  stays-fine m (e ∷ es) f l = stays-fine (after HW BW m e) es (step-fine m e l.0 f) l.1

  pub start_fine : (m : M) → Start HW BW m → Fine m
  start_fine m s = ((head-words-laws A).fresh_ok m.head s.0, (box-words-laws A).fresh_ok m.box s.1)

  pub last-fine : (x : Span HW BW D) → heads.Good (last HW BW x).head × boxes.Good A (last HW BW x).box
  last-fine x =
      stays-fine (first HW BW x) x.events (stays-fine x.start x.before (start_fine x.start x.fresh) x.lawful-before) x.lawful

  pub head-tick-done : (w : head.Words) → heads.Good w → (l : head.Lent) → 10 ≤ length l.reply
      → 60 * links_in (length w.links) ≤ length l.output → (HW.tick w l).reply ≡ 0
  head-tick-done w g l k room =
      let n : length (links_at w.links) ≡ links_in (length w.links) = length-links (links_in (length w.links)) w.links in
      let enough : leb (60 * length (links_at w.links)) (length l.output) ≡ true =
      le-leb (60 * length (links_at w.links)) (length l.output) (rw n room) in
      heads.number_is Call.Tick w l (lent_of (length w.head) (length l.reply) g.room k)
      ∙ ap number_of (run-tick g.reached l.output)
      ∙ rw enough

  pub box-tick-done : (block : List ℕ) (l : box.Lent) → boxes.Good A block → 120 ≤ length l.frames → 19 ≤ length l.reply
      → (BW.tick block l).reply ≡ 0
  box-tick-done block l g h k =
      (boxes.lent-as A calls.tick block l tt g (box-lent-of (length block) (length l.frames) (length l.reply) g.room h k)).reply
      ∙ tick-done A (box_at block) g.ok

  tick-allowed : (x : Span HW BW D) (h : head.Lent) (b : box.Lent) → 60 * links_in (length (last HW BW x).head.links) ≤ length h.output
      → 10 ≤ length h.reply → 120 ≤ length b.frames → 19 ≤ length b.reply → Allowed HW BW D (last HW BW x) (both-tick h b)
  tick-allowed x h b out told frames reply =
      let y = last HW BW x in
      let g = last-fine x in
      (head-tick-done y.head g.0 h told out, box-tick-done y.box b g.1 frames reply)

pub words-ticks : WordsTicks
unfolding WordsTicks
words-ticks A D x h b = tick-allowed A D x h b

pub words-sound : WordsSound
unfolding WordsSound
words-sound A D x = let g = last-fine A D x in never-unsound A (last (HeadWords A) (BoxWords A) x).head (last (HeadWords A) (BoxWords A) x).box g.0 g.1
