-- Programs that advance head and box are runs of single ticks, and demand 3 holds of what they see.
-- Assumes nothing.
use Prim.Native.Nat.{ℕ, ◌+◌, ◌*◌, ◌≤◌}
use mathlib.Core.Path.{◌≡◌}
use mathlib.Core.List.{List}
use borrow.Author.Tests.{le-leb}
use lib.ListN.{length}
use Rattle.clock.specs.Numbers.{watchdog, wait}
use Rattle.frame.specs.declared.Address.{Address}
use Rattle.face_head.proofs.Laws.{length-links}
use Rattle.face_head.specs.Table.{links_in, links_at}
use Rattle.pair_demand.specs.Run.{last}
use Rattle.pair_demand.proofs.Advance.{Made, reads, seen-demand}
use Rattle.pair_demand.proofs.Programs.{box-drops-runs, head-drops-runs, box-waits-runs, head-waits-runs}
use Rattle.face_pair.specs.Advances.{BoxAdvances, HeadAdvances, WordsAdvance, WordsAdvanceDemand3, WordsAdvanceExact, Makes, WordsAdvances}
use Rattle.face_pair.specs.Box.{BoxWords}
use Rattle.face_pair.specs.Demand.{WordsDemand3}
use Rattle.face_pair.specs.Exact.{WordsExact}
use Rattle.face_pair.specs.Head as head
use Rattle.face_pair.specs.Head.{HeadWords}
use Rattle.face_pair.proofs.Box as boxes
use Rattle.face_pair.proofs.BoxAdvance as box-advance
use Rattle.face_pair.proofs.BoxAdvance.{box-singly}
use Rattle.face_pair.proofs.Demand.{words-demand-3}
use Rattle.face_pair.proofs.Exact.{words-exact}
use Rattle.face_pair.proofs.Head as heads
use Rattle.face_pair.proofs.HeadAdvance as head-advance
use Rattle.face_pair.proofs.HeadAdvance.{head-singly}
use Rattle.face_pair.proofs.Ticks.{lent_of, box-lent-of, start_fine, step-fine, last-fine}

module _ (A : Address) (D : ℕ) where
  owed : Made (HeadWords A) (BoxWords A) (HeadAdvances A) (BoxAdvances A) heads.Good (boxes.Good A) D
  owed =
      record {
        starts = start_fine A D;
        stays = λ m e g a. step-fine A D m e a g;
        head = λ w q g. head-singly A w g q;
        box = λ block q g. box-singly A block g q;
      }

pub words-advance : WordsAdvance
unfolding WordsAdvance
words-advance A D x steps r =
    reads (HeadWords A) (BoxWords A) (HeadAdvances A) (BoxAdvances A) heads.Good (boxes.Good A) D (owed A D) (last (HeadWords A) (BoxWords A) x) steps (last-fine A D x) r

pub words-advance-demand-3 : WordsAdvanceDemand3
unfolding WordsAdvanceDemand3 WordsDemand3
words-advance-demand-3 A D =
    seen-demand (HeadWords A) (BoxWords A) (HeadAdvances A) (BoxAdvances A) heads.Good (boxes.Good A) D (owed A D) watchdog wait (words-demand-3 A D)

pub words-advance-exact : WordsAdvanceExact
unfolding WordsAdvanceExact WordsExact
words-advance-exact A i D =
    let x = words-exact A i D in
    record {
      box-drops = λ f. x.box-drops (box-drops-runs (HeadWords A) (BoxWords A) (HeadAdvances A) (BoxAdvances A) D (D + 62_499_999) f);
      head-drops = λ f. x.head-drops (head-drops-runs (HeadWords A) (BoxWords A) (HeadAdvances A) (BoxAdvances A) D (D + 62_499_999) f);
      box-wait = λ f. x.box-wait (box-waits-runs (HeadWords A) (BoxWords A) (HeadAdvances A) (BoxAdvances A) D 3_124_999 f);
      head-wait = λ f. x.head-wait (head-waits-runs (HeadWords A) (BoxWords A) (HeadAdvances A) (BoxAdvances A) D 3_124_999 f);
    }

makes : (A : Address) (w : head.Words) (block : List ℕ) → heads.Good w → boxes.Good A block → Makes A w block
makes A w block g k =
    record {
      box = λ q i f r m.
          box-advance.advance-made A block k q.lent (box-lent-of (length block) (length q.lent.frames) (length q.lent.reply) k.room f r)
          q.ticks i q.made (le-leb 1 (length q.made) m);
      head = λ q i o r m.
          let n : length (links_at w.links) ≡ links_in (length w.links) = length-links (links_in (length w.links)) w.links in
          let room : 60 * length (links_at w.links) ≤ length q.lent.output = rw n o in
          head-advance.advance-made A w g q.lent (lent_of (length w.head) (length q.lent.reply) g.room r)
          (le-leb (60 * length (links_at w.links)) (length q.lent.output) room) q.ticks i q.made (le-leb 1 (length q.made) m);
    }

pub words-advances : WordsAdvances
unfolding WordsAdvances
words-advances A D x =
    let g = last-fine A D x in
    makes A (last (HeadWords A) (BoxWords A) x).head (last (HeadWords A) (BoxWords A) x).box g.0 g.1
