-- A head of one link, lent room for one frame: a fresh one, and the calls that leave its count and its window.
-- Assumes nothing.
use Prim.Native.Nat.{ℕ}
use mathlib.Core.Path.{◌≡◌, refl, sym, ap, ◌∙◌}
use mathlib.Core.Bool.{and-eq-true_iff}
use mathlib.Core.List.{List, [], ◌∷◌}
use native.Mathlib.Omega.{arith}
use borrow.Author.Tests.{leb-true}
use lib.Dec.{leb}
use lib.ListN.{length, replicate}
use Rattle.frame.specs.declared.Address.{Address}
use Rattle.lent.specs.Folds.{places}
use Rattle.head_links.specs.Link.{idle}
use Rattle.head_survey.specs.Facts.{is_few}
use Rattle.head_state.specs.Head.{begun}
use Rattle.head_plans.specs.declared.Plan.{Plan}
use Rattle.head_judging.specs.declared.Call.{Call}
use Rattle.head_calls.specs.Fresh.{Freshly}
use Rattle.head_calls.specs.Serve.{done_of, plan_of, serve_of}
use Rattle.head_laws.specs.Calls.{planned, known, Outcome, unsound, short, refuses, accepts, outcome}
use Rattle.head_laws.specs.Events.{table-parts}
use Rattle.head_laws.specs.Fresh.{fresh-done}
use Rattle.head_laws.specs.Runs.{run_sound}
use Rattle.pair_head.specs.End.{HeadState, asked, Fresh}
use Rattle.pair_head.proofs.Ready.{Ready}

-- room for one frame
pub out : List ℕ
out = replicate 60 0

pub room : length out ≡ 60
unfolding out
room = refl

-- a head of one link
abbrev pub H : Address
H = record { 0 = 0x020000000001 }

abbrev pub begun_head : HeadState
begun_head = record { head = begun H; table = idle ∷ [] }

pub begun_fresh : Fresh begun_head
unfolding places is_few
begun_fresh =
    let made = fresh-done H (idle ∷ []) refl refl in (
      H,
      idle ∷ [],
      ap (λ (f : Freshly). f.answer.reply) made,
      sym (ap (λ (f : Freshly). record { head = f.answer.next; table = f.table }) made),
    )

-- a call that is neither an opening nor a tick leaves the head itself, its count and its window, done or refused
module _ (s : HeadState) (r : Call) where
  planned-stays : (room : ℕ) (p : Plan) → Outcome s.head s.table r room p → (planned r s.head (known s.table r)).head ≡ s.head
      → p.head ≡ s.head
  planned-stays _ p (unsound f e) q = ap (λ (x : Plan). x.head) e
  planned-stays _ p (short f m e) q = ap (λ (x : Plan). x.head) e
  planned-stays _ p (refuses f m x a b c e) q = ap (λ (x : Plan). x.head) e
  planned-stays _ p (accepts f m t e) q = ap (λ (x : Plan). x.head) e ∙ q

  pub head-stays : (planned r s.head (known s.table r)).head ≡ s.head → (asked s r out).next.head ≡ s.head
  unfolding serve_of done_of
  head-stays =
      planned-stays (length out) (plan_of s.head s.table r (length out)) (outcome s.head s.table r (length out))

-- there is one link, and no more
pub one_link : (s : HeadState) → Ready out s → length s.table ≡ 1
unfolding is_few
one_link s y =
    let n = length s.table in
    let few = (table-parts s.table (run_sound y.ok).table).0 in
    let least = leb-true 1 n ((and-eq-true_iff (leb 1 n) (leb n 64)).0 few).0 in
    omega (arith, least, y.room, room)
