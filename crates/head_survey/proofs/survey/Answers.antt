-- `head_survey::survey` meets its promise: each link makes of the facts what the pass does, and leaves its mark.
-- Assumes nothing.
use Rattle.std.proofs.Common.{◌≡◌, ◌+◌, ◌-◌, ◌<◌, ℕ, Bool, List, length, take, get_or, sym, ap, ◌∙◌, arith}
use Rattle.std.proofs.lemmas.Bool.{not-false, not-true}
use Rattle.std.proofs.Math.Numerals.{add-one}
use Rattle.lent.proofs.Folds.{fold_to, fold-zero, fold_more, fold-all}
use Rattle.head_links.specs.Link.{idle}
use Rattle.head_links.specs.declared.Link.{Link}
use Rattle.head_survey.specs.Pass.{begun, passed, seen_of, sought_of, mark_of, twice_of, unmarked}
use Rattle.head_survey.specs.declared.Facts.{Facts}
use Rattle.head_survey.specs.declared.Look.{Look}
use Rattle.head_survey.proofs.Marks.{marked, none-marked, spared}
use Rattle.head_survey.proofs.Page.{passed-all, passed_none}
use Rattle.head_survey.proofs.survey.Goals as goal

one_less : (i : ℕ) → i ≡ i + 1 - 1
one_less i = omega arith

module _ (xs : List Link) (k : Look) (i : ℕ) (b : Facts) where
  -- the link of that turn
  abbrev l : Link
  l = get_or xs i idle

  -- the facts, and the marks, before link i
  abbrev fs : ℕ → Facts
  fs j = fold_to (passed xs k) 1 xs j b

  abbrev ms : ℕ → List Bool
  ms j = fold_to marked 1 xs j unmarked

  found : (f : Facts) (m : List Bool) (t : Bool) (g : Facts) → i < length xs → f ≡ fs i → m ≡ ms i
      → t ≡ sought_of m (take i xs) l → g ≡ seen_of f l (i + 1) t k → g ≡ fs (i + 1)
  found f m t g h ef em et eg =
      eg
      ∙ ap (λ (u : Facts). seen_of u l (i + 1) t k) ef
      ∙ ap (λ (u : Bool). seen_of (fs i) l (i + 1) u k)
      (et ∙ ap (λ (us : List Bool). sought_of us (take i xs) l) em ∙ spared xs l i ∙ ap (twice_of xs l) (one_less i))
      ∙ fold_more (passed xs k) 1 xs i idle b h
      ∙ ap fs (sym (add-one i))

  left : (m m' : List Bool) → i < length xs → m ≡ ms i → m' ≡ mark_of l m → m' ≡ ms (i + 1)
  left m m' h em e = e ∙ ap (λ (us : List Bool). mark_of l us) em ∙ fold_more marked 1 xs i idle unmarked h ∙ ap ms (sym (add-one i))

pub returns-then-not-f : goal.returns-then-not-f
returns-then-not-f c = c.begin-f.ensures ∙ passed_none c.args.links.now c.args.look (sym (ap (λ (f : Facts). f.sound) c.begin-f.ensures) ∙ not-true _ c.if-not-f.true)

pub loop-i-init : goal.loop-i-init
loop-i-init c =
    record {
      found = c.begin-f.ensures ∙ sym (fold-zero (passed c.args.links.now c.args.look) 1 c.args.links.now (begun (length c.args.links.now)));
      left = none-marked ∙ sym (fold-zero marked 1 c.args.links.now unmarked);
    }

pub loop-i-preserved : goal.loop-i-preserved
loop-i-preserved c =
    let xs = c.args.links.now in
    let i = c.loop-i.i in
    let b = begun (length xs) in
    record {
      found = found xs c.args.look i b c.loop-i.f c.loop-i.marks c.is_twice-twice.result c.seen-f.result c.loop-i-test.true c.loop-i.invariant.found c.loop-i.invariant.left c.is_twice-twice.ensures.0 c.seen-f.ensures;
      left = left xs c.args.look i b c.loop-i.marks c.is_twice-twice.new.marks c.loop-i-test.true c.loop-i.invariant.left c.is_twice-twice.ensures.1;
    }

pub returns : goal.returns
returns c =
    let xs = c.args.links.now in
    c.loop-i.invariant.found
    ∙ fold-all (passed xs c.args.look) 1 xs c.loop-i.i (begun (length xs)) c.loop-i-test.false
    ∙ passed-all xs c.args.look (sym (ap (λ (f : Facts). f.sound) c.begin-f.ensures) ∙ not-false _ c.if-not-f.false)
