-- `script::words::digits` meets its promise: what the digits before a place spell is carried on behind it.
-- Assumes nothing.
use Rattle.std.proofs.Common.{◌≡◌, ◌≤◌, ◌<◌, ℕ, suc, length, get_or, drop, ◌+◌, ◌*◌, cond, leb, List, Option, Some, None, sym, ap, refl, ◌∙◌, arith, drop-cons}
use Rattle.std.proofs.lemmas.List.{drop_all}
use Rattle.std.proofs.lemmas.Bool.{lt-leb, le-leb}
use Rattle.std.specs.Prelude.{option_and_then}
use Rattle.script.specs.Words.{digit_of, spelled}
use Rattle.script.proofs.words.digits.Goals as goal

-- with one digit more
abbrev next : ℕ → ℕ → List ℕ → ℕ → Option ℕ
next radix n l d = cond (leb n 0xFFFFFFFFFFFFFFF) (spelled radix (n * radix + d) l) None

step : (radix n k : ℕ) (l : List ℕ) (o : Option ℕ) → k < length l → o ≡ digit_of radix (get_or l k 0)
    → spelled radix n (drop k l) ≡ option_and_then (next radix n (drop (k + 1) l)) o
unfolding spelled
step radix n k l o h e =
    let more : suc k ≡ k + 1 = omega arith in
    ap (spelled radix n) (drop-cons l k 0 h)
    ∙ ap (option_and_then (next radix n (drop (suc k) l))) (sym e)
    ∙ ap (λ (m : ℕ). option_and_then (next radix n (drop m l)) o) more

pub returns-in_err-more : goal.returns-in_err-more
returns-in_err-more c =
    let l : List ℕ = c.args.spelling.now in
    let k : ℕ = c.loop-c.c-index in
    let h : k < length l = omega (arith, c.loop-c-test.true) in
    c.from_residual.ensures ∙ sym (c.loop-c.invariant ∙ step c.args.radix c.loop-c.n k l None h (sym c.in_err-more.was ∙ c.digit.ensures.value))

pub returns-then-n-gt-LARGEST : goal.returns-then-n-gt-LARGEST
returns-then-n-gt-LARGEST c =
    let l : List ℕ = c.args.spelling.now in
    let k : ℕ = c.loop-c.c-index in
    let n : ℕ = c.loop-c.n in
    let h : k < length l = omega (arith, c.loop-c-test.true) in
    sym (c.loop-c.invariant
    ∙ step c.args.radix n k l (Some c.in_ok-more.more) h (sym c.in_ok-more.was ∙ c.digit.ensures.value)
    ∙ ap (λ b. cond b (spelled c.args.radix (n * c.args.radix + c.in_ok-more.more) (drop (k + 1) l)) None) (lt-leb n 0xFFFFFFFFFFFFFFF (omega (arith, c.if-n-gt-LARGEST.true))))

pub loop-c-preserved : goal.loop-c-preserved
loop-c-preserved c =
    let l : List ℕ = c.args.spelling.now in
    let k : ℕ = c.loop-c.c-index in
    let n : ℕ = c.loop-c.n in
    let h : k < length l = omega (arith, c.loop-c-test.true) in
    c.loop-c.invariant
    ∙ step c.args.radix n k l (Some c.in_ok-more.more) h (sym c.in_ok-more.was ∙ c.digit.ensures.value)
    ∙ ap (λ b. cond b (spelled c.args.radix (n * c.args.radix + c.in_ok-more.more) (drop (k + 1) l)) None) (le-leb n 0xFFFFFFFFFFFFFFF (omega (arith, c.if-n-gt-LARGEST.false)))
    ∙ rw (c.from.ensures, c.from-in-loop-c.ensures) refl

pub returns : goal.returns
unfolding spelled
returns c =
    let l : List ℕ = c.args.spelling.now in
    let end : length l ≤ c.loop-c.c-index = omega (arith, c.loop-c-test.false) in
    sym (c.loop-c.invariant ∙ ap (spelled c.args.radix c.loop-c.n) (drop_all c.loop-c.c-index l end))
