-- The promises of the crate that are an equation, and that of `find`, settle the whole answer: any two results that they allow are equal.
-- Assumes nothing.
use Prim.Native.Nat.{ℕ, ◌≤◌, ◌<◌}
use mathlib.Core.Path.{◌≡◌, sym, ◌∙◌}
use mathlib.Core.List.{List}
use mathlib.Core.Logic.{◌≢◌, ⊎_elim}
use native.Mathlib.Omega.{arith}
use lib.ListN.{length, get_or}
use Rattle.laws.specs.Cases.{cut}
use Rattle.laws.specs.Settles.{Settles}
use Rattle.script.proofs.frames.each.Kinds as each-kinds
use Rattle.script.proofs.frames.each.Reads as each-reads
use Rattle.script.proofs.messages.modulo_32.Kinds as modulo-32-kinds
use Rattle.script.proofs.messages.modulo_32.Reads as modulo-32-reads
use Rattle.script.proofs.messages.modulo_8.Kinds as modulo-8-kinds
use Rattle.script.proofs.messages.modulo_8.Reads as modulo-8-reads
use Rattle.script.proofs.messages.quanta.Kinds as quanta-kinds
use Rattle.script.proofs.messages.quanta.Reads as quanta-reads
use Rattle.script.proofs.messages.random.Kinds as random-kinds
use Rattle.script.proofs.messages.random.Reads as random-reads
use Rattle.script.proofs.words.at.Kinds as at-kinds
use Rattle.script.proofs.words.at.Reads as at-reads
use Rattle.script.proofs.words.find.Kinds as find-kinds
use Rattle.script.proofs.words.find.Reads as find-reads
use Rattle.script.proofs.words.number.Kinds as number-kinds
use Rattle.script.proofs.words.number.Reads as number-reads
use Rattle.script.proofs.words.passed_on.Kinds as passed-on-kinds
use Rattle.script.proofs.words.passed_on.Reads as passed-on-reads

pub modulo-32-settles : Settles 0 modulo-32-kinds.ps modulo-32-kinds.r modulo-32-reads.Post
modulo-32-settles κs a e x y p q = p ∙ sym q

pub modulo-8-settles : Settles 0 modulo-8-kinds.ps modulo-8-kinds.r modulo-8-reads.Post
modulo-8-settles κs a e x y p q = p ∙ sym q

pub quanta-settles : Settles 0 quanta-kinds.ps quanta-kinds.r quanta-reads.Post
quanta-settles κs a e x y p q = p ∙ sym q

pub passed-on-settles : Settles 1 passed-on-kinds.ps passed-on-kinds.r passed-on-reads.Post
passed-on-settles κs a e x y p q = p ∙ sym q

pub number-settles : Settles 1 number-kinds.ps number-kinds.r number-reads.Post
number-settles κs a e x y p q = p ∙ sym q

pub at-settles : Settles 1 at-kinds.ps at-kinds.r at-reads.Post
at-settles κs a e x y p q = p ∙ sym q

pub random-settles : Settles 1 random-kinds.ps random-kinds.r random-reads.Post
random-settles κs a e x y p q = p ∙ sym q

pub each-settles : Settles 0 each-kinds.ps each-kinds.r each-reads.Post
each-settles κs a e x y p q = p ∙ sym q

-- the first place of an octet is one
first-once : (l : List ℕ) (from c x y : ℕ) → from ≤ x → (x < length l → get_or l x 0 ≡ c) → ((k : ℕ) → from ≤ k → k < y → get_or l k 0 ≢ c)
    → y ≤ length l → y ≤ x
first-once l from c x y b f g h =
    ⊎_elim (λ (s : x < y). absurd (g x b s (f (omega arith)))) (λ (s : y ≤ x). s) (cut x y)

pub find-settles : Settles 1 find-kinds.ps find-kinds.r find-reads.Post
find-settles κs a e x y p q =
    let l : List ℕ = a.0.now in
    let from : ℕ = a.1.0 in
    ⊎_elim
    (λ (h : from < length l).
    let u : y ≤ x = first-once l from _ x y p.0 p.1.1.1.1 q.1.1.1.0 (q.1.1.0 (omega arith)) in
    let v : x ≤ y = first-once l from _ y x q.0 q.1.1.1.1 p.1.1.1.0 (p.1.1.0 (omega arith)) in
    omega arith)
    (λ (h : length l ≤ from). p.1.0 h ∙ sym (q.1.0 h))
    (cut from (length l))
