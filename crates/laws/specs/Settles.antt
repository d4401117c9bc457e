-- Statement: a promise settles the whole answer: any two results that it allows are equal. It is stated of `Post`, which Rattle reads off the
-- function's own clauses (the module `Reads` below the function's own), so a weaker clause breaks the proof.
-- Assumes nothing.
use Rattle.std.specs.Prelude.{ℕ, ◌≡◌, List}
use borrow.Fn.Kinds.{ParamKind, ResultKind, Out, Dens, res_t, ended_of}
use contract.Lifetimes.{Lfts}
use denote.Triple.Clauses.{AtExit}

-- n lifetimes, the parameters' kinds and the result's, all three from the module `Kinds` beside `Reads`
abbrev pub Settles : (n : ℕ) (ps : List (ParamKind n)) (r : ResultKind n) → Out n ps r → Type 0
Settles n ps r P =
    (κs : Lfts n) (a : Dens κs ps) (e : AtExit (ended_of n ps r) κs) (x y : (res_t r κs).Denot) → P κs a x e → P κs a y e → x ≡ y

-- the same where something is lent to be written: `left` reads off the parameters at exit what then stands there
abbrev pub SettlesLent : (n : ℕ) (ps : List (ParamKind n)) (r : ResultKind n) {B : Type 0}
    → ((κs : Lfts n) → AtExit (ended_of n ps r) κs → B) → Out n ps r → Type 0
SettlesLent n ps r left P =
    (κs : Lfts n) (a : Dens κs ps) (e f : AtExit (ended_of n ps r) κs) (x y : (res_t r κs).Denot)
    → P κs a x e → P κs a y f → (x ≡ y) × (left κs e ≡ left κs f)
