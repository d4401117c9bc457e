-- Lemmas: ten words one by one, and the flags by their numbers.
-- Assumes nothing.
use Rattle.std.specs.Prelude.{ℕ, ◌≤◌, ◌≡◌, refl, Bool, true, false, ◌||◌, ◌⊎◌, List, [], ◌∷◌, eqb, length, take, drop}
use Rattle.std.proofs.Common.{sym, ap, true≢false, inl, inr, ⊎_elim, arith, eqb-true, drop-cons}
use Rattle.std.proofs.Math.Bool.{or_assoc, or-false}
use Rattle.frame.specs.Layout.{register_req_flag, register_flag, register_ack_flag}
use Rattle.frame.specs.Reading.{one_of}
use Rattle.frame.specs.declared.RegisterAckFlag.{RegisterAckFlag}
use Rattle.frame.specs.declared.RegisterAckFlag.TheVariants as ack
use Rattle.frame.specs.declared.RegisterFlag.{RegisterFlag}
use Rattle.frame.specs.declared.RegisterFlag.TheVariants as answer
use Rattle.frame.specs.declared.RegisterReqFlag.{RegisterReqFlag}
use Rattle.frame.specs.declared.RegisterReqFlag.TheVariants as request
use Rattle.laws.specs.Cases.{decided}
use Rattle.frame_reader.specs.Flags.{register_req_flag_of, register_flag_of, register_ack_flag_of}
use Rattle.face_frame.specs.Tells.{at}

-- a list's first ten words, and what stands behind them
pub opened : (w : List ℕ) → 10 ≤ length w
    → w ≡ at w 0 ∷ at w 1 ∷ at w 2 ∷ at w 3 ∷ at w 4 ∷ at w 5 ∷ at w 6 ∷ at w 7 ∷ at w 8 ∷ at w 9 ∷ drop 10 w
opened w h =
    let none : drop 0 w ≡ w = refl in
    rw (
      ← none,
      drop-cons w 0 0 (omega arith),
      drop-cons w 1 0 (omega arith),
      drop-cons w 2 0 (omega arith),
      drop-cons w 3 0 (omega arith),
      drop-cons w 4 0 (omega arith),
      drop-cons w 5 0 (omega arith),
      drop-cons w 6 0 (omega arith),
      drop-cons w 7 0 (omega arith),
      drop-cons w 8 0 (omega arith),
      drop-cons w 9 0 (omega arith),
    )

pub first-ten : (w : List ℕ) → 10 ≤ length w
    → take 10 w ≡ at w 0 ∷ at w 1 ∷ at w 2 ∷ at w 3 ∷ at w 4 ∷ at w 5 ∷ at w 6 ∷ at w 7 ∷ at w 8 ∷ at w 9 ∷ []
first-ten w h = ap (λ (l : List ℕ). take 10 l) (opened w h)

-- the tests of a flag, as code has them
pub two-tests : (a b : Bool) → (a || (b || false)) ≡ (a || b)
two-tests a b = rw or-false

pub four-tests : (a b c d : Bool) → (a || (b || (c || (d || false)))) ≡ (a || b || c || d)
four-tests a b c d = simp (or_assoc, or-false)

-- a number that is one of several is the first or one of the others
one : (f x : ℕ) (xs : List ℕ) → one_of f (x ∷ xs) ≡ true → (f ≡ x) ⊎ (one_of f xs ≡ true)
one f x xs h = ⊎_elim (λ t. inl (eqb-true f x t)) (λ t. inr (rw t at h)) (decided (eqb f x))

-- a flag is read of its number
pub req-flag-word : (f : ℕ) → one_of f (1 ∷ 3 ∷ []) ≡ true → register_req_flag (register_req_flag_of f) ≡ f
unfolding register_req_flag_of
req-flag-word f h =
    ⊎_elim (λ e. rw e)
    (λ g. ⊎_elim (λ e. rw e) (λ r. absurd (true≢false (sym r))) (one f 3 [] g))
    (one f 1 (3 ∷ []) h)

pub flag_word : (f : ℕ) → one_of f (1 ∷ 2 ∷ 3 ∷ 4 ∷ []) ≡ true → register_flag (register_flag_of f) ≡ f
unfolding register_flag_of
flag_word f h =
    ⊎_elim (λ e. rw e)
    (λ g. ⊎_elim (λ e. rw e)
    (λ k. ⊎_elim (λ e. rw e)
    (λ n. ⊎_elim (λ e. rw e) (λ r. absurd (true≢false (sym r))) (one f 4 [] n))
    (one f 3 (4 ∷ []) k))
    (one f 2 (3 ∷ 4 ∷ []) g))
    (one f 1 (2 ∷ 3 ∷ 4 ∷ []) h)

pub ack-flag-word : (f : ℕ) → one_of f (0 ∷ 1 ∷ []) ≡ true → register_ack_flag (register_ack_flag_of f) ≡ f
unfolding register_ack_flag_of
ack-flag-word f h =
    ⊎_elim (λ e. rw e)
    (λ g. ⊎_elim (λ e. rw e) (λ r. absurd (true≢false (sym r))) (one f 1 [] g))
    (one f 0 (1 ∷ []) h)

-- and has one of the numbers
pub req-flag-is : (x : RegisterReqFlag) → one_of (register_req_flag x) (1 ∷ 3 ∷ []) ≡ true
req-flag-is request.Register = refl
req-flag-is request.Deregister = refl

pub flag_is : (x : RegisterFlag) → one_of (register_flag x) (1 ∷ 2 ∷ 3 ∷ 4 ∷ []) ≡ true
flag_is answer.Reregister = refl
flag_is answer.Deregister = refl
flag_is answer.Ack = refl
flag_is answer.Nack = refl

pub ack-flag-is : (x : RegisterAckFlag) → one_of (register_ack_flag x) (0 ∷ 1 ∷ []) ≡ true
ack-flag-is ack.Nack = refl
ack-flag-is ack.Ack = refl
