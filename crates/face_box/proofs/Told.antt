-- The words that the code lays are those that a call tells.
-- Assumes nothing.
use Prim.Native.Nat.{ℕ, ◌+◌, ◌*◌, ◌≤◌}
use mathlib.Core.Path.{◌≡◌, refl}
use mathlib.Core.Bool.{Bool, true, false}
use lib.Dec.{eqb}
use lib.IntN.{ℤ}
use lib.ListN.{take}
use native.Mathlib.Omega.{arith}
use Rattle.laws.specs.Cases.{either}
use Rattle.box_telling.specs.Told.{is_nothing}
use Rattle.box_telling.specs.declared.Notice.{Notice}
use Rattle.box_telling.specs.declared.Notice.TheVariants.{Nothing, Window, Registered, Refused, Retry, Deregistered, Granted, Open, Close}
use Rattle.box_telling.specs.declared.Notices.{Notices}
use Rattle.face_box.specs.Laying.{how_many, layout}
use Rattle.face_box.specs.Told.{notice_words, listed, told_words}

pub at-most-four : (a b c d : ℕ) → how_many a b c d ≤ 4
unfolding how_many
at-most-four a b c d =
    let P : ℕ → Type 0 = λ n. n ≤ 4 in
    either P (eqb a 0) _ _ (λ _. omega arith)
    (λ _. either P (eqb b 0) _ _ (λ _. omega arith)
    (λ _. either P (eqb c 0) _ _ (λ _. omega arith) (λ _. either P (eqb d 0) _ _ (λ _. omega arith) (λ _. omega arith))))

-- only what is none has kind 0
kind : (x : Notice) → eqb (notice_words x).kind 0 ≡ is_nothing x
kind Nothing = refl
kind Window = refl
kind Registered = refl
kind Refused = refl
kind Retry = refl
kind Deregistered = refl
kind (Granted grant) = refl
kind Open = refl
kind Close = refl

-- how many words are laid, and which
abbrev pub number_in : Notices → ℕ
number_in n = how_many (notice_words n.first).kind (notice_words n.second).kind (notice_words n.third).kind (notice_words n.fourth).kind

module _ (drift : ℤ) (frames : ℕ) (n : Notices) where
  abbrev Laid : Type 0
  Laid =
      take (3 + 4 * number_in n)
      (layout drift frames (number_in n) (notice_words n.first) (notice_words n.second) (notice_words n.third) (notice_words n.fourth))
      ≡ told_words drift frames n

  by_tests : (a b c d : Bool) → is_nothing n.first ≡ a → is_nothing n.second ≡ b → is_nothing n.third ≡ c → is_nothing n.fourth ≡ d → Laid
  unfolding how_many told_words listed
  by_tests true b c d p q r s = rw (kind n.first, p)
  by_tests false true c d p q r s = rw (kind n.first, p, kind n.second, q)
  by_tests false false true d p q r s = rw (kind n.first, p, kind n.second, q, kind n.third, r)
  by_tests false false false true p q r s = rw (kind n.first, p, kind n.second, q, kind n.third, r, kind n.fourth, s)
  by_tests false false false false p q r s = rw (kind n.first, p, kind n.second, q, kind n.third, r, kind n.fourth, s)

  pub is-told : Laid
  is-told = by_tests (is_nothing n.first) (is_nothing n.second) (is_nothing n.third) (is_nothing n.fourth) refl refl refl refl
